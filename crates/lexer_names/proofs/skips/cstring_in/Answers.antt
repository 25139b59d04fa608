-- The state in which the automaton stops says which: the quote, the text's end, or an escape that is cut off or bad.
use native.Mathlib.Omega.{arith}
use mathlib.Core.Path.{sym, ◌∙◌}
use Rattle.lexer.proofs.Scan.{byte_inside}
use Rattle.lexer_names.proofs.Strings.{cstring_cut, cstring_bad, cstring_open, cstring_shut}
use Rattle.lexer_names.proofs.skips.cstring_in.Goals as goal

pub overflow_add-n : goal.overflow_add-n
overflow_add-n c =
    omega (
      arith,
      c.saturating_sub-n.ensures,
      byte_inside c.args.text.now c.cstring_end-x.result.at 34
          (sym c.at_byte.ensures ∙ c.if-at_byte.true),
    )

pub overflow_add-result : goal.overflow_add-result
overflow_add-result c = omega (arith, byte_inside c.args.text.now c.cstring_end-x.result.at 34 (sym c.at_byte.ensures ∙ c.if-at_byte.true))

pub returns-then-at_byte : goal.returns-then-at_byte
returns-then-at_byte c =
    λ l. (cstring_shut _ _ c.args.c c.cstring_end-x.result c.cstring_end-x.ensures c.if-x-eq0.true _ _ (sym c.at_byte.ensures ∙ c.if-at_byte.true) l c.saturating_sub-n.ensures c.pack_word.ensures)

pub returns-then-x-eq0 : goal.returns-then-x-eq0
returns-then-x-eq0 c =
    λ l. rw c.not_closed.ensures (cstring_open _ _ c.args.c c.cstring_end-x.result c.cstring_end-x.ensures c.if-x-eq0.true
    (sym c.at_byte.ensures ∙ c.if-at_byte.false))

pub returns-then-x-eq1 : goal.returns-then-x-eq1
returns-then-x-eq1 c =
    λ l. rw c.not_closed-then-x-eq1.ensures (cstring_cut _ _ c.args.c c.cstring_end-x.result c.cstring_end-x.ensures c.if-x-eq0.false _ c.bump-behind.ensures c.if-x-eq1.true)

pub returns : goal.returns
returns c =
    λ l. (cstring_bad _ _ c.args.c c.cstring_end-x.result c.cstring_end-x.ensures c.if-x-eq0.false _ c.bump-behind.ensures c.if-x-eq1.false)
