-- White space and a word; a rank below 7 is the operation's, else the word is none and both refuse behind it; a refusal is handed on.
use borrow.Author.Rules.{rules}
use mathlib.Core.Path.{◌≡◌, refl, sym, ap}
use Rattle.grammar.specs.Instructions.{rmw_op, rmw_ops}
use Rattle.lexer.specs.Parsed.{Err}
use Rattle.lexer.specs.Step.{refused}
use Rattle.lexer.proofs.Laws.{g_then, g_done, g_fail, handed}
use Rattle.inst_memory.proofs.MemoryLaws.{among_yes, among_no}
use Rattle.inst_memory.proofs.rmw_op.Goals as goal

pub returns-in_err-c : goal.returns-in_err-c
unfolding rmw_op
returns-in_err-c c =
    let e : c.from_residual.result ≡ Err (c.in_err-c.field-0.0) = search rules in
    rw e (λ r. g_then _ c.eat_ws-q.ensures (g_then _ c.read_word-x.ensures.gives (handed c.in_err-c.was refl)))

pub returns-then-r-lt7 : goal.returns-then-r-lt7
unfolding rmw_op rmw_ops
returns-then-r-lt7 c =
    g_then _ c.eat_ws-q.ensures
    (g_then _ c.read_word-x.ensures.gives
    (among_yes _ rmw_ops _ _ c.rmw_rank-r.ensures c.if-r-lt7.true (rw c.in_ok-c.was g_done)))

pub returns : goal.returns
unfolding rmw_op rmw_ops
returns c =
    λ r. g_then _ c.eat_ws-q.ensures
    (g_then _ c.read_word-x.ensures.gives
    (among_no _ rmw_ops _ _ c.rmw_rank-r.ensures c.if-r-lt7.false (g_fail _ (sym (ap (refused _) c.in_ok-c.was)))))
