-- Between quotes a backslash begins an escape; any other byte stands for itself.
use mathlib.Core.Path.{sym, ◌∙◌}
use native.Mathlib.Omega.{arith}
use Rattle.lexer_spelling.proofs.Letters.{letter_out, letter_itself, letter_escaped}
use Rattle.lexer_spelling.proofs.next_letter.Goals as goal

pub returns-in_err-b : goal.returns-in_err-b
returns-in_err-b c = rw c.from_residual.ensures (letter_out _ _ c.args.q c.in_err-b.ensures.lookup.3)

pub returns-then-b-eq92 : goal.returns-then-b-eq92
returns-then-b-eq92 c =
    let h = c.in_ok-b.ensures.lookup.3 in
    rw c.if-q.true (letter_escaped _ _ _ h.0 (sym (h.1 0) ∙ c.if-b-eq92.true) c.escaped.ensures)

pub returns : goal.returns
returns c =
    let h = c.in_ok-b.ensures.lookup.3 in
    record {
      some = rw c.from.ensures (letter_itself _ _ h.0 c.args.q _ (h.1 0) c.else-q.either);
      on = omega arith;
      within = omega (arith, h.0);
    }
