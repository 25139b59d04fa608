-- Behind the backslash: another one, or two digits, or the text's end.
use mathlib.Core.Path.{sym, ap, ◌∙◌}
use native.Mathlib.Omega.{arith}
use Rattle.program.specs.Class.{class_of}
use Rattle.lexer_spelling.proofs.Letters.{escape_out, escape_back, escape_cut, escape_pair}
use Rattle.lexer_spelling.proofs.escaped.Goals as goal

pub returns-in_err-high : goal.returns-in_err-high
returns-in_err-high c = rw c.from_residual.ensures (escape_out _ _ c.in_err-high.ensures.lookup.3)

pub returns-then-high-eq92 : goal.returns-then-high-eq92
returns-then-high-eq92 c =
    let h = c.in_ok-high.ensures.lookup.3 in
    record {
      some = rw (c.from.ensures, c.if-high-eq92.true) (escape_back _ _ h.0 (sym (h.1 0) ∙ c.if-high-eq92.true));
      on = omega arith;
      within = omega (arith, h.0);
    }

pub returns-in_err-low : goal.returns-in_err-low
returns-in_err-low c =
    let h = c.in_ok-high.ensures.lookup.3 in
    rw c.from_residual-in_err-low.ensures
    (escape_cut _ _ h.0 (λ e. c.if-high-eq92.false (h.1 0 ∙ e)) c.in_err-low.ensures.lookup.3)

pub returns : goal.returns
returns c =
    let h = c.in_ok-high.ensures.lookup.3 in
    let l = c.in_ok-low.ensures.lookup.3 in
    record {
      some =
          escape_pair _ _ h.0 (λ e. c.if-high-eq92.false (h.1 0 ∙ e)) l.0 _ _
          (c.from-2.ensures ∙ c.class.ensures ∙ ap class_of (h.1 0))
          (c.from-3.ensures ∙ c.class-2.ensures ∙ ap class_of (l.1 0));
      on = omega arith;
      within = omega (arith, l.0);
    }
