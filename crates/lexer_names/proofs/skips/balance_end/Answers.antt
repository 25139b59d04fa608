use mathlib.Core.Path.{refl, sym, ◌∙◌}
use native.Mathlib.Omega.{arith}
use Rattle.grammar.specs.Lexer.{balance_step}
use Rattle.lexer.proofs.Scan.{scan_out, end_at}
use Rattle.lexer_names.proofs.Strings.{balance_left, balance_other, balance_right, balance_stop}
use Rattle.lexer_names.proofs.skips.balance_end.Goals as goal
use Rattle.lexer_names.proofs.skips.balance_end.Goals.{then-b-left, else-b-left+then-b-right+else-q-eq0, else-b-left+else-b-right}

pub loop-i-init : goal.loop-i-init
loop-i-init c = (omega arith, refl)

pub overflow_add-q : goal.overflow_add-q
overflow_add-q c = omega (arith, c.loop-i.invariant.0)

pub returns-then-q-eq0 : goal.returns-then-q-eq0
returns-then-q-eq0 c =
    sym
    (c.loop-i.invariant.1 ∙ balance_stop _ _ _ _ _ c.loop-i-test.true c.if-b-left.false c.if-b-right.true c.if-q-eq0.true)

pub loop-i-preserved : goal.loop-i-preserved
loop-i-preserved c =
    elim c.if-b-left.branch [
      | then-b-left w ↦
          rw w.q-is (omega (arith, c.loop-i.invariant.0), c.loop-i.invariant.1 ∙ balance_left _ _ _ _ _ c.loop-i-test.true w.if-b-left.true)
      | else-b-left+then-b-right+else-q-eq0 w ↦
          rw w.q-is (omega (arith, c.loop-i.invariant.0), c.loop-i.invariant.1 ∙ balance_right _ _ _ _ _ c.loop-i-test.true w.if-b-left.false w.if-b-right.true w.if-q-eq0.false)
      | else-b-left+else-b-right w ↦
          rw w.q-is (omega (arith, c.loop-i.invariant.0), c.loop-i.invariant.1 ∙ balance_other _ _ _ _ _ c.loop-i-test.true w.if-b-left.false w.if-b-right.false)
    ]

pub returns : goal.returns
returns c =
    let e = c.loop-i.invariant.1 ∙ scan_out (balance_step _ _) _ _ _ c.loop-i-test.false in
    end_at (balance_step _ _) 0 _ c.loop-i.auto.i c.loop-i-test.false c.max.ensures e ∙ sym e
