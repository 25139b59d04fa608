-- One step of the automaton is one call of the closure.
use native.Mathlib.Omega.{arith}
use borrow.Author.Rules.{rules}
use Rattle.lexer.proofs.Scan.{going_start, going_more, going_stop, going_past, passed_none, passed_some}
use Rattle.lexer.proofs.scan_text.Goals as goal

pub loop-i-init : goal.loop-i-init
loop-i-init g c = (omega arith, λ f s. going_start _ _ _)

pub returns-in-None : goal.returns-in-None
returns-in-None g c = λ f s.
    going_stop f _ _ _ c.loop-i.q c.loop-i-test.true
    (passed_none (s c.loop-i.q _ _ c.loop-i.invariant.0 (search rules) c.in-None.ensures)) (c.loop-i.invariant.1 f s)

pub loop-i-preserved : goal.loop-i-preserved
loop-i-preserved g c = (
  (search rules),
  λ f s.
      going_more f _ _ _ c.loop-i.q _ c.loop-i-test.true
      (passed_some (s c.loop-i.q _ _ c.loop-i.invariant.0 (search rules) c.in-Some.ensures)) (c.loop-i.invariant.1 f s),
)

pub returns : goal.returns
returns g c = λ f s. going_past f _ _ _ c.loop-i.q c.loop-i.auto.i c.loop-i-test.false c.max.ensures (c.loop-i.invariant.1 f s)
