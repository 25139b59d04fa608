use Rattle.lexer.proofs.Scan.{passed_none, passed_some}
use Rattle.number_counts.proofs.Count.{count_none, count_more, count_stop, count_past}
use Rattle.number_counts.proofs.digits_at.Goals as goal

pub loop-i-init : goal.loop-i-init
loop-i-init c = count_none _ _

pub returns-in-None : goal.returns-in-None
returns-in-None c = count_stop _ _ _ _ _ c.loop-i-test.true (passed_none c.in-None.ensures) c.loop-i.invariant

pub loop-i-preserved : goal.loop-i-preserved
loop-i-preserved c = count_more _ _ _ _ _ _ _ c.loop-i-test.true (passed_some c.in-Some.ensures) c.loop-i.invariant c.add_digit-val.ensures

pub returns : goal.returns
returns c = count_past _ _ _ _ _ _ c.loop-i.auto.i c.loop-i-test.false c.max.ensures c.loop-i.invariant
