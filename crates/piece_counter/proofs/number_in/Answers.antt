use Rattle.piece_counter.proofs.CounterLaws.{digits_none, digits_more, digits_not, digits_all}
use Rattle.piece_counter.proofs.number_in.Goals as goal

pub loop-b-init : goal.loop-b-init
loop-b-init c = digits_none _

pub returns-then-d-ge-DIGIT : goal.returns-then-d-ge-DIGIT
returns-then-d-ge-DIGIT c = digits_not _ _ _ c.loop-b-test.true c.class-d.ensures c.loop-b.invariant c.if-d-ge-DIGIT.true

pub loop-b-preserved : goal.loop-b-preserved
loop-b-preserved c = digits_more _ _ _ c.loop-b-test.true c.class-d.ensures c.loop-b.invariant c.if-d-ge-DIGIT.false c.add_digit-v.ensures

pub returns : goal.returns
returns c = digits_all _ _ c.loop-b-test.false c.loop-b.invariant
