-- A `_` changes nothing; any other byte is a digit more.
use Rattle.number_counts.proofs.Count.{add_none, add_some}
use Rattle.number_counts.proofs.add_digit.Goals as goal

pub returns-then-b-eq95 : goal.returns-then-b-eq95
returns-then-b-eq95 c = add_none _ _ c.if-b-eq95.true

pub returns-else-b-eq95 : goal.returns-else-b-eq95
returns-else-b-eq95 c = add_some _ _ _ _ c.if-b-eq95.false c.class.ensures c.shift.ensures
