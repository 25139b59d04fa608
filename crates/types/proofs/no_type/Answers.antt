-- By the test of the depth, which is that of `no_type`.
use Rattle.types.proofs.TypeLaws.{none_left, some_left}
use Rattle.types.proofs.no_type.Goals as goal

pub returns-then-depth-eq0 : goal.returns-then-depth-eq0
returns-then-depth-eq0 c = none_left _ c.if-depth-eq0.true

pub returns : goal.returns
returns c = some_left _ c.if-depth-eq0.false
