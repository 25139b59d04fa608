-- The tests of the code are those of the definition, in its order.
use native.Mathlib.Omega.{arith}
use Rattle.std.proofs.lemmas.Grind.{common_steps}
use Rattle.trees.specs.Steps.{is_named}
use Rattle.record_steps.proofs.names.is_named.Goals as goal

pub returns-then-between : goal.returns-then-between
unfolding is_named
returns-then-between c = grind (arith, common_steps)

pub returns-else-between : goal.returns-else-between
unfolding is_named
returns-else-between c = grind (arith, common_steps)
