-- The form has the kinds and the number of children that the definition has.
use Rattle.grammar.specs.Instructions.{parse_load}
use Rattle.inst_memory.proofs.parse_load.Goals as goal

pub returns : goal.returns
unfolding parse_load
returns c = c.parse_access.ensures
