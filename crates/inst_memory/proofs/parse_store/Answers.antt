-- The form has the kinds and the number of children that the definition has.
use Rattle.grammar.specs.Instructions.{parse_store}
use Rattle.inst_memory.proofs.parse_store.Goals as goal

pub returns : goal.returns
unfolding parse_store
returns c = c.parse_access.ensures
