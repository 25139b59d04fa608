-- The table's words are the definition's 7 operations.
use Rattle.grammar.specs.Instructions.{rmw_ops}
use Rattle.inst_memory.proofs.rmw_rank.Goals as goal

pub returns : goal.returns
unfolding rmw_ops
returns c = c.spelled_rank.ensures
