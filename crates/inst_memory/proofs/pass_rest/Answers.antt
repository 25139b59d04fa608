-- It is the same reader, to which no array is lent.
use Rattle.inst_memory.proofs.AllocaLaws.{rest_dry}
use Rattle.inst_memory.proofs.pass_rest.Goals as goal

pub returns : goal.returns
returns c = rest_dry _ _ _ _ c.alloca_rest.ensures
