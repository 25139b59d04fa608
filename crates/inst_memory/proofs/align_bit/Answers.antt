-- An alignment that is there is one word and gives 2, and one that is not is none and gives 0.
use Rattle.inst_operands.specs.Trailing.{align_of}
use Rattle.inst_memory.proofs.align_bit.Goals as goal

pub returns-in-Some : goal.returns-in-Some
unfolding align_of
returns-in-Some c = rw c.in-Some.is

pub returns-in-None : goal.returns-in-None
unfolding align_of
returns-in-None c = rw c.in-None.is
