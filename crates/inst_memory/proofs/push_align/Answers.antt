-- An alignment that is there is pushed as its one word, and one that is not leaves cursor and words as they are.
use mathlib.Core.Path.{refl}
use Rattle.inst_memory.specs.Alloca.{aligned_p, aligns}
use Rattle.inst_memory.proofs.push_align.Goals as goal

pub returns-in-Some : goal.returns-in-Some
unfolding aligned_p aligns
returns-in-Some c = rw c.in-Some.is c.push.ensures

pub returns-in-None : goal.returns-in-None
unfolding aligned_p aligns
returns-in-None c = rw c.in-None.is (refl, refl)
