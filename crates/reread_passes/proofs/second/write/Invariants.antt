-- The invariant: the pieces up to the spot's number stand in the arrays, and nothing else changed. What is read is what the first pass counted, so none refuses.
use Prim.Native.Nat.{◌-◌}
use Rattle.reread_passes.proofs.Rewrite.{Writing}
use Rattle.reread_passes.proofs.second.write.Given as goal

abbrev pub invariant-loop-spot : goal.invariant-loop-spot
invariant-loop-spot l = Writing l.newer l.initial.spot.number l.initial.spot.pos l.initial.spot.word l.initial.spot.counter l.behind.number l.to l.initial.words l.initial.directory l.spot.number l.spot.pos l.spot.word l.spot.counter l.words l.directory

abbrev pub decreases-loop-spot : goal.decreases-loop-spot
decreases-loop-spot l = l.behind.number - l.spot.number
