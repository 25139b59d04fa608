-- The invariant: pieces up to the spot's number are read, and the verdict on all is that on the rest. What is left of the text falls, as a block takes a byte.
use Prim.Native.Nat.{◌+◌, ◌-◌}
use lib.ListN.{length}
use Rattle.reread_passes.specs.First.{Dry}
use Rattle.reread_passes.proofs.first.read_dry.Given as goal

abbrev pub invariant-loop-r : goal.invariant-loop-r
invariant-loop-r l = Dry l.older l.newer l.known.words l.known.entries l.directory l.spot.number l.spot.pos l.spot.word l.spot.counter l.from

abbrev pub decreases-loop-r : goal.decreases-loop-r
decreases-loop-r l = length l.newer - l.spot.pos + (1 - l.spot.number)
