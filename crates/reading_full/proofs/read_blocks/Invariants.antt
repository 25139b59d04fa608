-- The invariant: the pieces read stand in front of both arrays, and the verdict on all is that on the rest. A block takes a byte, so the text left falls.
use Prim.Native.Nat.{◌-◌}
use lib.ListN.{length}
use Rattle.reading_full.specs.Full.{Come}
use Rattle.reading_full.proofs.read_blocks.Given as goal

abbrev pub invariant-loop-r : goal.invariant-loop-r
invariant-loop-r l = Come l.text l.to (length l.fn.directory) l.spot.number l.spot.pos l.spot.word l.spot.counter l.words l.directory

abbrev pub decreases-loop-r : goal.decreases-loop-r
decreases-loop-r l = length l.text - l.spot.pos
