-- The invariant: k entries are moved, and pos and word are where the next starts; sums stay below 2^32 as the last does; the counters stay.
use Rattle.piece_directory.proofs.Moved.{Renumbering}
use Rattle.piece_directory.proofs.arrays.renumber.Given as goal

abbrev pub invariant-loop-k : goal.invariant-loop-k
invariant-loop-k l = Renumbering l.initial.directory l.spot.number l.n l.spot.pos l.spot.word l.k l.pos l.word l.directory
