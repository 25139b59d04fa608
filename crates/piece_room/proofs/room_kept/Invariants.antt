-- The invariant: the verdict on all old pieces is that on those from k on, at the place that the loop has.
use lib.ListN.{length, drop}
use Rattle.records.specs.Pieces.{judge}
use Rattle.piece_directory.specs.Olds.{olds_of}
use Rattle.piece_room.proofs.Judge.{sizes_of, Judging}
use Rattle.piece_room.proofs.room_kept.Given as goal

abbrev pub invariant-loop-k : goal.invariant-loop-k
invariant-loop-k l = Judging l.fn.older.words (length l.directory) l.fn.older.entries l.directory (judge l.fn.older.words (length l.directory) l.fn.spot.number l.fn.spot.pos l.fn.spot.word (sizes_of (drop l.fn.from (olds_of l.fn.older.entries l.directory)))) l.k l.next.number l.next.pos l.next.word
