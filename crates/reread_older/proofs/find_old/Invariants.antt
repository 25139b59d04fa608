-- The invariant: of the pieces that start at the target none before j has the counter; starts do not fall, so a later one ends the search.
use Rattle.piece_directory.specs.Olds.{olds_of}
use Rattle.reread_older.proofs.Find.{Seeking}
use Rattle.reread_older.proofs.find_old.Given as goal

abbrev pub invariant-loop-j : goal.invariant-loop-j
invariant-loop-j l = Seeking (olds_of l.entries l.directory) l.target l.counter l.j
