-- The invariant: the pieces before j, but for the head, start before the target.
use Rattle.piece_directory.specs.Olds.{olds_of, Passed}
use Rattle.reread_older.proofs.first_from.Given as goal

abbrev pub invariant-loop-j : goal.invariant-loop-j
invariant-loop-j l = Passed (olds_of l.entries l.directory) l.j l.target
