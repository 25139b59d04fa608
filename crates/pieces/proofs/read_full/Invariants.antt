-- What has been read is within the text.
use Rattle.std.proofs.Common.{length, ◌-◌, ◌≤◌}
use Rattle.pieces.proofs.read_full.Given as goal

abbrev pub invariant-loop-n : goal.invariant-loop-n
invariant-loop-n l = l.n ≤ length l.text

abbrev pub decreases-loop-n : goal.decreases-loop-n
decreases-loop-n l = length l.text - l.n
