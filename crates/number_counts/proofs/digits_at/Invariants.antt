-- The invariant `Counts`: the value so far, and that the digits left make the whole value of it.
use Rattle.number_counts.proofs.Count.{Counts}
use Rattle.number_counts.proofs.digits_at.Given as goal

abbrev pub invariant-loop-i : goal.invariant-loop-i
invariant-loop-i l = Counts l.text l.at l.i l.q l.val
