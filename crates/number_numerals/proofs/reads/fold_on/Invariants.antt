-- The invariant `Going`: the fold from i on, in the state so far, ends as it does from the start.
use Rattle.number_numerals.proofs.Onward.{Going}
use Rattle.number_numerals.proofs.reads.fold_on.Given as goal

abbrev pub invariant-loop-i : goal.invariant-loop-i
invariant-loop-i l = Going l.text l.c.at l.initial.s l.i l.s
