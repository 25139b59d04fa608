-- The invariant: all bytes from `from` up to i are letters, digits or `_`.
use Rattle.reread_kept.proofs.Front.{Searching}
use Rattle.reread_kept.proofs.word_end.Given as goal

abbrev pub invariant-loop-i : goal.invariant-loop-i
invariant-loop-i l = Searching l.text l.from l.i
