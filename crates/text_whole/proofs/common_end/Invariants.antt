-- The invariant: the last c bytes behind a are common; the first that differs from the end, or a, ends the common suffix.
use Rattle.text_whole.specs.Texts.{Ends}
use Rattle.text_whole.proofs.common_end.Given as goal

abbrev pub invariant-loop-c : goal.invariant-loop-c
invariant-loop-c l = Ends l.older l.newer l.a l.c
