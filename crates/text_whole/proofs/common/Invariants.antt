-- The invariant: the first i bytes are common; the first that differs, or a text's end, ends the common prefix.
use Rattle.text_whole.specs.Texts.{Shares}
use Rattle.text_whole.proofs.common.Given as goal

abbrev pub invariant-loop-i : goal.invariant-loop-i
invariant-loop-i l = Shares l.older l.newer l.i
