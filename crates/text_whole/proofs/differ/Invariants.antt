-- A bit that differs stays in d, so d is 0 only where all bytes so far are the same.
use mathlib.Core.Path.{◌≡◌}
use Rattle.text_whole.specs.Texts.{Same}
use Rattle.text_whole.proofs.differ.Given as goal

abbrev pub invariant-loop-k : goal.invariant-loop-k
invariant-loop-k l = l.d ≡ 0 → Same l.k l.p l.q l.older l.newer
