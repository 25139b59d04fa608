-- The invariant: the last k blocks behind a are common; read backwards, 64 equal bytes are 64 steps of a common prefix.
use Prim.Native.Nat.{◌*◌}
use Rattle.text_whole.specs.Texts.{Ends}
use Rattle.text_whole.proofs.end_blocks.Given as goal

abbrev pub invariant-loop-k : goal.invariant-loop-k
invariant-loop-k l = Ends l.older l.newer l.a (l.k * 64)
