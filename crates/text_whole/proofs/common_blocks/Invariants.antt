-- The invariant: the first k blocks are common; 64 equal bytes are 64 steps of the common prefix.
use Prim.Native.Nat.{◌*◌}
use Rattle.text_whole.specs.Texts.{Shares}
use Rattle.text_whole.proofs.common_blocks.Given as goal

abbrev pub invariant-loop-k : goal.invariant-loop-k
invariant-loop-k l = Shares l.older l.newer (l.k * 64)
