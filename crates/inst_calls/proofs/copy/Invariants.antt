-- The invariant: k words are copied; past the array's end there is nothing to store, so a copy that stops there is the whole copy.
use mathlib.Core.Path.{◌≡◌}
use Prim.Native.Nat.{◌≤◌}
use lib.ListN.{length}
use Rattle.inst_calls.specs.Copy.{copied}
use Rattle.inst_calls.proofs.copy.Given as goal

abbrev pub invariant-loop-k : goal.invariant-loop-k
invariant-loop-k l = (l.k ≤ l.n) × (l.words ≡ copied l.k l.from l.to l.initial.words) × (length l.words ≡ length l.initial.words)
