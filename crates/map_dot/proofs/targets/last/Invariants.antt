-- The last node from where the code has come to is the last from the start.
use mathlib.Core.Path.{◌≡◌}
use Prim.Native.Nat.{◌-◌}
use Rattle.map_spec.specs.Blocks.{last_from}
use Rattle.map_dot.proofs.targets.last.Given as goal

abbrev pub invariant-loop-i : goal.invariant-loop-i
invariant-loop-i l = last_from (l.n - l._i) l.own l.at ≡ last_from l.n l.own l.first
