-- The search from the bit that the code has come to finds what the search from the start finds.
use Prim.Native.Nat.{◌-◌}
use mathlib.Core.Path.{◌≡◌}
use Rattle.channel_table.specs.Windows.{first_clear, window_size}
use Rattle.channel_table.proofs.windows.first_clear.Given as goal

abbrev pub invariant-loop-k : goal.invariant-loop-k
invariant-loop-k l = first_clear window_size 0 l.marks ≡ first_clear (window_size - l.k) l.k l.marks
