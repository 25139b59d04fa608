-- Zeros behind a text.
-- Assumes nothing.
use mathlib.Core.List.{List, ◌++◌}
use Prim.Native.Nat.{ℕ, ◌-◌}
use lib.ListN.{length, take, replicate}

-- zeros from a place on
abbrev pub cleared : ℕ → List ℕ → List ℕ
cleared i xs = take i xs ++ replicate (length xs - i) 0
