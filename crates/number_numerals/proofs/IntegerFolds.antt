-- The folds of integers: from nothing, digits w fold to the number that w writes, since a number that is too large stays so.
-- Assumes nothing.
use mathlib.Core.Bool.{Bool, true, false}
use mathlib.Core.List.{List}
use mathlib.Core.Path.{◌≡◌, refl}
use Prim.Native.Nat.{ℕ, ◌+◌, ◌*◌, ◌^◌, ◌<◌, ◌≤◌}
use native.Mathlib.Nat.{le_trans}
use native.Mathlib.Omega.{arith}
use lib.Dec.{leb}
use borrow.Author.Tests.{le-leb, lt-leb, leb-true}
use Rattle.std.proofs.Common.{Some, None}
use Rattle.program.specs.Choice.{pick}
use Rattle.grammar.specs.Numbers.{value_of, largest, twos}
use Rattle.number_integers.specs.Folds.{folded}
use Rattle.number_integers.specs.Integers.{magnitude_of, pushed, signed_of}
use Rattle.number_bits.specs.Number.{capped, shifted}
use Rattle.number_bits.proofs.Shifts.{shifted_more}
use Rattle.number_integers.proofs.Folds.{holds_value}

more : (v d : ℕ) → v ≤ v * 10 + d
more v d = omega arith

pub pushed_more : (v d : ℕ) → pushed (magnitude_of v) d ≡ magnitude_of (v * 10 + d)
unfolding pushed magnitude_of
pushed_more v d = go (leb (2 ^ 128) v) refl
  where
    go : (t : Bool) → leb (2 ^ 128) v ≡ t → pushed (magnitude_of v) d ≡ magnitude_of (v * 10 + d)
    go true e = simp (e, le-leb (2 ^ 128) (v * 10 + d) (le_trans (leb-true (2 ^ 128) v e) (more v d)))
    go false e = simp e

pub magnitude_value : (w : List ℕ) (v : ℕ) → folded pushed (magnitude_of v) w ≡ magnitude_of (value_of v w)
magnitude_value = holds_value pushed magnitude_of pushed_more

pub number_value : (w : List ℕ) (v : ℕ) → folded shifted (capped v) w ≡ capped (value_of v w)
number_value = holds_value shifted capped shifted_more

largest_small : (neg : Bool) → largest neg < 2 ^ 128
unfolding largest
largest_small true = lib.Dec.lit< tt
largest_small false = lib.Dec.lit< tt

-- what is held is judged as the number is
pub signed_value : (neg : Bool) (v : ℕ) → signed_of neg (magnitude_of v) ≡ pick (leb v (largest neg)) (Some (twos neg v)) None
unfolding signed_of magnitude_of
signed_value neg v = go (leb (2 ^ 128) v) refl
  where
    go : (t : Bool) → leb (2 ^ 128) v ≡ t → signed_of neg (magnitude_of v) ≡ pick (leb v (largest neg)) (Some (twos neg v)) None
    go true e = simp (e, lt-leb v (largest neg) (le_trans (largest_small neg) (leb-true (2 ^ 128) v e)))
    go false e = simp e
