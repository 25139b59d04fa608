-- Which decimals are supported, test by test, and counts that stop at 2^62, which no text reaches.
-- Assumes nothing.
use mathlib.Core.Bool.{Bool, true, false, ◌&&◌}
use mathlib.Core.Option.{Option, none, some}
use mathlib.Core.Path.{◌≡◌, refl, sym, ◌∙◌}
use Prim.Native.Nat.{ℕ, ◌+◌, ◌-◌, ◌*◌, ◌^◌, ◌<◌, ◌≤◌, min}
use native.Mathlib.Nat.{lt_of_le_of_lt, zero-add, add-zero, le_refl, pow-le-pow_right}
use native.Mathlib.Omega.{arith}
use lib.Dec.{ltb, leb, lit<}
use borrow.Author.Tests.{lt-ltb, le-ltb, le-leb, lt-leb, leb-true, leb-false}
use Rattle.grammar.specs.Numbers.{nearest, scaled_bits}
use Rattle.number_decimals.specs.Decimals.{counted, few_digits, Unsigned, bits_of, powered_bits}
use Rattle.std.proofs.Common.{Some, None}
use Rattle.std.specs.Prelude.{Option as Answer}

and_false : (a : Bool) → (a && false) ≡ false
and_false true = refl
and_false false = refl

module _ (m a b : ℕ) where
  refused : (ltb m (10 ^ 15) && (leb a (b + 22) && leb b (a + 22))) ≡ false → scaled_bits m a b ≡ none
  unfolding scaled_bits
  refused e = rw (scaled_bits, e)

  pub no_digits_lem : 10 ^ 15 ≤ m → scaled_bits m a b ≡ none
  no_digits_lem h = refused (simp (le-ltb m (10 ^ 15) h))

  pub no_high : b + 22 < a → scaled_bits m a b ≡ none
  no_high h = refused (simp (lt-leb a (b + 22) h, and_false))

  pub no_low : a + 22 < b → scaled_bits m a b ≡ none
  no_low h = refused (simp (lt-leb b (a + 22) h, and_false))

  pub too_far : 22 < (a - b) + (b - a) → scaled_bits m a b ≡ none
  too_far h = go (leb b a) refl
    where
      go : (t : Bool) → leb b a ≡ t → scaled_bits m a b ≡ none
      go true e = let k = leb-true b a e in no_high (omega arith)
      go false e = let k = leb-false b a e in no_low (omega arith)

  taken : m < 10 ^ 15 → a ≤ b + 22 → b ≤ a + 22 → (ltb m (10 ^ 15) && (leb a (b + 22) && leb b (a + 22))) ≡ true
  taken h k l = simp (lt-ltb m (10 ^ 15) h, le-leb a (b + 22) k, le-leb b (a + 22) l)

  module _ (h : m < 10 ^ 15) where
    pub up_supported : b ≤ a → a - b ≤ 22 → scaled_bits m a b ≡ some (nearest (m * 10 ^ (a - b)) 1)
    unfolding scaled_bits
    up_supported k l = rw (scaled_bits, taken h (omega arith) (omega arith), le-leb b a k)

    pub down_supported : a < b → b - a ≤ 22 → scaled_bits m a b ≡ some (nearest m (10 ^ (b - a)))
    unfolding scaled_bits
    down_supported k l = rw (scaled_bits, taken h (omega arith) (omega arith), lt-leb b a k)

pub counted_le : (n : ℕ) → counted n ≤ 2 ^ 62
unfolding counted
counted_le n = go (leb n (2 ^ 62)) refl
  where
    go : (t : Bool) → leb n (2 ^ 62) ≡ t → counted n ≤ 2 ^ 62
    go true e = simp e (leb-true n (2 ^ 62) e)
    go false e = simp e (le_refl (2 ^ 62))

pub counted_same : (n : ℕ) → n ≤ 2 ^ 62 → counted n ≡ n
unfolding counted
counted_same n h = simp (le-leb n (2 ^ 62) h)

pub counted_most : (n : ℕ) → 2 ^ 62 < n → counted n ≡ 2 ^ 62
unfolding counted
counted_most n h = simp (lt-leb n (2 ^ 62) h)

-- as std's methods say it
pub counted_min : (n : ℕ) → min n (2 ^ 62) ≡ counted n
counted_min n = go (leb n (2 ^ 62)) refl
  where
    go : (t : Bool) → leb n (2 ^ 62) ≡ t → min n (2 ^ 62) ≡ counted n
    go true e = let h = leb-true n (2 ^ 62) e in rw (counted_same n h) (omega arith)
    go false e = let h = leb-false n (2 ^ 62) e in rw (counted_most n h) (omega arith)

pub counted_top : (n : ℕ) → counted (min n (2 ^ 64 - 1)) ≡ counted n
counted_top n = sym (counted_min (min n (2 ^ 64 - 1))) ∙ omega arith ∙ counted_min n

-- digits that are too many
pub many : (x z : ℕ) → 10 ^ 15 ≤ x → None ≡ few_digits x z
unfolding few_digits
many x z h = simp (le-ltb x (10 ^ 15) h)

-- an exponent out of reach
module _ (m zeros behind e : ℕ) where
  pub far_down : (down : Bool) → down ≡ true → (counted behind + e < 2 ^ 64 → ⊥) → powered_bits m zeros behind e down ≡ none
  unfolding powered_bits
  far_down down d h = rw d (let z = counted_le zeros in no_low m (0 + counted zeros) (counted behind + e) (omega arith))

  pub far_up : (down : Bool) → down ≡ false → (e + counted zeros < 2 ^ 64 → ⊥) → powered_bits m zeros behind e down ≡ none
  unfolding powered_bits
  far_up down d h = rw d (let b = counted_le behind in no_high m (e + counted zeros) (counted behind + 0) (omega arith))

module _ (m zeros behind e : ℕ) (down : Bool) where
  pub down_bits : (z b : ℕ) → z ≡ counted zeros → b ≡ counted behind → down ≡ true → scaled_bits m z (b + e) ≡ powered_bits m zeros behind e down
  unfolding powered_bits
  down_bits z b p q d = rw (d, p, q, zero-add)

  pub up_bits : (z b : ℕ) → z ≡ counted zeros → b ≡ counted behind → down ≡ false → scaled_bits m (e + z) b ≡ powered_bits m zeros behind e down
  unfolding powered_bits
  up_bits z b p q d = rw (d, p, q, add-zero)

-- the answers as they are seen
pub bits_are : (b : ℕ) (o : Option ℕ) → o ≡ some b → b < 2 ^ 63 → (bits_of (Some b) ≡ o) × (b < 2 ^ 63)
unfolding bits_of
bits_are b o e h = (sym e, h)

pub none_are : (r : Answer ℕ) (o : Option ℕ) → r ≡ None → o ≡ none → (bits_of r ≡ o) × Unsigned r
unfolding bits_of
none_are r o e f = rw (e, f) (refl, tt)

pub tens_small : (k : ℕ) → k < 20 → 10 ^ k < 2 ^ 64
tens_small k h = lt_of_le_of_lt (pow-le-pow_right (lit< tt) {i = k} {j = 19} (pred k h)) (lit< tt)
  where
    pred : (k : ℕ) → k < 20 → k ≤ 19
    pred k h = omega arith
