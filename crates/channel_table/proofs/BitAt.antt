-- The bits of a word: what `and` and `or` do to each, and which ones the bits from a to b are. By the laws of division by powers of two.
-- Assumes nothing.
use mathlib.Core.Path.{◌≡◌, refl, sym, ap, ◌∙◌}
use mathlib.Core.Bool.{Bool, true, false}
use Prim.Native.Nat.{ℕ, zero, suc, ◌+◌, ◌-◌, ◌*◌, ◌/◌, ◌%◌, ◌^◌, ◌≤◌, ◌<◌, min, max}
use native.Mathlib.Nat.{mod-lt, zero-lt-suc, pow-suc, mul-one, zero-div, div-add-mod'}
use native.Mathlib.Omega.{arith}
use lib.Dec.{leb}
use lib.Arith.{digits_div, digits_mod}
use lib.Bits.{bit_and, bit_or, and_shr, or_shr, and_step, or_step, shifted_half, shifted_even}
use lib.Pow.{pow_pos, shr-shr}
use borrow.Author.Tests.{le-leb, lt-leb, leb-true, leb-false}
use Rattle.channel_table.specs.Windows.{bits_of}

-- bit number k
abbrev pub bit : (k m : ℕ) → ℕ
bit k m = (m / 2 ^ k) % 2

-- a truth value as a bit
abbrev pub one : Bool → ℕ
one true = 1
one false = 0

two : 0 < 2
two = zero-lt-suc 1

-- the bits of a number are those of its half, one higher
bit_half : (k m : ℕ) → bit (suc k) m ≡ bit k (m / 2)
bit_half k m =
    let s : suc k ≡ 1 + k = omega arith in
    ap (λ (x : ℕ). x % 2) (ap (λ (i : ℕ). m / 2 ^ i) s ∙ sym (shr-shr m 1 k))

bit_low : (m : ℕ) → bit 0 m ≡ m % 2
bit_low m = let e : m / 1 ≡ m = omega arith in ap (λ (x : ℕ). x % 2) e

least_small : (x y : ℕ) → min (x % 2) (y % 2) < 2
least_small x y = omega (arith, mod-lt x two, mod-lt y two)

most_small : (x y : ℕ) → max (x % 2) (y % 2) < 2
most_small x y = omega (arith, mod-lt x two, mod-lt y two)

pub bit_and_lem : (k a b : ℕ) → bit k (bit_and a b) ≡ min (bit k a) (bit k b)
bit_and_lem k a b =
    let x : ℕ = a / 2 ^ k in
    let y : ℕ = b / 2 ^ k in
    ap (λ (i : ℕ). i % 2) (and_shr a b k ∙ and_step x y) ∙ digits_mod (bit_and (x / 2) (y / 2)) (least_small x y)

pub bit_or_lem : (k a b : ℕ) → bit k (bit_or a b) ≡ max (bit k a) (bit k b)
bit_or_lem k a b =
    let x : ℕ = a / 2 ^ k in
    let y : ℕ = b / 2 ^ k in
    ap (λ (i : ℕ). i % 2) (or_shr a b k ∙ or_step x y) ∙ digits_mod (bit_or (x / 2) (y / 2)) (most_small x y)

-- the n + 1 lowest bits
abbrev ones : (n : ℕ) → ℕ
ones n = (2 ^ n - 1) + (2 ^ n - 1) + 1

ones_next : (n : ℕ) → ones (suc n) ≡ ones n * 2 + 1
ones_next n = let p : 2 ^ suc n ≡ 2 ^ n * 2 = pow-suc 2 n in omega (arith, pow_pos n)

one_two : 1 < 2
one_two = omega arith

pub zero_bit : (k : ℕ) → bit k 0 ≡ 0
zero_bit k = let e : 0 / 2 ^ k ≡ 0 = zero-div (2 ^ k) in ap (λ (x : ℕ). x % 2) e

same : (k n : ℕ) → leb k n ≡ leb (suc k) (suc n)
same k n = go (leb k n) refl
  where
    go : (b : Bool) → leb k n ≡ b → leb k n ≡ leb (suc k) (suc n)
    go true e = e ∙ sym (le-leb (suc k) (suc n) (omega (arith, leb-true k n e)))
    go false e = e ∙ sym (lt-leb (suc k) (suc n) (omega (arith, leb-false k n e)))

ones_bit : (k n : ℕ) → bit k (ones n) ≡ one (leb k n)
ones_bit zero zero = refl
ones_bit zero (suc n) = bit_low (ones (suc n)) ∙ ap (λ (i : ℕ). i % 2) (ones_next n) ∙ digits_mod (ones n) one_two ∙ ap one (sym (le-leb 0 (suc n) (omega arith)))
ones_bit (suc k) zero = bit_half k 1 ∙ zero_bit k ∙ ap one (sym (lt-leb (suc k) 0 (omega arith)))
ones_bit (suc k) (suc n) = bit_half k (ones (suc n)) ∙ ap (bit k) (ap (λ (i : ℕ). i / 2) (ones_next n) ∙ digits_div (ones n) one_two) ∙ ones_bit k n ∙ ap one (same k n)

-- bits that were moved up
moved_above : (k a m : ℕ) → a ≤ k → bit k (m * 2 ^ a) ≡ bit (k - a) m
moved_above k zero m l = let e : k - 0 ≡ k = omega arith in ap (bit k) (mul-one m) ∙ ap (λ (i : ℕ). bit i m) (sym e)
moved_above zero (suc a) m l = absurd (omega arith)
moved_above (suc k) (suc a) m l =
    let e : suc k - suc a ≡ k - a = omega arith in
    bit_half k (m * 2 ^ suc a) ∙ ap (bit k) (shifted_half m a) ∙ moved_above k a m (omega arith) ∙ ap (λ (i : ℕ). bit i m) (sym e)

moved_below : (k a m : ℕ) → k < a → bit k (m * 2 ^ a) ≡ 0
moved_below k zero m l = absurd (omega arith)
moved_below zero (suc a) m l = bit_low (m * 2 ^ suc a) ∙ shifted_even m a
moved_below (suc k) (suc a) m l = bit_half k (m * 2 ^ suc a) ∙ ap (bit k) (shifted_half m a) ∙ moved_below k a m (omega arith)

-- Of the bits from a to b.
pub range_in : (k a b : ℕ) → a ≤ k → k ≤ b → bit k (bits_of a b) ≡ 1
unfolding bits_of
range_in k a b l h = moved_above k a (ones (b - a)) l ∙ ones_bit (k - a) (b - a) ∙ ap one (le-leb (k - a) (b - a) (omega arith))

pub range_above : (k a b : ℕ) → a ≤ b → b < k → bit k (bits_of a b) ≡ 0
unfolding bits_of
range_above k a b l h = moved_above k a (ones (b - a)) (omega arith) ∙ ones_bit (k - a) (b - a) ∙ ap one (lt-leb (k - a) (b - a) (omega arith))

pub range_below : (k a b : ℕ) → k < a → bit k (bits_of a b) ≡ 0
unfolding bits_of
range_below k a b l = moved_below k a (ones (b - a)) l

-- A number that is not 0 has a bit.
some_bit : (u m : ℕ) → m ≤ u → 0 < m → (k : ℕ) × (bit k m ≡ 1)
some_bit zero m l h = absurd (omega arith)
some_bit (suc u) m l h = go (m % 2) refl (some_bit u (m / 2))
  where
    go : (d : ℕ) → m % 2 ≡ d → (m / 2 ≤ u → 0 < m / 2 → (k : ℕ) × (bit k (m / 2) ≡ 1)) → (k : ℕ) × (bit k m ≡ 1)
    go zero e f =
        let z : m / 2 * 2 + m % 2 ≡ m = div-add-mod' m 2 in
        let g : (k : ℕ) × (bit k (m / 2) ≡ 1) = f (omega arith) (omega arith) in (suc g.0, bit_half g.0 m ∙ g.1)
    go (suc zero) e f = (0, bit_low m ∙ e)
    go (suc (suc d)) e f = absurd (omega (arith, mod-lt m two))

pub has_bit : (m : ℕ) → 0 < m → (k : ℕ) × (bit k m ≡ 1)
has_bit m h = some_bit m m (omega arith) h
