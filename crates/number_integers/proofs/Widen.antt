-- The bits of a binary32 widened to binary64. A subnormal's highest bit is at 31 less its leading zeros, which gives exponent and shift.
-- Assumes nothing.
use mathlib.Core.Path.{◌≡◌, sym, ap, ◌∙◌, subst}
use Prim.Native.Nat.{ℕ, suc, ◌+◌, ◌-◌, ◌*◌, ◌/◌, ◌%◌, ◌^◌, ◌<◌, ◌≤◌}
use native.Mathlib.Nat.{lt_of_le_of_lt, add-zero, add-mul, suc-add, sub-add_cancel, mod-eq_of_lt, lt_of_lt_of_le}
use native.Mathlib.Omega.{arith}
use lib.Count.{count_leading_zeros, leading_top}
use lib.Dec.{lit≤}
use lib.Pow.{pow-add, shl_lt}
use borrow.Author.Tests.{eq-eqb, ne_eqb, le-leb, lt-leb}
use Rattle.grammar.specs.Numbers.{widen, widen_parts, special_bits, subnormal_at, subnormal_bits}
use Rattle.grammar.specs.Powers.{pow_lt_cancel, log2_is}

-- exponent 255
pub infinity_is : (f : ℕ) → f ≡ 0 → 9218868437227405312 ≡ special_bits f
unfolding special_bits
infinity_is f e = rw e

pub quiet_is : (f : ℕ) → (f ≡ 0 → ⊥) → 4194304 ≤ f → 9218868437227405312 + f * 536870912 ≡ special_bits f
unfolding special_bits
quiet_is f n h = rw (ne_eqb f 0 n, le-leb (2 ^ 22) f h)

pub loud_is : (f : ℕ) → (f ≡ 0 → ⊥) → f < 4194304 → 9218868437227405312 + (f + 4194304) * 536870912 ≡ special_bits f
unfolding special_bits
loud_is f n h = rw (ne_eqb f 0 n, lt-leb (2 ^ 22) f h)

-- a subnormal
regroup : (z j x : ℕ) → z + suc j ≡ 32 → (904 - z) * 4503599627370496 + (x + 4503599627370496) ≡ (j + 874) * 4503599627370496 + x
regroup z j x e = omega arith

module _ (f : ℕ) (pos : 0 < f) (small : f < 2 ^ 23) where
  top : (j : ℕ) × (count_leading_zeros 32 f + suc j ≡ 32) × (2 ^ j ≤ f) × (f < 2 ^ suc j)
  top = leading_top 32 f pos (lt_of_lt_of_le small (lit≤ tt))

  j_small : top.0 < 23
  j_small = pow_lt_cancel (lt_of_le_of_lt top.2 small)

  pub zeros_many : (9 ≤ count_leading_zeros 32 f) × (count_leading_zeros 32 f ≤ 31)
  zeros_many = let e = top.1 in let k = j_small in (omega arith, omega arith)

  exponents : top.0 + (count_leading_zeros 32 f + 21) ≡ 52
  exponents = let e = top.1 in omega arith

  pub shifted_small : f * 2 ^ (count_leading_zeros 32 f + 21) < 2 ^ 53
  shifted_small =
      subst (λ (n : ℕ). f * 2 ^ (count_leading_zeros 32 f + 21) < 2 ^ n) (suc-add top.0 (count_leading_zeros 32 f + 21) ∙ ap suc exponents)
      (shl_lt (suc top.0) (count_leading_zeros 32 f + 21) top.3)

  pub shift_exact : f * 2 ^ (count_leading_zeros 32 f + 21) % 2 ^ 64 ≡ f * 2 ^ (count_leading_zeros 32 f + 21)
  shift_exact = mod-eq_of_lt (lt_of_lt_of_le shifted_small (lit≤ tt))

  pub subnormal_is : (904 - count_leading_zeros 32 f) * 2 ^ 52 + f * 2 ^ (count_leading_zeros 32 f + 21) ≡ subnormal_bits f
  unfolding subnormal_bits subnormal_at
  subnormal_is =
      let j = top.0 in
      let y = count_leading_zeros 32 f + 21 in
      let k : 52 - j ≡ y = (let e = exponents in omega arith) in
      let s : f * 2 ^ y ≡ (f - 2 ^ j) * 2 ^ y + 2 ^ 52 =
      ap (λ (x : ℕ). x * 2 ^ y) (sym (sub-add_cancel top.2)) ∙ add-mul (f - 2 ^ j) (2 ^ j) (2 ^ y)
      ∙ ap (λ (x : ℕ). (f - 2 ^ j) * 2 ^ y + x) (sym (pow-add 2 j y) ∙ ap (λ (x : ℕ). 2 ^ x) exponents) in
      rw (log2_is 23 f j (below j j_small) top.2 top.3, k, s)
      (regroup (count_leading_zeros 32 f) j ((f - 2 ^ j) * 2 ^ y) top.1)
    where
      below : (j : ℕ) → j < 23 → j ≤ 23
      below j h = omega arith

-- sign, exponent and fraction
module _ (b s e f : ℕ) (p : s ≡ b / 2 ^ 31) (q : e ≡ b / 2 ^ 23 % 256) (r : f ≡ b % 2 ^ 23) where
  whole : widen_parts s e f ≡ widen b
  unfolding widen
  whole = rw (p, q, r)

  pub special_case : (x : ℕ) → e ≡ 255 → x ≡ special_bits f → s * 2 ^ 63 + x ≡ widen b
  unfolding widen_parts
  special_case x h k = rw (k, ← whole, eq-eqb e 255 h)

  pub zero_case : e ≡ 0 → f ≡ 0 → s * 2 ^ 63 ≡ widen b
  unfolding widen_parts
  zero_case h k = rw (← whole, h, k) (sym (add-zero (s * 2 ^ 63)))

  pub subnormal_case : (x : ℕ) → e ≡ 0 → (f ≡ 0 → ⊥) → x ≡ subnormal_bits f → s * 2 ^ 63 + x ≡ widen b
  unfolding widen_parts
  subnormal_case x h k m = rw (m, ← whole, h, ne_eqb f 0 k)

  pub normal_case : (e ≡ 255 → ⊥) → (e ≡ 0 → ⊥) → s * 2 ^ 63 + ((e + 896) * 2 ^ 52 + f * 2 ^ 29) ≡ widen b
  unfolding widen_parts
  normal_case h k = rw (← whole, ne_eqb e 255 h, ne_eqb e 0 k)
