-- The binary64 nearest a quotient, from its significand and what is left: to scale both sides of the quotient alike changes neither the bits nor
-- how it is rounded.
-- Assumes nothing.
use mathlib.Core.Bool.{Bool, true, false}
use mathlib.Core.Path.{◌≡◌, refl, sym, ap, ap₂, ◌∙◌, subst}
use Prim.Native.Nat.{ℕ, zero, suc, ◌+◌, ◌-◌, ◌*◌, ◌/◌, ◌%◌, ◌^◌, ◌<◌, ◌≤◌, zero-le}
use native.Mathlib.Nat.{lt_of_le_of_lt, add-mul, add-sub_cancel_left, one-mul, mul_assoc, mul-mul-mul_comm, mul-le-mul_right, mul-lt-mul_of_pos_right, eq_of_mul-eq-mul_right, le-div_iff_mul-le, div-lt_iff_lt-mul, div-div-eq-div-mul, pow-suc, pow-le-pow_right}
use native.Mathlib.Omega.{arith}
use lib.Arith.{digits_div, digits_mod}
use lib.Dec.{ltb, eqb, lit<}
use lib.Pow.{pow_pos, pow-add}
use borrow.Author.Tests.{lt-ltb, le-ltb, eq-eqb, ne_eqb, ltb-true, ltb-false, eqb-true, eqb-false}
use Rattle.grammar.specs.Numbers.{log2, rounded, nearest_whole, nearest_at, nearest_scaled, nearest}
use Rattle.grammar.specs.Powers.{log2_is}

-- tests keep their answer where both sides are scaled alike
ltb_scale : (a b c : ℕ) → 0 < c → ltb (a * c) (b * c) ≡ ltb a b
ltb_scale a b c h = go (ltb a b) refl
  where
    go : (t : Bool) → ltb a b ≡ t → ltb (a * c) (b * c) ≡ ltb a b
    go true e = lt-ltb (a * c) (b * c) (mul-lt-mul_of_pos_right {k = c} (ltb-true a b e) h) ∙ sym e
    go false e = le-ltb (a * c) (b * c) (mul-le-mul_right c (ltb-false a b e)) ∙ sym e

eqb_scale : (a b c : ℕ) → 0 < c → eqb (a * c) (b * c) ≡ eqb a b
eqb_scale a b c h = go (eqb a b) refl
  where
    go : (t : Bool) → eqb a b ≡ t → eqb (a * c) (b * c) ≡ eqb a b
    go true e = eq-eqb (a * c) (b * c) (ap (λ (x : ℕ). x * c) (eqb-true a b e)) ∙ sym e
    go false e = ne_eqb (a * c) (b * c) (λ p. eqb-false a b e (eq_of_mul-eq-mul_right c h a b p)) ∙ sym e

rounded_scale : (q r d c : ℕ) → 0 < c → rounded q (r * c) (d * c) ≡ rounded q r d
unfolding rounded
rounded_scale q r d c h = rw (sym (mul_assoc 2 r c), ltb_scale d (2 * r) c h, eqb_scale d (2 * r) c h)

-- the value scaled by 2^126 is a quotient q by d and r left, s bits further up; t bits more than 53 stand in front of the point
module _ (num den q r d s t : ℕ)
    (value : num * 2 ^ 126 ≡ (q * d + r) * 2 ^ s) (unit : den * 2 ^ t ≡ d * 2 ^ s) (left : r < d) (long : 2 ^ 52 ≤ q) (short : q < 2 ^ 53) (most : t ≤ 204) where
  parts : num * 2 ^ 126 ≡ q * (den * 2 ^ t) + r * 2 ^ s
  parts = value ∙ add-mul (q * d) r (2 ^ s) ∙ ap (λ (x : ℕ). x + r * 2 ^ s) (mul_assoc q d (2 ^ s) ∙ ap (λ (x : ℕ). q * x) (sym unit))

  rest_small : r * 2 ^ s < den * 2 ^ t
  rest_small = subst (λ (x : ℕ). r * 2 ^ s < x) (sym unit) (mul-lt-mul_of_pos_right {k = 2 ^ s} left (pow_pos s))

  quotient : num * 2 ^ 126 / (den * 2 ^ t) ≡ q
  quotient = ap (λ (x : ℕ). x / (den * 2 ^ t)) parts ∙ digits_div q rest_small

  remainder : num * 2 ^ 126 % (den * 2 ^ t) ≡ r * 2 ^ s
  remainder = ap (λ (x : ℕ). x % (den * 2 ^ t)) parts ∙ digits_mod q rest_small

  shifted : num * 2 ^ 126 / den / 2 ^ t ≡ q
  shifted = div-div-eq-div-mul (num * 2 ^ 126) den (2 ^ t) ∙ quotient

  at_least : 2 ^ (52 + t) ≤ num * 2 ^ 126 / den
  at_least = rw (pow-add 2 52 t) ((le-div_iff_mul-le (pow_pos t)).0 (subst (λ (x : ℕ). 2 ^ 52 ≤ x) (sym shifted) long))

  below : num * 2 ^ 126 / den < 2 ^ (53 + t)
  below = rw (pow-add 2 53 t) ((div-lt_iff_lt-mul (pow_pos t)).0 (subst (λ (x : ℕ). x < 2 ^ 53) (sym shifted) short))

  place : log2 256 (num * 2 ^ 126 / den) ≡ 52 + t
  place = log2_is 256 (num * 2 ^ 126 / den) (52 + t) (bound t most) at_least (subst (λ (x : ℕ). num * 2 ^ 126 / den < 2 ^ x) (up t) below)
    where
      bound : (t : ℕ) → t ≤ 204 → 52 + t ≤ 256
      bound t h = omega arith

      up : (t : ℕ) → 53 + t ≡ suc (52 + t)
      up t = omega arith

  pub nearest_is : nearest num den ≡ (t + 948) * 2 ^ 52 + rounded q r d
  unfolding nearest nearest_scaled nearest_at
  nearest_is =
      ap (λ (x : ℕ). nearest_at x (num * 2 ^ 126) den) place
      ∙ ap (λ (x : ℕ). (52 + t + 896) * 2 ^ 52 + nearest_whole (num * 2 ^ 126) (den * 2 ^ x)) (add-sub_cancel_left 52 t)
      ∙ ap (λ (x : ℕ). x * 2 ^ 52 + nearest_whole (num * 2 ^ 126) (den * 2 ^ t)) (exponent t)
      ∙ ap (λ (x : ℕ). (t + 948) * 2 ^ 52 + rounded x (num * 2 ^ 126 % (den * 2 ^ t)) (den * 2 ^ t)) quotient
      ∙ ap (λ (x : ℕ). (t + 948) * 2 ^ 52 + rounded q x (den * 2 ^ t)) remainder
      ∙ ap (λ (x : ℕ). (t + 948) * 2 ^ 52 + rounded q (r * 2 ^ s) x) unit
      ∙ ap (λ (x : ℕ). (t + 948) * 2 ^ 52 + x) (rounded_scale q r d (2 ^ s) (pow_pos s))
    where
      exponent : (t : ℕ) → 52 + t + 896 ≡ t + 948
      exponent t = omega arith

-- ten is five times two
pub tens : (k : ℕ) → 10 ^ k ≡ 5 ^ k * 2 ^ k
tens zero = refl
tens (suc k) =
    pow-suc 10 k ∙ ap (λ (x : ℕ). x * 10) (tens k) ∙ sym (mul-mul-mul_comm (5 ^ k) 5 (2 ^ k) 2)
    ∙ ap₂ (λ (x y : ℕ). x * y) (sym (pow-suc 5 k)) (sym (pow-suc 2 k))

pub fives_small : (k : ℕ) → k < 23 → 5 ^ k < 2 ^ 52
fives_small k h = lt_of_le_of_lt (pow-le-pow_right (lit< tt) {i = k} {j = 22} (pred k h)) (lit< tt)
  where
    pred : (k : ℕ) → k < 23 → k ≤ 22
    pred k h = omega arith

pub fives_pos : (k : ℕ) → 0 < 5 ^ k
fives_pos k = pow-le-pow_right {n = 5} (lit< tt) {i = 0} {j = k} zero-le

powers : (a b c : ℕ) → a + b ≡ c → 2 ^ a * 2 ^ b ≡ 2 ^ c
powers a b c e = sym (pow-add 2 a b) ∙ ap (λ (x : ℕ). 2 ^ x) e

-- m times ten to the k, where n bits were added to m times five to the k in halves of 52 bits
pub up_is : (m k q r n : ℕ) → q * 2 ^ 52 + r ≡ m * 5 ^ k * 2 ^ n → r < 2 ^ 52 → 2 ^ 52 ≤ q → q < 2 ^ 53 → n ≤ 104 → k < 23 →
    nearest (m * 10 ^ k) 1 ≡ (1126 + k - n) * 2 ^ 52 + rounded q r (2 ^ 52)
up_is m k q r n e left long short few small =
    nearest_is (m * 10 ^ k) 1 q r (2 ^ 52) s t value unit left long short (omega arith)
    ∙ ap (λ (x : ℕ). x * 2 ^ 52 + rounded q r (2 ^ 52)) (omega arith)
  where
    s : ℕ
    s = k + 126 - n

    t : ℕ
    t = 52 + (k + 126 - n)

    unit : 1 * 2 ^ t ≡ 2 ^ 52 * 2 ^ s
    unit = one-mul (2 ^ t) ∙ pow-add 2 52 s

    exponents : k + 126 ≡ n + (k + 126 - n)
    exponents = omega arith

    value : m * 10 ^ k * 2 ^ 126 ≡ (q * 2 ^ 52 + r) * 2 ^ s
    value =
        ap (λ (x : ℕ). m * x * 2 ^ 126) (tens k) ∙ ap (λ (x : ℕ). x * 2 ^ 126) (sym (mul_assoc m (5 ^ k) (2 ^ k)))
        ∙ mul_assoc (m * 5 ^ k) (2 ^ k) (2 ^ 126) ∙ ap (λ (x : ℕ). m * 5 ^ k * x) (powers k 126 (n + s) exponents ∙ pow-add 2 n s)
        ∙ sym (mul_assoc (m * 5 ^ k) (2 ^ n) (2 ^ s)) ∙ ap (λ (x : ℕ). x * 2 ^ s) (sym e)

-- m divided by ten to the k, where n bits were added to m divided by five to the k
pub down_is : (m k q r n : ℕ) → q * 5 ^ k + r ≡ m * 2 ^ n → r < 5 ^ k → 2 ^ 52 ≤ q → q < 2 ^ 53 → n ≤ 104 → k < 23 →
    nearest m (10 ^ k) ≡ (1074 - k - n) * 2 ^ 52 + rounded q r (5 ^ k)
down_is m k q r n e left long short few small =
    nearest_is m (10 ^ k) q r (5 ^ k) s t value unit left long short (omega arith)
    ∙ ap (λ (x : ℕ). x * 2 ^ 52 + rounded q r (5 ^ k)) (omega arith)
  where
    s : ℕ
    s = 126 - n

    t : ℕ
    t = 126 - n - k

    up : k + (126 - n - k) ≡ 126 - n
    up = omega arith

    unit : 10 ^ k * 2 ^ t ≡ 5 ^ k * 2 ^ s
    unit = ap (λ (x : ℕ). x * 2 ^ t) (tens k) ∙ mul_assoc (5 ^ k) (2 ^ k) (2 ^ t) ∙ ap (λ (x : ℕ). 5 ^ k * x) (powers k t s up)

    exponents : n + (126 - n) ≡ 126
    exponents = omega arith

    value : m * 2 ^ 126 ≡ (q * 5 ^ k + r) * 2 ^ s
    value = ap (λ (x : ℕ). m * x) (sym (powers n s 126 exponents)) ∙ sym (mul_assoc m (2 ^ n) (2 ^ s)) ∙ ap (λ (x : ℕ). x * 2 ^ s) (sym e)
