-- The significand found bit by bit: what each turn keeps.
-- Assumes nothing.
use mathlib.Core.Path.{◌≡◌, sym, ap, ◌∙◌, subst}
use Prim.Native.Nat.{ℕ, ◌+◌, ◌*◌, ◌^◌, ◌<◌, ◌≤◌}
use native.Mathlib.Nat.{le_trans, le_of_eq, lt_of_le_of_lt, lt_of_lt_of_le, one-mul, mul-le-mul_left, mul-le-mul_right, pow-succ', mul_left_comm}
use native.Mathlib.Numerals.{add-one}
use lib.Arith.{digits_lt}
use Rattle.grammar.specs.Powers.{pow_lt_cancel}

-- while the quotient has fewer than 53 bits, fewer than 104 were added
pub few_bits : (v d q rest n : ℕ) → 0 < v → q * d + rest ≡ v * 2 ^ n → q < 2 ^ 52 → rest < d → d ≤ 2 ^ 52 → n < 104
few_bits v d q rest n pos e h k l =
    pow_lt_cancel {a = n} {b = 104}
    (lt_of_le_of_lt (le_trans (le_of_eq (sym (one-mul (2 ^ n)))) (mul-le-mul_right (2 ^ n) pos))
    (lt_of_lt_of_le (subst (λ (x : ℕ). x < 2 ^ 52 * d) e (digits_lt h k)) (mul-le-mul_left (2 ^ 52) l)))

-- a bit more
pub next_bit : (v d q rest q' rest' n : ℕ) → q * d + rest ≡ v * 2 ^ n → q' * d + rest' ≡ 2 * (q * d + rest) → q' * d + rest' ≡ v * 2 ^ (n + 1)
next_bit v d q rest q' rest' n e f = f ∙ ap (λ (x : ℕ). 2 * x) e ∙ mul_left_comm 2 v (2 ^ n) ∙ ap (λ (x : ℕ). v * x) (sym (pow-succ' 2 n) ∙ ap (λ (x : ℕ). 2 ^ x) (sym (add-one n)))
