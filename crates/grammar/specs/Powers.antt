-- Laws on powers of two and on `log2`, the place of a number's highest bit: halving takes one from it.
-- Assumes nothing.
use Rattle.std.specs.Prelude.{◌≡◌, refl, ℕ, zero, suc, ◌/◌, ◌^◌, ◌<◌, ◌≤◌}
use Rattle.std.proofs.Common.{ap, subst, le_trans, lt_of_not-le, not-le_of_lt, not-suc-le-zero, le_of_suc-le-suc, pow-suc, le-div_iff_mul-le, div-lt_iff_lt-mul, arith, lit<, pow_mono, lt-ltb, le-ltb}
use Rattle.grammar.specs.Numbers.{log2}

-- of two powers, the smaller has the smaller exponent
pub pow_lt_cancel : {a b : ℕ} → 2 ^ a < 2 ^ b → a < b
pow_lt_cancel h = lt_of_not-le (λ g. not-le_of_lt h (pow_mono g))

-- the highest bit of n is bit p
pub log2_is : (u n p : ℕ) → p ≤ u → 2 ^ p ≤ n → n < 2 ^ suc p → log2 u n ≡ p
unfolding log2
log2_is zero n zero h lo hi = refl
log2_is zero n (suc p) h lo hi = absurd (not-suc-le-zero h)
log2_is (suc u) n zero h lo hi = rw (lt-ltb n 2 hi)
log2_is (suc u) n (suc p) h lo hi =
    rw (le-ltb n 2 (le_trans (pow_mono {i = 1} {j = suc p} (one_le p)) lo))
    (ap suc (log2_is u (n / 2) p (le_of_suc-le-suc h) ((le-div_iff_mul-le (lit< tt)).1 (subst (λ (x : ℕ). x ≤ n) (pow-suc 2 p) lo)) ((div-lt_iff_lt-mul (lit< tt)).1 (subst (λ (x : ℕ). n < x) (pow-suc 2 (suc p)) hi))))
  where
    one_le : (p : ℕ) → 1 ≤ suc p
    one_le p = omega arith
