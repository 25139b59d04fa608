-- The bits of a window: a row of them fits a word, and the first that is not marked is found bit by bit.
-- Assumes nothing.
use mathlib.Core.Path.{◌≡◌, refl, ◌∙◌}
use Prim.Native.Nat.{ℕ, zero, suc, ◌+◌, ◌-◌, ◌*◌, ◌/◌, ◌%◌, ◌^◌, ◌≤◌, ◌<◌, min}
use native.Mathlib.Omega.{arith}
use native.Mathlib.Nat.{one-mul, pow-suc, min-eq_left, min-eq_right}
use lib.Pow.{pow_pos, pow_mono, shl_exact}
use borrow.Author.Tests.{eq-eqb, ne_eqb}
use Rattle.channel_table.specs.Windows.{window_size, bits_of, first_clear}

module _ (a b : ℕ) (h : b < window_size) where
  -- one bit, shifted by less than a window
  pub one_shl : (1 * 2 ^ (b - a)) % 2 ^ window_size ≡ 2 ^ (b - a)
  one_shl = shl_exact 1 (b - a) window_size (omega arith) (omega arith) ∙ one-mul (2 ^ (b - a))

  pub half : 2 ^ (b - a) ≤ 2 ^ (window_size - 1)
  half = let l : b - a ≤ window_size - 1 = omega arith in pow_mono l

  -- a row of bits, shifted: it ends inside the window
  pub row_shl : a ≤ b → ((2 ^ (b - a) - 1) + (2 ^ (b - a) - 1) + 1) * 2 ^ a % 2 ^ window_size ≡ bits_of a b
  unfolding bits_of
  row_shl l = shl_exact (suc (b - a)) a window_size (rw (pow-suc 2 (b - a)) (omega (arith, pow_pos (b - a)))) (omega arith)

-- the last bit of a rule in the window
pub last_over : (x : ℕ) → window_size ≤ x → min x (window_size - 1) ≡ window_size - 1
last_over x h = let l : window_size - 1 ≤ x = omega arith in min-eq_right l

pub last_inside : (x : ℕ) → x < window_size → min x (window_size - 1) ≡ x
last_inside x h = let l : x ≤ window_size - 1 = omega arith in min-eq_left l

-- the first bit that is not marked, from k on
pub clear_here : (n k marks : ℕ) → 0 < n → (marks / 2 ^ k) % 2 ≡ 0 → first_clear n k marks ≡ k
unfolding first_clear
clear_here zero k marks h e = absurd (omega arith)
clear_here (suc n) k marks h e = rw (eq-eqb _ _ e, first_clear)

pub clear_next : (n k marks : ℕ) → 0 < n → ((marks / 2 ^ k) % 2 ≡ 0 → ⊥) → first_clear n k marks ≡ first_clear (n - 1) (k + 1) marks
unfolding first_clear
clear_next zero k marks h e = absurd (omega arith)
clear_next (suc n) k marks h e =
    let z : suc n - 1 ≡ n = omega arith in
    let y : k + 1 ≡ suc k = omega arith in
    rw (ne_eqb _ _ e, z, y, first_clear)

pub clear_none : (n k marks : ℕ) → n ≤ 0 → first_clear n k marks ≡ k
unfolding first_clear
clear_none zero k marks h = refl
clear_none (suc n) k marks h = absurd (omega arith)
