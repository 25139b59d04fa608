-- The count of leading zeros gives the place of the highest bit, and that the exponent: `subnormal_is`.
-- Assumes nothing.
use mathlib.Core.Path.{◌≡◌}
use Prim.Native.Nat.{ℕ, ◌+◌, ◌-◌, ◌*◌, ◌%◌, ◌^◌, ◌<◌}
use native.Mathlib.Omega.{arith}
use lib.Count.{count_leading_zeros}
use Rattle.grammar.specs.Numbers.{subnormal_bits}
use Rattle.number_integers.proofs.Widen.{zeros_many, shifted_small, shift_exact, subnormal_is}
use Rattle.number_integers.proofs.hex.subnormal.Goals as goal

-- what the function computes, by the count and the fraction as they were handed on
bits : (f z g : ℕ) → 0 < f → f < 2 ^ 23 → z ≡ count_leading_zeros 32 f → g ≡ f →
    ((904 - z) * 4503599627370496 + g * 2 ^ (count_leading_zeros 32 f + 21) % 18446744073709551616 ≡ subnormal_bits f) ×
    ((904 - z) * 4503599627370496 + g * 2 ^ (count_leading_zeros 32 f + 21) % 18446744073709551616 < 2 ^ 63)
bits f z g pos small p q =
    rw (p, q, shift_exact f pos small)
    (subnormal_is f pos small, (let a = zeros_many f pos small in let b = shifted_small f pos small in omega arith))

pub overflow_sub-result : goal.overflow_sub-result
overflow_sub-result c = (let a = zeros_many c.args.f c.requires.0 c.requires.1 in omega arith)

pub overflow_add-result : goal.overflow_add-result
overflow_add-result c = (let a = zeros_many c.args.f c.requires.0 c.requires.1 in omega arith)

pub overflow_cast-result : goal.overflow_cast-result
overflow_cast-result c = (let a = zeros_many c.args.f c.requires.0 c.requires.1 in omega arith)

pub overflow_shl-result : goal.overflow_shl-result
overflow_shl-result c = (let a = zeros_many c.args.f c.requires.0 c.requires.1 in omega arith)

pub overflow_add-result-2 : goal.overflow_add-result-2
overflow_add-result-2 c =
    omega
    (arith, bits c.args.f c.from.result c.from-2.result c.requires.0 c.requires.1 c.from.ensures c.from-2.ensures)

pub returns : goal.returns
returns c = bits c.args.f c.from.result c.from-2.result c.requires.0 c.requires.1 c.from.ensures c.from-2.ensures
