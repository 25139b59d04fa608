-- Numbers of 64 bits, or over them: a number over 64 bits stays over with each digit, so that it need not be kept.
-- Assumes nothing.
use mathlib.Core.Path.{◌≡◌, refl, sym}
use mathlib.Core.Bool.{Bool, true, false}
use Prim.Native.Nat.{ℕ, ◌+◌, ◌*◌, ◌^◌, ◌≤◌, ◌<◌}
use native.Mathlib.Omega.{arith}
use lib.Dec.{leb}
use borrow.Author.Tests.{le-leb, lt-leb, leb-true, leb-false}
use Rattle.std.proofs.Common.{Option, Some, None}
use Rattle.std.specs.Prelude.{SomeIff}
use Rattle.program.specs.Choice.{pick}
use Rattle.records.specs.Limits.{number_limit}
use Rattle.number_bits.specs.Number.{capped, shifted}

pub small : (a : ℕ) → a ≤ number_limit → capped a ≡ Some a
unfolding capped
small a h = rw (le-leb _ _ h)

big : (a : ℕ) → number_limit < a → capped a ≡ None
unfolding capped
big a h = rw (lt-leb _ _ h)

pub exact_of : (a v : ℕ) → Some v ≡ capped a → v ≡ a
unfolding capped
exact_of a v e = go (leb a number_limit) e
  where
    go : (z : Bool) → Some v ≡ pick z (Some a) None → v ≡ a
    go true e = cc
    go false e = cc

pub over_of : (a : ℕ) → None ≡ capped a → number_limit < a
unfolding capped
over_of a e = go (leb a number_limit) refl e
  where
    go : (z : Bool) → leb a number_limit ≡ z → None ≡ pick z (Some a) None → number_limit < a
    go true f e = absurd (let q : ◌≡◌ {A = ℕ} 0 1 = cc in omega arith)
    go false f e = leb-false _ _ f

-- the exits of `shift`
pub shift_stays : (n : Option ℕ) (d : ℕ) → n ≡ None → None ≡ shifted n d
unfolding shifted
shift_stays n d e = rw e

pub shift_over : (n : Option ℕ) (v d : ℕ) → n ≡ Some v → (v * 10 < 2 ^ 64 → ⊥) → None ≡ shifted n d
unfolding shifted
shift_over n v d e h = rw e (sym (big _ (omega arith)))

pub shift_sum : (n r : Option ℕ) (v w x d : ℕ) → n ≡ Some v → w ≡ v * 10 → x ≡ d → SomeIff r (w + x < 2 ^ 64) (w + x) → r ≡ shifted n d
unfolding shifted
shift_sum n None v w x d e f g h = rw e (sym (big _ (omega arith)))
shift_sum n (Some y) v w x d e f g h = rw (e, h.1, f, g) (sym (small _ (omega arith)))

-- a digit more of what is held is a digit more of the number
pub shifted_more : (v d : ℕ) → shifted (capped v) d ≡ capped (v * 10 + d)
unfolding shifted
shifted_more v d = go (leb v number_limit) refl
  where
    go : (t : Bool) → leb v number_limit ≡ t → shifted (capped v) d ≡ capped (v * 10 + d)
    go true e = rw (small v (leb-true v number_limit e))
    go false e = rw (big v (leb-false v number_limit e)) (sym (big (v * 10 + d) (omega (arith, leb-false v number_limit e))))
