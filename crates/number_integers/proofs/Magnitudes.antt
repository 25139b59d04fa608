-- Whole numbers of 128 bits: ten times one and a digit more, and the two's complement. A number over 128 bits stays over with each digit.
-- Assumes nothing.
use mathlib.Core.Bool.{Bool, true, false}
use mathlib.Core.Path.{◌≡◌, sym, ap, ◌∙◌}
use Prim.Native.Nat.{ℕ, ◌+◌, ◌-◌, ◌*◌, ◌%◌, ◌^◌, ◌<◌, ◌≤◌}
use native.Mathlib.Omega.{arith}
use borrow.Author.Tests.{le-leb, lt-leb}
use Rattle.std.proofs.Common.{Option, Some, None}
use Rattle.std.specs.Prelude.{SomeIff}
use Rattle.grammar.specs.Numbers.{largest, twos}
use Rattle.number_integers.specs.Integers.{magnitude_of, pushed, signed_of}

fits : (v : ℕ) → v < 2 ^ 128 → magnitude_of v ≡ Some v
unfolding magnitude_of
fits v h = rw (lt-leb (2 ^ 128) v h)

over : (v : ℕ) → 2 ^ 128 ≤ v → magnitude_of v ≡ None
unfolding magnitude_of
over v h = rw (le-leb (2 ^ 128) v h)

-- the exits of `push`
pub push_stays : (a : Option ℕ) (d : ℕ) → a ≡ None → None ≡ pushed a d
unfolding pushed
push_stays a d e = rw e

pub push_over : (a : Option ℕ) (v d : ℕ) → a ≡ Some v → (v * 10 < 2 ^ 128 → ⊥) → None ≡ pushed a d
unfolding pushed
push_over a v d e h = rw e (sym (over _ (omega arith)))

pub push_sum : (a r : Option ℕ) (v w x d : ℕ) → a ≡ Some v → w ≡ v * 10 → x ≡ d → SomeIff r (w + x < 2 ^ 128) (w + x) → r ≡ pushed a d
unfolding pushed
push_sum a None v w x d e f g h = rw e (sym (over _ (omega arith)))
push_sum a (Some y) v w x d e f g h = rw (e, h.1, f, g) (sym (fits _ (omega arith)))

-- the range
pub largest_plus : (neg : Bool) → neg ≡ false → 2 ^ 127 - 1 ≡ largest neg
unfolding largest
largest_plus neg e = rw e

pub largest_minus : (neg : Bool) → neg ≡ true → 2 ^ 127 ≡ largest neg
unfolding largest
largest_minus neg e = rw e

turned : (r v : ℕ) → r < 2 ^ 128 → v < 2 ^ 128 → (r + v) % 2 ^ 128 ≡ 0 → (2 ^ 128 - v) % 2 ^ 128 ≡ r
turned r v h k e = omega arith

-- the exits of `signed`
module _ (neg : Bool) (a : Option ℕ) where
  pub signed_stays : a ≡ None → None ≡ signed_of neg a
  unfolding signed_of
  signed_stays e = rw e

  module _ (v : ℕ) (held : a ≡ Some v) where
    pub signed_out : largest neg < v → None ≡ signed_of neg a
    unfolding signed_of
    signed_out h = rw held (sym (rw (lt-leb v (largest neg) h)))

    kept : v ≤ largest neg → signed_of neg a ≡ Some (twos neg v)
    unfolding signed_of
    kept h = rw held (rw (le-leb v (largest neg) h))

    pub signed_plus : neg ≡ false → v ≤ largest neg → Some v ≡ signed_of neg a
    unfolding twos
    signed_plus e h = sym (kept h ∙ rw e)

    pub signed_minus : (r : ℕ) → neg ≡ true → v ≤ largest neg → r < 2 ^ 128 → v < 2 ^ 128 → (r + v) % 2 ^ 128 ≡ 0 → Some r ≡ signed_of neg a
    unfolding twos
    signed_minus r e h k l m = sym (kept h ∙ ap Some (rw e (turned r v k l m)))
