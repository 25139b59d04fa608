-- Letters, digits and `_`: both tests, computed at each of the 256 bytes.
-- Assumes nothing.
use mathlib.Core.Path.{◌≡◌, refl}
use mathlib.Core.Bool.{Bool, true, false, ◌||◌}
use Prim.Native.Nat.{ℕ, zero, suc, ◌+◌, ◌≤◌, ◌<◌}
use native.Mathlib.Omega.{arith}
use lib.Dec.{T, eqb}
use borrow.Author.Tests.{eqb-true, eqb-false}
use Rattle.std.specs.Char.{is_ascii_alphanumeric}
use Rattle.program.specs.Class.{class_of, is_word}

both : Bool → Bool → Bool
both true b = b
both false b = false

agree : Bool → Bool → Bool
agree true b = b
agree false true = false
agree false false = true

all : (ℕ → Bool) → (lo n : ℕ) → Bool
all f lo zero = true
all f lo (suc n) = both (f lo) (all f (suc lo) n)

both_left : (a b : Bool) → T (both a b) → T a
unfolding both
both_left true b t = tt
both_left false b t = t

both_right : (a b : Bool) → T (both a b) → T b
unfolding both
both_right true b t = t
both_right false b t = absurd t

at : (f : ℕ → Bool) (n lo : ℕ) → T (all f lo n) → (b : ℕ) → lo ≤ b → b < lo + n → T (f b)
unfolding all
at f zero lo t b h k = absurd (omega arith)
at f (suc n) lo t b h k = go (eqb lo b) refl (at f n (suc lo) (both_right (f lo) (all f (suc lo) n) t) b)
  where
    go : (q : Bool) → eqb lo b ≡ q → (suc lo ≤ b → b < suc lo + n → T (f b)) → T (f b)
    go true e ih = rw (← eqb-true lo b e) (both_left (f lo) (all f (suc lo) n) t)
    go false e ih = let d : (lo ≡ b → ⊥) = eqb-false lo b e in ih (omega arith) (omega arith)

agreed : (a b : Bool) → T (agree a b) → a ≡ b
unfolding agree
agreed true true t = refl
agreed true false t = absurd t
agreed false true t = absurd t
agreed false false t = refl

word_is : (b : ℕ) → b < 256 → (is_ascii_alphanumeric b || eqb b 95) ≡ is_word b
unfolding all both agree is_word class_of
word_is b h = agreed (is_ascii_alphanumeric b || eqb b 95) (is_word b) (at (λ b. agree (is_ascii_alphanumeric b || eqb b 95) (is_word b)) 256 0 tt b (omega arith) h)

pub word_then : (b : ℕ) → b < 256 → is_ascii_alphanumeric b ≡ true → true ≡ is_word b
word_then b h t = rw t at (word_is b h)

pub word_else : (b : ℕ) → b < 256 → is_ascii_alphanumeric b ≡ false → eqb b 95 ≡ is_word b
word_else b h t = rw t at (word_is b h)
