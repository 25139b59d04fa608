-- Questions 1 and 2, byte by byte.
-- By induction on the text, as `first_high` takes one byte at a time.
-- Assumes nothing.
use mathlib.Core.Path.{◌≡◌, refl}
use mathlib.Core.Bool.{Bool, true, false}
use mathlib.Core.List.{List, [], ◌∷◌}
use Prim.Native.Nat.{ℕ, zero, suc, ◌+◌, ◌≤◌, ◌<◌}
use native.Mathlib.Nat.{add-zero}
use native.Mathlib.Omega.{arith}
use lib.Bits.{bit_or, or_add_and, and_le_l, and_le_r}
use lib.Dec.{leb}
use lib.ListN.{length, get_or}
use borrow.Author.Tests.{le-leb, lt-leb, leb-true}
use Rattle.records.specs.Questions.{q_length, q_ascii}
use Rattle.records.specs.Pieces.{Verdict, fine, refused, first_high, text_asked}
use Rattle.records.specs.Limits.{text_limit, byte_limit}
use Rattle.text_whole.specs.Texts.{AllLow}

pub or_left : (a b : ℕ) → a ≤ bit_or a b
or_left a b = omega (arith, or_add_and a b, and_le_r a b)

pub or_right : (a b : ℕ) → b ≤ bit_or a b
or_right a b = omega (arith, or_add_and a b, and_le_l a b)

-- questions 1 and 2
pub too_long : (xs : List ℕ) → text_limit < length xs → text_asked xs ≡ refused q_length text_limit
unfolding text_asked
too_long xs h = let t : leb (length xs) text_limit ≡ false = lt-leb _ _ h in rw (text_asked, t)

pub asked_is : (xs : List ℕ) (v : Verdict) → length xs ≤ text_limit → first_high 0 xs ≡ v → text_asked xs ≡ v
unfolding text_asked
asked_is xs v h e = let t : leb (length xs) text_limit ≡ true = le-leb _ _ h in rw (text_asked, t) e

pub all_low : (i : ℕ) (xs : List ℕ) → AllLow xs (length xs) → first_high i xs ≡ fine
unfolding first_high
all_low i [] h = refl
all_low i (x ∷ xs) h =
    let t : leb x byte_limit ≡ true = le-leb x byte_limit (h 0 (omega arith)) in
    rw (first_high, t) (all_low (suc i) xs (λ k l. h (suc k) (omega arith)))

pub high_at : (i p : ℕ) (xs : List ℕ) → p < length xs → byte_limit < get_or xs p 0 → AllLow xs p → first_high i xs ≡ refused q_ascii (i + p)
unfolding first_high
high_at i p [] h l g = absurd (omega arith)
high_at i zero (x ∷ xs) h l g = let t : leb x byte_limit ≡ false = lt-leb _ _ l in rw (first_high, t, add-zero i)
high_at i (suc p) (x ∷ xs) h l g =
    let t : leb x byte_limit ≡ true = le-leb x byte_limit (g 0 (omega arith)) in
    let e : i + suc p ≡ suc i + p = omega arith in
    rw (first_high, t, e) (high_at (suc i) p xs (omega arith) l (λ k m. g (suc k) (omega arith)))

-- question 1
pub not_long : (text : List ℕ) → fine ≡ text_asked text → length text ≤ 16777216
unfolding text_asked
not_long text h = go (leb (length text) 16777216) refl
  where
    go : (b : Bool) → leb (length text) 16777216 ≡ b → length text ≤ 16777216
    go true t = leb-true (length text) 16777216 t
    go false t = let w : fine ≡ refused 1 16777216 = rw (text_asked, t) at h in let z : ◌≡◌ {A = ℕ} 0 1 = cc in absurd (omega arith)
