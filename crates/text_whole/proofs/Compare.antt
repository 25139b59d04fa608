-- Two texts, compared byte by byte and block by block.
-- The common end is the common front of what remains, read backwards; so one law of equal bytes serves both.
-- Assumes nothing.
use mathlib.Core.Path.{◌≡◌, refl, sym, ap, ◌∙◌}
use mathlib.Core.Bool.{Bool, true, false}
use mathlib.Core.List.{List, [], ◌∷◌, reverse, reverse-cons}
use Prim.Native.Nat.{ℕ, zero, suc, min, ◌+◌, ◌-◌, ◌≤◌, ◌<◌}
use native.Mathlib.Nat.{add-zero, zero-add}
use native.Mathlib.Omega.{arith}
use lib.Bits.{bit_or, bit_xor, xor_add_and, and_le_l, and_le_r}
use lib.Dec.{eqb, ltb}
use lib.ListN.{length, get_or, take, drop, length-reverse, length-drop, drop_of_length-le, get_or-append}
use lib.Seq.{take-append_seam, get_or-drop, get_or-append_seam}
use borrow.Author.Tests.{eq-eqb, ne_eqb, eqb-true, ltb-true, ltb-false}
use Rattle.theorem_refusals.specs.Common.{common_newer}
use Rattle.records.specs.Pieces.{common, end_behind, common_end}
use Rattle.text_whole.specs.Texts.{Same, Shares, Ends}
use Rattle.program.specs.Lists.{drop_next}
use Rattle.text_whole.proofs.Texts.{or_left, or_right}

-- ---- the bytes of a block
xor_none : (a b : ℕ) → bit_xor a b ≡ 0 → a ≡ b
xor_none a b h = omega (arith, xor_add_and a b, and_le_l a b, and_le_r a b)

pub same_none : (p q : ℕ) (xs ys : List ℕ) → Same 0 p q xs ys
same_none p q xs ys k h = absurd (omega arith)

pub same_more : (n p q d : ℕ) (xs ys : List ℕ) → (d ≡ 0 → Same n p q xs ys) → bit_or d (bit_xor (get_or xs (p + n) 0) (get_or ys (q + n) 0)) ≡ 0 → Same (n + 1) p q xs ys
same_more n p q d xs ys h z k l = go (eqb k n) refl
  where
    x : ℕ
    x = bit_xor (get_or xs (p + n) 0) (get_or ys (q + n) 0)

    go : (b : Bool) → eqb k n ≡ b → get_or xs (p + k) 0 ≡ get_or ys (q + k) 0
    go true t = let e : k ≡ n = eqb-true k n t in rw e (xor_none (get_or xs (p + n) 0) (get_or ys (q + n) 0) (omega (arith, z, or_right d x)))
    go false t = h (omega (arith, z, or_left d x)) k (omega (arith, l, borrow.Author.Tests.eqb-false k n t))

-- ---- the common front
cons_same : (x : ℕ) (xs ys : List ℕ) → length (common (x ∷ xs) (x ∷ ys)) ≡ suc (length (common xs ys))
unfolding common
cons_same x xs ys = let t : eqb x x ≡ true = eq-eqb x x refl in rw (common, t)

front_next : (xs ys : List ℕ) (i : ℕ) → i < length xs → i < length ys → get_or xs i 0 ≡ get_or ys i 0
    → length (common (drop i xs) (drop i ys)) ≡ suc (length (common (drop (i + 1) xs) (drop (i + 1) ys)))
front_next xs ys i h k e = rw (drop_next xs i h, drop_next ys i k, e) (cons_same (get_or ys i 0) (drop (i + 1) xs) (drop (i + 1) ys))

pub shares_none : (xs ys : List ℕ) → Shares xs ys 0
shares_none xs ys = record { left = omega arith; right = omega arith; rest = sym (zero-add (length (common xs ys))) }

pub shares_more : (xs ys : List ℕ) (i : ℕ) → i < length xs → i < length ys → get_or xs i 0 ≡ get_or ys i 0 → Shares xs ys i → Shares xs ys (i + 1)
shares_more xs ys i h k e s = record { left = omega arith; right = omega arith; rest = omega (arith, s.rest, front_next xs ys i h k e) }

shares_by : (m : ℕ) (xs ys : List ℕ) (i : ℕ) → i + m ≤ length xs → i + m ≤ length ys → Same m i i xs ys → Shares xs ys i → Shares xs ys (i + m)
shares_by zero xs ys i h k e s = rw add-zero s
shares_by (suc m) xs ys i h k e s =
    let q : i + suc m ≡ i + m + 1 = omega arith in
    rw q (shares_more xs ys (i + m) (omega arith) (omega arith) (e m (omega arith)) (shares_by m xs ys i (omega arith) (omega arith) (λ j l. e j (omega arith)) s))

pub shares_block : (xs ys : List ℕ) (i : ℕ) → i + 64 ≤ length xs → i + 64 ≤ length ys → Same 64 i i xs ys → Shares xs ys i → Shares xs ys (i + 64)
shares_block = shares_by 64

module _ (xs ys : List ℕ) (i : ℕ) (s : Shares xs ys i) where
  older_ends : length xs ≤ i → i ≡ length (common xs ys)
  unfolding common
  older_ends h = sym (s.rest ∙ rw (drop_of_length-le xs h) (add-zero i))

  newer_ends : i < length xs → length ys ≤ i → i ≡ length (common xs ys)
  unfolding common
  newer_ends h k = sym (s.rest ∙ rw (drop_next xs i h, drop_of_length-le ys k) (add-zero i))

  pub shorter_ends : min (length xs) (length ys) ≤ i → i ≡ length (common xs ys)
  shorter_ends h = go (ltb i (length xs)) refl
    where
      go : (b : Bool) → ltb i (length xs) ≡ b → i ≡ length (common xs ys)
      go true t = let l : i < length xs = ltb-true i (length xs) t in newer_ends l (omega arith)
      go false t = older_ends (ltb-false i (length xs) t)

  pub bytes_differ : i < length xs → i < length ys → (get_or xs i 0 ≡ get_or ys i 0 → ⊥) → i ≡ length (common xs ys)
  unfolding common
  bytes_differ h k e = let t : eqb (get_or xs i 0) (get_or ys i 0) ≡ false = ne_eqb _ _ e in sym (s.rest ∙ rw (drop_next xs i h, drop_next ys i k, common, t) (add-zero i))

-- ---- the common end: what stands behind a, read backwards
byte_back : (zs : List ℕ) (k : ℕ) → k < length zs → get_or (reverse zs) k 0 ≡ get_or zs (length zs - 1 - k) 0
byte_back [] k h = absurd (omega arith)
byte_back (x ∷ zs) k h = go (ltb k (length zs)) refl (byte_back zs k)
  where
    go : (b : Bool) → ltb k (length zs) ≡ b → (k < length zs → get_or (reverse zs) k 0 ≡ get_or zs (length zs - 1 - k) 0) → get_or (reverse (x ∷ zs)) k 0 ≡ get_or (x ∷ zs) (suc (length zs) - 1 - k) 0
    go true t ih =
        let l : k < length zs = ltb-true k (length zs) t in
        let e : suc (length zs) - 1 - k ≡ suc (length zs - 1 - k) = omega arith in
        rw (reverse-cons x zs, e) (get_or-append (reverse zs) (x ∷ []) 0 k (omega (arith, length-reverse zs)) ∙ ih l)
    go false t ih =
        let l : k ≡ length (reverse zs) = omega (arith, ltb-false k (length zs) t, length-reverse zs) in
        let e : suc (length zs) - 1 - k ≡ 0 = omega (arith, length-reverse zs) in
        rw (reverse-cons x zs, e, l) (get_or-append_seam (reverse zs) x [] 0)

behind_long : (a : ℕ) (xs : List ℕ) → length (reverse (drop a xs)) ≡ length xs - a
behind_long a xs = length-reverse (drop a xs) ∙ length-drop a xs

-- the byte so far from a text's end
from_end : (xs : List ℕ) (a c : ℕ) → a ≤ length xs → c < length xs - a → get_or (reverse (drop a xs)) c 0 ≡ get_or xs (length xs - c - 1) 0
from_end xs a c h k =
    let l : length (drop a xs) ≡ length xs - a = length-drop a xs in
    let e : a + (length (drop a xs) - 1 - c) ≡ length xs - c - 1 = omega arith in
    byte_back (drop a xs) c (omega arith) ∙ get_or-drop a xs (length (drop a xs) - 1 - c) 0 ∙ ap (λ (n : ℕ). get_or xs n 0) e

from_block : (l a c t : ℕ) → c + 64 ≤ l - a → t < 64 → l - (c + t) - 1 ≡ l - c - 64 + (63 - t)
from_block l a c t h k = omega arith

pub ends_none : (xs ys : List ℕ) (a : ℕ) → Ends xs ys a 0
ends_none xs ys a = record { left = omega arith; right = omega arith; rest = shares_none (reverse (drop a xs)) (reverse (drop a ys)) }

module _ (xs ys : List ℕ) (a : ℕ) (hx : a ≤ length xs) (hy : a ≤ length ys) where
  pub ends_block : (c : ℕ) → c + 64 ≤ length xs - a → c + 64 ≤ length ys - a → Same 64 (length xs - c - 64) (length ys - c - 64) xs ys → Ends xs ys a c → Ends xs ys a (c + 64)
  ends_block c h k e s =
      record { left = h; right = k; rest = shares_block (reverse (drop a xs)) (reverse (drop a ys)) c (omega (arith, behind_long a xs)) (omega (arith, behind_long a ys)) same s.rest }
    where
      same : Same 64 c c (reverse (drop a xs)) (reverse (drop a ys))
      same t l =
          let b : 63 - t < 64 = omega arith in
          let mx : c + t < length xs - a = omega (arith, h, l) in
          let my : c + t < length ys - a = omega (arith, k, l) in
          let ex : length xs - (c + t) - 1 ≡ length xs - c - 64 + (63 - t) = from_block (length xs) a c t h l in
          let ey : length ys - (c + t) - 1 ≡ length ys - c - 64 + (63 - t) = from_block (length ys) a c t k l in
          from_end xs a (c + t) hx mx ∙ ap (λ (n : ℕ). get_or xs n 0) ex ∙ e (63 - t) b ∙ ap (λ (n : ℕ). get_or ys n 0) (sym ey) ∙ sym (from_end ys a (c + t) hy my)

  module _ (c : ℕ) (s : Ends xs ys a c) where
    pub shorter_out : min (length xs) (length ys) - a ≤ c → c ≡ end_behind a xs ys
    unfolding end_behind
    shorter_out h = shorter_ends (reverse (drop a xs)) (reverse (drop a ys)) c s.rest (omega (arith, behind_long a xs, behind_long a ys))

    module _ (h : c < length xs - a) (k : c < length ys - a) where
      pub ends_more : get_or xs (length xs - c - 1) 0 ≡ get_or ys (length ys - c - 1) 0 → Ends xs ys a (c + 1)
      ends_more e =
          record {
            left = omega arith;
            right = omega arith;
            rest = shares_more (reverse (drop a xs)) (reverse (drop a ys)) c (omega (arith, behind_long a xs)) (omega (arith, behind_long a ys)) (from_end xs a c hx h ∙ e ∙ sym (from_end ys a c hy k)) s.rest;
          }

      pub ends_differ : (get_or xs (length xs - c - 1) 0 ≡ get_or ys (length ys - c - 1) 0 → ⊥) → c ≡ end_behind a xs ys
      unfolding end_behind
      ends_differ e =
          bytes_differ (reverse (drop a xs)) (reverse (drop a ys)) c s.rest (omega (arith, behind_long a xs)) (omega (arith, behind_long a ys))
          (λ q. e (sym (from_end xs a c hx h) ∙ q ∙ from_end ys a c hy k))

-- where a is the common front, that is c of 01
pub end_is : (xs ys : List ℕ) (a : ℕ) → a ≡ length (common xs ys) → end_behind a xs ys ≡ common_end xs ys
unfolding common_end
end_is xs ys a e = rw e

-- the common front is the front of the newer text
pub common_take : (xs ys : List ℕ) → take (length (common xs ys)) ys ≡ common xs ys
common_take xs ys = ap (take (length (common xs ys))) (common_newer xs ys) ∙ take-append_seam (common xs ys) (drop (length (common xs ys)) ys)
