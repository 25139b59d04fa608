-- Names with quotes and escapes undone, byte by byte: behind an escape `unescape` is in state 0 again, so the rest is spelled by itself.
-- Assumes nothing.
use mathlib.Core.Path.{◌≡◌, refl, ap, ◌∙◌}
use mathlib.Core.List.{List, [], ◌∷◌}
use mathlib.Core.Bool.{Bool, true, false}
use mathlib.Core.Logic.{◌⊎◌, inl, inr}
use Prim.Native.Nat.{ℕ, ◌+◌, ◌*◌, ◌≤◌, ◌<◌}
use native.Mathlib.Omega.{arith}
use Rattle.std.proofs.Common.{Bor}
use Rattle.std.specs.Prelude.{Option, Some, None}
use Rattle.std.specs.Option.{option_copied, option_eq}
use Rattle.std.specs.List.{slice_get}
use lib.ListN.{length, get_or, drop, drop_of_length-le}
use lib.Dec.{eqb}
use borrow.Author.Tests.{eq-eqb, ne_eqb}
use Rattle.program.specs.Class.{class_of}
use Rattle.grammar.specs.Lexer.{same_word, plain, quoted, unescape, spelled}
use Rattle.lexer_names.specs.Names.{is_quoted, inner, raw_word, spelled_of, EscapeAt, LetterAt}
use Rattle.lexer_names.specs.declared.Letter.{Letter}
use Rattle.program.specs.Lists.{drop_next}

-- ---- quotes
is_quote : Option ℕ → Bool
is_quote (Some x) = eqb x 34
is_quote None = false

pub quoted_first : (raw : List ℕ) (o : Option (Bor ℕ)) (q : Bor ℕ) → q.now ≡ 34 → option_copied o ≡ slice_get raw 0 → option_eq (λ x y. eqb x.now y.now) o (Some q) ≡ is_quoted raw
unfolding is_quoted is_quote
quoted_first raw o q t e = left o ∙ ap is_quote e ∙ right raw
  where
    left : (o : Option (Bor ℕ)) → option_eq (λ x y. eqb x.now y.now) o (Some q) ≡ is_quote (option_copied o)
    left None = refl
    left (Some p) = rw t

    right : (raw : List ℕ) → is_quote (slice_get raw 0) ≡ is_quoted raw
    right [] = refl
    right (x ∷ r) = refl

pub spelled_quoted : (raw : List ℕ) → is_quoted raw ≡ true → spelled (raw_word raw) ≡ spelled_of true (inner raw)
unfolding spelled raw_word spelled_of
spelled_quoted raw e = ap (λ (z : Bool). spelled (elim z [ true ↦ quoted (inner raw) | false ↦ plain raw ])) e

pub spelled_plain : (raw : List ℕ) → is_quoted raw ≡ false → spelled (raw_word raw) ≡ raw
unfolding spelled raw_word
spelled_plain raw e = ap (λ (z : Bool). spelled (elim z [ true ↦ quoted (inner raw) | false ↦ plain raw ])) e

pub as_it_is : (w : List ℕ) → spelled_of false w ≡ w
unfolding spelled_of
as_it_is w = refl

-- ---- one byte
-- what stands at a place
module _ (w : List ℕ) (at : ℕ) where
  pub escape_out : length w ≤ at → unescape 1 0 (drop at w) ≡ []
  unfolding unescape
  escape_out h = rw (drop_of_length-le w h)

  pub letter_out : (q : Bool) → length w ≤ at → spelled_of q (drop at w) ≡ []
  unfolding spelled_of unescape
  letter_out true h = rw (drop_of_length-le w h)
  letter_out false h = drop_of_length-le w h

  module _ (h : at < length w) where
    pub escape_back : get_or w at 0 ≡ 92 → unescape 1 0 (drop at w) ≡ 92 ∷ unescape 0 0 (drop (at + 1) w)
    unfolding unescape
    escape_back e = rw (drop_next w at h, eq-eqb _ _ e)

    first : (get_or w at 0 ≡ 92 → ⊥) → unescape 1 0 (drop at w) ≡ unescape 2 (class_of (get_or w at 0)) (drop (at + 1) w)
    unfolding unescape
    first n = rw (drop_next w at h, ne_eqb _ _ n)

    pub escape_cut : (get_or w at 0 ≡ 92 → ⊥) → length w ≤ at + 1 → unescape 1 0 (drop at w) ≡ []
    unfolding unescape
    escape_cut n k = first n ∙ rw (drop_of_length-le w k)

    pub escape_pair : (get_or w at 0 ≡ 92 → ⊥) → at + 1 < length w → (m l : ℕ) → m ≡ class_of (get_or w at 0) → l ≡ class_of (get_or w (at + 1) 0) → unescape 1 0 (drop at w) ≡ (m * 16 + l) ∷ unescape 0 0 (drop (at + 2) w)
    unfolding unescape
    escape_pair n k m l e f =
        let z : at + 1 + 1 ≡ at + 2 = omega arith in
        first n ∙ rw (drop_next w (at + 1) k, e, f, z)

    pub letter_back : get_or w at 0 ≡ 92 → spelled_of true (drop at w) ≡ unescape 1 0 (drop (at + 1) w)
    unfolding spelled_of unescape
    letter_back e = rw (drop_next w at h, eq-eqb _ _ e)

    -- any other byte, or one of a word without quotes
    pub letter_itself : (q : Bool) (x : ℕ) → x ≡ get_or w at 0 → ((q ≡ true) × (x ≡ 92 → ⊥)) ⊎ (q ≡ false) → spelled_of q (drop at w) ≡ x ∷ spelled_of q (drop (at + 1) w)
    unfolding spelled_of unescape
    letter_itself q x e (inl (t, n)) = rw (t, drop_next w at h, ← e, ne_eqb _ _ n)
    letter_itself q x e (inr t) = rw (t, e) (drop_next w at h)

-- behind the backslash
pub letter_escaped : (w : List ℕ) (at : ℕ) (r : Option Letter) → at < length w → get_or w at 0 ≡ 92 → EscapeAt w (at + 1) r → LetterAt true w at r
unfolding spelled_of
letter_escaped w at None h e x = letter_back w at h e ∙ x
letter_escaped w at (Some l) h e x = record { some = letter_back w at h e ∙ x.some; on = omega (arith, x.on); within = x.within }

-- ---- two spellings
module _ (s t : List ℕ) where
  pub both_more : (x y : ℕ) (a b : List ℕ) → s ≡ x ∷ a → t ≡ y ∷ b → x ≡ y → same_word s t ≡ same_word a b
  unfolding same_word
  both_more x y a b e f g = rw (e, f, eq-eqb _ _ g)

  pub both_other : (x y : ℕ) (a b : List ℕ) → s ≡ x ∷ a → t ≡ y ∷ b → (x ≡ y → ⊥) → same_word s t ≡ false
  unfolding same_word
  both_other x y a b e f g = rw (e, f, ne_eqb _ _ g)

  pub one_more : (x : ℕ) (a : List ℕ) → s ≡ x ∷ a → t ≡ [] → same_word s t ≡ false
  unfolding same_word
  one_more x a e f = rw (e, f)

  pub other_more : (y : ℕ) (b : List ℕ) → s ≡ [] → t ≡ y ∷ b → same_word s t ≡ false
  unfolding same_word
  other_more y b e f = rw (e, f)

  pub neither : s ≡ [] → t ≡ [] → same_word s t ≡ true
  unfolding same_word
  neither e f = rw (e, f)
