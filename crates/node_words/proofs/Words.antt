-- Lists that stand in front of the words: a store changes both at the same place alike.
use mathlib.Core.Path.{◌≡◌, sym, ◌∙◌, subst}
use mathlib.Core.List.{List, [], ◌∷◌, ◌++◌}
use Prim.Native.Nat.{ℕ, ◌+◌, ◌<◌}
use native.Mathlib.Omega.{arith}
use native.Mathlib.Decide.{ℕ_discrete}
use lib.ListN.{length, get_or, set, length-append, length-set, get_or-append}
use lib.Seq.{get_or-set_same, get_or-set_other, get_or-append_seam, set-append_seam}
use Rattle.lexer.specs.Reads.{Stands}

pub front : (l m words : List ℕ) → Stands (l ++ m) words → Stands l words
front l m words h = record { same = λ i a b. h.same i (rw (length-append l m) (omega arith)) b ∙ get_or-append l m 0 i a }

pub changed : (l words : List ℕ) (j x : ℕ) → Stands l words → Stands (set l j x) (set words j x)
changed l words j x h = record { same = λ i a b. at i (rw (length-set l j x) at a) (rw (length-set words j x) at b) (ℕ_discrete i j) }
  where
    at : (i : ℕ) → i < length l → i < length words → Dec (i ≡ j) → get_or (set words j x) i 0 ≡ get_or (set l j x) i 0
    at i a b (yes e) = subst (λ (m : ℕ). get_or (set words j x) m 0 ≡ get_or (set l j x) m 0) (sym e) (get_or-set_same words j x 0 (subst (λ (m : ℕ). m < length words) e b) ∙ sym (get_or-set_same l j x 0 (subst (λ (m : ℕ). m < length l) e a)))
    at i a b (no n) = get_or-set_other words j i x 0 n ∙ h.same i a b ∙ sym (get_or-set_other l j i x 0 n)

pub pushed : (l words : List ℕ) (x : ℕ) → Stands l words → Stands (l ++ (x ∷ [])) (set words (length l) x)
pushed l words x h = record { same = λ i a b. at i (rw (length-append l (x ∷ [])) at a) (rw (length-set words (length l) x) at b) (ℕ_discrete i (length l)) }
  where
    at : (i : ℕ) → i < length l + 1 → i < length words → Dec (i ≡ length l) → get_or (set words (length l) x) i 0 ≡ get_or (l ++ (x ∷ [])) i 0
    at i a b (yes e) = subst (λ (m : ℕ). get_or (set words (length l) x) m 0 ≡ get_or (l ++ (x ∷ [])) m 0) (sym e) (get_or-set_same words (length l) x 0 (subst (λ (m : ℕ). m < length words) e b) ∙ sym (get_or-append_seam l x [] 0))
    at i a b (no n) = let lt : i < length l = omega arith in get_or-set_other words (length l) i x 0 n ∙ h.same i lt b ∙ sym (get_or-append l (x ∷ []) 0 i lt)

pub patched : (l m words : List ℕ) (x y : ℕ) → Stands (l ++ (x ∷ m)) words → Stands (l ++ (y ∷ m)) (set words (length l) y)
patched l m words x y h = subst (λ (z : List ℕ). Stands z (set words (length l) y)) (set-append_seam l x m y) (changed (l ++ (x ∷ m)) words (length l) y h)
