-- The table of kinds that are counted alike is right by computation: one equation holds all its entries against their numbers.
-- Assumes nothing.
use mathlib.Core.Path.{◌≡◌, refl, ap, sym, ◌∙◌}
use mathlib.Core.List.{List, [], ◌∷◌, map}
use mathlib.Core.Option.{Option, none, some}
use Prim.Native.Nat.{ℕ, zero, suc, ◌+◌, ◌*◌, ◌/◌, ◌%◌, ◌≤◌, ◌<◌, max}
use native.Mathlib.Omega.{arith}
use lib.Dec.{eqb, eqb→eq}
use native.Mathlib.Nat.{zero-mul}
use lib.ListN.{length, get_or, get_or-map, length-append}
use Rattle.program.specs.Lists.{table_at}
use Rattle.trees.specs.Forms.{payload_length, form_of, where_set, repeat, named, number, any}
use borrow.Author.Tests.{ne_eqb}
use Rattle.records.specs.Kinds.{Kind, kind, Void, Int, IntConst, Load, Alloca, Switch}
use Rattle.records.specs.Details.{d_align, d_alloca_align}
use Rattle.records.specs.Limits.{number_limit}
use Rattle.trees.specs.Steps.{kind_among, kinds}
use Rattle.record_steps.specs.Payloads.{length_among, ways}

abbrev pub table : List ℕ
table =
    0 ∷ 1 ∷ 2 ∷ 1 ∷ 1 ∷ 1 ∷ 2 ∷ 2 ∷ 1 ∷ 1 ∷ 1 ∷ 1 ∷ 0 ∷ 0 ∷ 0 ∷ 0 ∷
    2 ∷ 2 ∷ 18 ∷ 2 ∷ 1 ∷ 1 ∷ 1 ∷ 1 ∷ 2 ∷ 1 ∷ 1 ∷ 1 ∷ 1 ∷ 1 ∷ 0 ∷ 0 ∷
    2 ∷ 2 ∷ 2 ∷ 2 ∷ 2 ∷ 2 ∷ 2 ∷ 39 ∷ 39 ∷ 41 ∷ 2 ∷ 2 ∷ 2 ∷ 2 ∷ 2 ∷ 2 ∷
    2 ∷ 2 ∷ 18 ∷ 2 ∷ 1 ∷ 1 ∷ 54 ∷ 1 ∷ 0 ∷ 0 ∷ 0 ∷ 0 ∷ 2 ∷ 2 ∷ 2 ∷ 2 ∷ []

-- n numbers from i on
abbrev numbers : ℕ → ℕ → List ℕ
numbers zero i = []
numbers (suc n) i = i ∷ numbers n (suc i)

all : map (length_among ways) table ≡ map (length_among kinds) (numbers 64 0)
unfolding length_among kind_among payload_length form_of where_set repeat
all = refl

pub alike : (k : ℕ) → k < 64 → length_among ways (get_or table k 0) ≡ length_among kinds k
unfolding length_among kind_among
alike k h =
    sym (get_or-map (length_among ways) table k 0)
    ∙ ap (λ (l : List (ℕ → ℕ → Option ℕ)). get_or l k (length_among ways 0)) all
    ∙ get_or-map (length_among kinds) (numbers 64 0) k 0
    ∙ ap (length_among kinds) (eqb→eq (get_or (numbers 64 0) k 0) k (table_at (λ (i x : ℕ). eqb x i) (numbers 64 0) tt k h))

-- the number behind those of all kinds of a list
abbrev behind : List Kind → ℕ
behind [] = 0
behind (k ∷ ks) = max (suc (kind k)) (behind ks)

passed : (k : Kind) (ks : List Kind) (n : ℕ) → (n ≡ kind k → ⊥) → kind_among (k ∷ ks) n ≡ kind_among ks n
unfolding kind_among
passed k ks n h = rw (ne_eqb (kind k) n (λ e. h (sym e)), kind_among)

nobody : (ks : List Kind) (n : ℕ) → behind ks ≤ n → kind_among ks n ≡ none
unfolding kind_among
nobody [] n h = refl
nobody (k ∷ ks) n h = passed k ks n (λ e. omega arith) ∙ nobody ks n (omega arith)

pub beyond : (k : ℕ) → 64 ≤ k → length_among ways 0 ≡ length_among kinds k
unfolding length_among kind_among
beyond k h = rw (nobody kinds k h, length_among)

-- how long a part is that stands there m times
repeated : {A : Type 0} (m : ℕ) (g : List A) → length (repeat m g) ≡ m * length g
unfolding repeat
repeated zero g = sym (zero-mul (length g))
repeated (suc m) g = length-append g (repeat m g) ∙ omega (arith, repeated m g)

once : {A : Type 0} (m : ℕ) (a b : A) → 1 + m ≡ length (a ∷ repeat m (b ∷ []))
once m a b = omega (arith, repeated m (b ∷ []))

twice : {A : Type 0} (m : ℕ) (a b c : A) → 1 + (m + m) ≡ length (a ∷ repeat m (b ∷ c ∷ []))
twice m a b c = omega (arith, repeated m (b ∷ c ∷ []))

-- how the code counts each way
module _ (d w : ℕ) where
  pub none_there : some 0 ≡ length_among ways (kind Void) d w
  unfolding length_among kind_among payload_length form_of
  none_there = refl

  pub one_there : some 1 ≡ length_among ways (kind Int) d w
  unfolding length_among kind_among payload_length form_of
  one_there = refl

  pub two_there : some 2 ≡ length_among ways (kind IntConst) d w
  unfolding length_among kind_among payload_length form_of
  two_there = refl

  pub aligned : some (1 + (d / d_align) % 2) ≡ length_among ways (kind Load) d w
  unfolding length_among kind_among payload_length form_of where_set
  aligned = ap some (once _ named (number 0 number_limit))

  pub alloca_aligned : some (1 + (d / d_alloca_align) % 2) ≡ length_among ways (kind Alloca) d w
  unfolding length_among kind_among payload_length form_of where_set
  alloca_aligned = ap some (once _ named (number 0 number_limit))

  pub cases : some (1 + (w + w)) ≡ length_among ways (kind Switch) d w
  unfolding length_among kind_among payload_length form_of
  cases = ap some (twice _ (number w w) any any)

-- what is counted like a way is as long as that way says; a number that is none of theirs is no kind's
pub counted : (k d w r s : ℕ) {o : Option ℕ} → length_among ways r ≡ length_among kinds k → r ≡ s → o ≡ length_among ways s d w → o ≡ length_among kinds k d w
counted k d w r s e i j = j ∙ ap (λ (n : ℕ). length_among ways n d w) (sym i) ∙ ap (λ (f : ℕ → ℕ → Option ℕ). f d w) e

pub uncounted : (k d w r : ℕ) → length_among ways r ≡ length_among kinds k → (((((Unit {0} × (r ≡ 1 → ⊥)) × (r ≡ 2 → ⊥)) × (r ≡ 18 → ⊥)) × (r ≡ 39 → ⊥)) × (r ≡ 41 → ⊥)) × (r ≡ 54 → ⊥) → none ≡ length_among kinds k d w
unfolding length_among
uncounted k d w r e h =
    let no : kind_among ways r ≡ none =
    passed Void _ r h.0.0.0.0.0.1 ∙ passed Int _ r h.0.0.0.0.1 ∙ passed IntConst _ r h.0.0.0.1 ∙ passed Load _ r h.0.0.1 ∙ passed Alloca _ r h.0.1 ∙ passed Switch [] r h.1 ∙ nobody [] r (omega arith) in
    sym (rw (no, length_among)) ∙ ap (λ (f : ℕ → ℕ → Option ℕ). f d w) e
