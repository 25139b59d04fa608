-- The older directory taken apart entry by entry, as question 22 asks of it.
-- Where `chain` answers, the first entry passed its five tests, and the others are a chain from its end on.
-- Assumes nothing.
use Rattle.std.specs.Prelude.{◌≡◌, refl, Bool, true, false, ◌&&◌, List, ◌∷◌, ℕ, suc, ◌+◌, ◌≤◌, leb, eqb}
use Rattle.std.proofs.Math.Option.{Option, none, some}
use Rattle.std.proofs.Common.{arith, leb-true, eqb-true}
use Rattle.records.specs.Limits.{counter_limit}
use Rattle.records.specs.Words.{hi, lo}
use Rattle.records.specs.Pieces.{Old, old, chain, cons_old}

pub record Step (T W n pos at x y z : ℕ) (dir : List ℕ) (os : List Old) : Type 0 where
  pub others : List Old
  pub is : os ≡ old (lo x) at (lo y) z ∷ others
  pub start : hi x ≡ pos
  pub first : hi y ≡ at
  pub in_text : pos + lo x ≤ T
  pub in_words : at + lo y ≤ W
  pub low : z ≤ counter_limit
  pub rest_is : chain T W n (pos + lo x) (at + lo y) dir ≡ some others

pub and_true : (a b : Bool) → (a && b) ≡ true → (a ≡ true) × (b ≡ true)
and_true true b h = (refl, h)
and_true false b h = let no : ◌≡◌ {A = ℕ} 0 1 = cc in absurd (omega arith)

pub step : (T W n pos at x y z : ℕ) (dir : List ℕ) (os : List Old) → chain T W (suc n) pos at (x ∷ y ∷ z ∷ dir) ≡ some os → Step T W n pos at x y z dir os
unfolding chain cons_old
step T W n pos at x y z dir os h = go (a && b && c && d && l) refl
  where
    a : Bool
    a = eqb (hi x) pos

    b : Bool
    b = eqb (hi y) at

    c : Bool
    c = leb (pos + lo x) T

    d : Bool
    d = leb (at + lo y) W

    l : Bool
    l = leb z counter_limit

    go : (t : Bool) → (a && b && c && d && l) ≡ t → Step T W n pos at x y z dir os
    go false p = let w : none ≡ some os = rw (chain, p) at h in let no : ◌≡◌ {A = ℕ} 0 1 = cc in absurd (omega arith)
    go true p = go2 (chain T W n (pos + lo x) (at + lo y) dir) refl
      where
        w : cons_old (old (lo x) at (lo y) z) (chain T W n (pos + lo x) (at + lo y) dir) ≡ some os
        w = rw (chain, p) at h

        q0 : ((a && b && c && d) ≡ true) × (l ≡ true)
        q0 = and_true (a && b && c && d) l p

        q1 : ((a && b && c) ≡ true) × (d ≡ true)
        q1 = and_true (a && b && c) d q0.0

        q2 : ((a && b) ≡ true) × (c ≡ true)
        q2 = and_true (a && b) c q1.0

        q3 : (a ≡ true) × (b ≡ true)
        q3 = and_true a b q2.0

        go2 : (r : Option (List Old)) → chain T W n (pos + lo x) (at + lo y) dir ≡ r → Step T W n pos at x y z dir os
        go2 none u = let w2 : none ≡ some os = rw u at w in let no : ◌≡◌ {A = ℕ} 0 1 = cc in absurd (omega arith)
        go2 (some os2) u =
            let w2 : some (old (lo x) at (lo y) z ∷ os2) ≡ some os = rw u at w in
            record {
              others = os2;
              is = cc;
              start = eqb-true (hi x) pos q3.0;
              first = eqb-true (hi y) at q3.1;
              in_text = leb-true (pos + lo x) T q2.1;
              in_words = leb-true (at + lo y) W q1.1;
              low = leb-true z counter_limit q0.1;
              rest_is = u;
            }
