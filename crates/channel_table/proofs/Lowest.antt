-- What a pass has found, once rules were shown to it, the last one first: of those that answer its question with yes the one with the lowest number.
-- By induction on the rules.
-- Assumes nothing.
use mathlib.Core.Path.{◌≡◌, refl, sym, ap, ◌∙◌}
use mathlib.Core.Bool.{Bool, true, false, ◌&&◌}
use mathlib.Core.List.{List, [], ◌∷◌}
use mathlib.Core.Option.{none, some}
use Prim.Native.Nat.{ℕ, zero, suc, ◌+◌, ◌<◌}
use native.Mathlib.Omega.{arith}
use lib.Dec.{ltb}
use lib.ListN.{length}
use borrow.Author.Tests.{lt-ltb}
use Rattle.channel_spec.specs.declared.Rule.{Rule}
use Rattle.channel_spec.specs.Table.{first_that, overlap, first_overlap, covers, permits}
use Rattle.channel_table.specs.declared.Question.{Question}
use Rattle.channel_table.specs.declared.Found.{Found}
use Rattle.channel_table.specs.declared.Search.{Search}
use Rattle.channel_table.specs.Search.{finds, question_after, found_after, moved}
use Rattle.channel_table.proofs.Marked.{rule}

-- the question, once rules were shown
abbrev pub question_in : Question → List Rule → Question
question_in q [] = q
question_in q (r ∷ rs) = question_after (question_in q rs) r

-- what is found, of a pass that begins as p, where the first of the rules has number i
abbrev pub found_in : Search → (i : ℕ) → List Rule → Found
found_in p i [] = p.found
found_in p i (r ∷ rs) = found_after (moved p i (question_in p.question rs) (found_in p (suc i) rs)) r

-- Of rules, the first of which has number i: none passes the test, and what was found before is kept; or the lowest that does is found.
pub data Lowest (test : ℕ → Rule → Bool) (f₀ : Found) (i : ℕ) (rs : List Rule) (f : Found) : Type 0 where
  nowhere : f ≡ f₀ → ((a : ℕ) → a < length rs → test (i + a) (rule rs a) ≡ false) → Lowest test f₀ i rs f
  lowest : (a : ℕ) → a < length rs → f.number ≡ i + a → f.rule ≡ rule rs a → test (i + a) (rule rs a) ≡ true → ((b : ℕ) → b < a → test (i + b) (rule rs b) ≡ false) → Lowest test f₀ i rs f

-- A pass whose question is this test finds it, where nothing was found before.
pub pass_finds : (test : ℕ → Rule → Bool) (p : Search) → ((i : ℕ) (r : Rule) (rs : List Rule) (f : Found) → finds (moved p i (question_in p.question rs) f) r ≡ test i r)
    → (i : ℕ) (rs : List Rule) → p.found.number ≡ i + length rs → Lowest test p.found i rs (found_in p i rs)
unfolding found_after moved
pass_finds test p same i [] h = nowhere refl (λ a l. absurd (omega arith))
pass_finds test p same i (r ∷ rs) h = go (pass_finds test p same (suc i) rs (omega arith))
  where
    F : Found
    F = found_in p (suc i) rs

    t : Bool
    t = finds (moved p i (question_in p.question rs) F) r

    kept : ((a : ℕ) → a < length rs → test (suc i + a) (rule rs a) ≡ false) → test i r ≡ false → (a : ℕ) → a < suc (length rs) → test (i + a) (rule (r ∷ rs) a) ≡ false
    kept g z zero l = let q : i + 0 ≡ i = omega arith in ap (λ (j : ℕ). test j r) q ∙ z
    kept g z (suc a) l = let q : i + suc a ≡ suc i + a = omega arith in ap (λ (j : ℕ). test j (rule rs a)) q ∙ g a (omega arith)

    below : (a : ℕ) → ((b : ℕ) → b < a → test (suc i + b) (rule rs b) ≡ false) → test i r ≡ false → (b : ℕ) → b < suc a → test (i + b) (rule (r ∷ rs) b) ≡ false
    below a g z zero l = let q : i + 0 ≡ i = omega arith in ap (λ (j : ℕ). test j r) q ∙ z
    below a g z (suc b) l = let q : i + suc b ≡ suc i + b = omega arith in ap (λ (j : ℕ). test j (rule rs b)) q ∙ g b (omega arith)

    here : test i r ≡ true → Lowest test p.found i (r ∷ rs) (record { number = i; rule = r })
    here z = let q : i + 0 ≡ i = omega arith in lowest 0 (omega arith) (sym q) refl (ap (λ (j : ℕ). test j r) q ∙ z) (λ b l. absurd (omega arith))

    put : (b : Bool) → t ≡ b → ltb i F.number ≡ true → (test i r ≡ false → Lowest test p.found i (r ∷ rs) F)
        → Lowest test p.found i (r ∷ rs) (elim (ltb i F.number && b) [ true ↦ record { number = i; rule = r } | false ↦ F ])
    put true z l else = rw l (here (sym (same i r rs F) ∙ z))
    put false z l else = rw l (else (sym (same i r rs F) ∙ z))

    go : Lowest test p.found (suc i) rs F → Lowest test p.found i (r ∷ rs) (elim (ltb i F.number && t) [ true ↦ record { number = i; rule = r } | false ↦ F ])
    go (nowhere c g) = put t refl (lt-ltb i F.number (omega (arith, ap (λ (z : Found). z.number) c))) (λ z. nowhere c (kept g z))
    go (lowest a l c d y g) =
        put t refl (lt-ltb i F.number (omega arith))
        (λ z. (let q : i + suc a ≡ suc i + a = omega arith in lowest (suc a) (omega arith) (c ∙ sym q) d (ap (λ (j : ℕ). test j (rule rs a)) q ∙ y) (below a g z)))

-- So it is the first that the definitions name.
pub first_none : (test : Rule → Bool) (i : ℕ) (rs : List Rule) → ((a : ℕ) → a < length rs → test (rule rs a) ≡ false) → first_that test i rs ≡ none
unfolding first_that
first_none test i [] g = refl
first_none test i (r ∷ rs) g = rw (first_that, g 0 (omega arith)) (first_none test (suc i) rs (λ a l. g (suc a) (omega arith)))

pub first_some : (test : Rule → Bool) (i : ℕ) (rs : List Rule) (a : ℕ) → a < length rs → test (rule rs a) ≡ true → ((b : ℕ) → b < a → test (rule rs b) ≡ false) → first_that test i rs ≡ some (i + a)
unfolding first_that
first_some test i [] a l t g = absurd (omega arith)
first_some test i (r ∷ rs) zero l t g = let q : i + 0 ≡ i = omega arith in rw (first_that, t) (ap some (sym q))
first_some test i (r ∷ rs) (suc a) l t g =
    let q : i + suc a ≡ suc i + a = omega arith in
    rw (first_that, g 0 (omega arith)) (first_some test (suc i) rs a (omega arith) t (λ b h. g (suc b) (omega arith)) ∙ ap some (sym q))

-- No two overlap; or the pair that is lowest by the earlier, then by the later.
pub overlap_none : (i : ℕ) (rs : List Rule) → ((a b : ℕ) → a < b → b < length rs → overlap (rule rs a) (rule rs b) ≡ false) → first_overlap i rs ≡ none
unfolding first_overlap
overlap_none i [] g = refl
overlap_none i (r ∷ rs) g =
    rw (first_overlap, first_none (overlap r) (suc i) rs (λ b l. g 0 (suc b) (omega arith) (omega arith)))
    (overlap_none (suc i) rs (λ a b l h. g (suc a) (suc b) (omega arith) (omega arith)))

pub overlap_some : (i : ℕ) (rs : List Rule) (e a : ℕ) → e < a → a < length rs → overlap (rule rs e) (rule rs a) ≡ true → ((b : ℕ) → e < b → b < a → overlap (rule rs e) (rule rs b) ≡ false)
    → ((d b : ℕ) → d < e → d < b → b < length rs → overlap (rule rs d) (rule rs b) ≡ false) → first_overlap i rs ≡ some (i + a)
unfolding first_overlap
overlap_some i [] e a l h t g k = absurd (omega arith)
overlap_some i (r ∷ rs) zero zero l h t g k = absurd (omega arith)
overlap_some i (r ∷ rs) zero (suc a) l h t g k =
    let q : i + suc a ≡ suc i + a = omega arith in
    rw (first_overlap, first_some (overlap r) (suc i) rs a (omega arith) t (λ b z. g (suc b) (omega arith) (omega arith))) (ap some (sym q))
overlap_some i (r ∷ rs) (suc e) zero l h t g k = absurd (omega arith)
overlap_some i (r ∷ rs) (suc e) (suc a) l h t g k =
    let q : i + suc a ≡ suc i + a = omega arith in
    rw (first_overlap, first_none (overlap r) (suc i) rs (λ b z. k 0 (suc b) (omega arith) (omega arith) (omega arith)))
    (overlap_some (suc i) rs e a (omega arith) (omega arith) t (λ b y z. g (suc b) (omega arith) (omega arith)) (λ d b x y z. k (suc d) (suc b) (omega arith) (omega arith) (omega arith)) ∙ ap some (sym q))

-- What the first rule that covers a channel says.
pub permits_none : (c x : ℕ) (rs : List Rule) → ((a : ℕ) → a < length rs → covers c x (rule rs a) ≡ false) → permits c x rs ≡ false
unfolding permits
permits_none c x [] g = refl
permits_none c x (r ∷ rs) g = rw (permits, g 0 (omega arith)) (permits_none c x rs (λ a l. g (suc a) (omega arith)))

pub permits_some : (c x : ℕ) (rs : List Rule) (a : ℕ) → a < length rs → covers c x (rule rs a) ≡ true → ((b : ℕ) → b < a → covers c x (rule rs b) ≡ false) → permits c x rs ≡ ltb 0 (rule rs a).allowed
unfolding permits
permits_some c x [] a l t g = absurd (omega arith)
permits_some c x (r ∷ rs) zero l t g = rw (permits, t)
permits_some c x (r ∷ rs) (suc a) l t g = rw (permits, g 0 (omega arith)) (permits_some c x rs a (omega arith) t (λ b h. g (suc b) (omega arith)))
