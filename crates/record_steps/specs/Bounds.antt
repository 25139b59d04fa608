-- Steps go forward, and stay inside the array: who steps comes to an end. A name's part lies inside the piece.
-- Assumes nothing.
use Rattle.std.specs.Prelude.{◌≡◌, refl, Bool, true, false, ◌&&◌, List, ℕ, ◌+◌, ◌≤◌, ◌<◌, ltb, leb, length}
use Rattle.std.proofs.Common.{ap, sym, ◌∙◌, arith, ltb-true, ltb-false, leb-true}
use Rattle.std.proofs.Math.Option.{Option, none, some}
use Rattle.std.proofs.Math.ListN.{get_or-eq_default}
use Rattle.records.specs.Kinds.{Kind}
use Rattle.records.specs.Words.{hi, lo}
use Rattle.trees.specs.Steps.{word_at, kind_in, children_in, extent_in, is_header, kind_of, step_to, behind_payload, child_of, next_of, part, part_of}

-- a header stands only inside the array: past it every word is 0
pub header_inside : (ws : List ℕ) (at : ℕ) → is_header (word_at ws at) ≡ true → at < length ws
header_inside ws at i = go (ltb at (length ws)) refl
  where
    go : (t : Bool) → ltb at (length ws) ≡ t → at < length ws
    go true f = ltb-true _ _ f
    go false f =
        let z : false ≡ true = sym (ap is_header (get_or-eq_default ws 0 (ltb-false _ _ f))) ∙ i in
        let o : ◌≡◌ {A = ℕ} 0 1 = cc in
        absurd (omega arith)

-- a step goes where it is to go, and only inside the array
stepped : (ws : List ℕ) (place to : ℕ) → step_to ws place ≡ some to → (to ≡ place) × (to < length ws)
unfolding step_to
stepped ws place to e = go (is_header (word_at ws place)) refl e
  where
    go : (t : Bool) → is_header (word_at ws place) ≡ t → elim t [ true ↦ some place | false ↦ none ] ≡ some to → (to ≡ place) × (to < length ws)
    go true f e = let same : to ≡ place = cc in (same, omega (arith, header_inside ws place f))
    go false f e = let o : ◌≡◌ {A = ℕ} 0 1 = cc in absurd (omega arith)

pub child_forward : (ws : List ℕ) (at to : ℕ) → child_of ws at ≡ some to → (at < to) × (to < length ws)
unfolding child_of behind_payload
child_forward ws at to e = go (is_header (word_at ws at) && ltb 0 (children_in (word_at ws at))) (kind_of (kind_in (word_at ws at))) e
  where
    go : (t : Bool) (o : Option Kind) → elim t [ true ↦ elim o [ some k ↦ step_to ws (behind_payload ws at k) | none ↦ none ] | false ↦ none ] ≡ some to → (at < to) × (to < length ws)
    go true (some k) e = omega (arith, stepped ws _ to e)
    go true none e = let o : ◌≡◌ {A = ℕ} 0 1 = cc in absurd (omega arith)
    go false o e = let o : ◌≡◌ {A = ℕ} 0 1 = cc in absurd (omega arith)

pub next_forward : (ws : List ℕ) (at end to : ℕ) → next_of ws at end ≡ some to → (at < to) × (to < length ws) × (to < end)
unfolding next_of
next_forward ws at end to e = go (is_header (word_at ws at)) refl (ltb (at + extent_in (word_at ws at)) end) refl e
  where
    go : (t : Bool) → is_header (word_at ws at) ≡ t → (u : Bool) → ltb (at + extent_in (word_at ws at)) end ≡ u → elim (t && u) [ true ↦ step_to ws (at + extent_in (word_at ws at)) | false ↦ none ] ≡ some to → (at < to) × (to < length ws) × (to < end)
    go true f true g e = omega (arith, stepped ws _ to e, ltb-true 0 (extent_in (word_at ws at)) f, ltb-true (at + extent_in (word_at ws at)) end g)
    go true f false g e = let o : ◌≡◌ {A = ℕ} 0 1 = cc in absurd (omega arith)
    go false f u g e = let o : ◌≡◌ {A = ℕ} 0 1 = cc in absurd (omega arith)

pub part_inside : (n w start bytes : ℕ) → part_of n w ≡ some (part start bytes) → start + bytes ≤ n
unfolding part_of
part_inside n w start bytes e = go (ltb 0 w) (leb (hi w + lo w) n) refl e
  where
    go : (t u : Bool) → leb (hi w + lo w) n ≡ u → elim (t && u) [ true ↦ some (part (hi w) (lo w)) | false ↦ none ] ≡ some (part start bytes) → start + bytes ≤ n
    go true true f e =
        let a : start ≡ hi w = cc in
        let b : bytes ≡ lo w = cc in
        omega (arith, leb-true (hi w + lo w) n f)
    go true false f e = let o : ◌≡◌ {A = ℕ} 0 1 = cc in absurd (omega arith)
    go false u f e = let o : ◌≡◌ {A = ℕ} 0 1 = cc in absurd (omega arith)
