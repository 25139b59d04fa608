-- The second pass of a re-reading: the pieces that the first found are read again, and written. It meets the same pieces.
-- Both passes read by the same definition at the same places.
-- Assumes nothing.
use mathlib.Core.Path.{◌≡◌, refl, sym, ap, ◌∙◌}
use mathlib.Core.Bool.{Bool, true, false}
use mathlib.Core.Option.{Option, none, some}
use mathlib.Core.List.{List, [], ◌∷◌}
use Prim.Native.Nat.{ℕ, zero, suc, ◌-◌, ◌<◌}
use native.Mathlib.Omega.{arith}
use lib.Dec.{ltb}
use lib.ListN.{length, take, drop}
use borrow.Author.Tests.{ltb-true, ltb-false}
use Rattle.records.specs.Pieces.{HeadRead, head, bad_head, BlockRead, block, tail, bad_block, Run, done, stop, item, Source, fresh, kept, before, Old, old, old_sizes, first_counter, Verdict, joins, again, behind_front}
use Rattle.theorem_edits.specs.Law.{Grammar}
use Rattle.piece_directory.specs.Olds.{olds_of, begins}
use Rattle.reread_kept.specs.Place.{Taken, read_then, reads_from, reads, rest_left, Settled}
use Rattle.reread_passes.proofs.Again.{again_joined, again_block, again_tail, again_bad, behind_joined, behind_head, behind_bad, behind_some, behind_all}

-- ---- runs that begin alike
no : {A : Type 0} → ◌≡◌ {A = ℕ} 0 1 → A
no z = absurd (omega arith)

-- nothing that was read stands behind a refusal, at the end, or among old pieces
no_stop : (fs : List Taken) (r : Run Source) (q p : ℕ) → 0 < length fs → stop q p ≡ read_then fs r → ⊥
unfolding read_then
no_stop [] r q p h e = omega arith
no_stop (x ∷ fs) r q p h e = no (cc)

no_done : (fs : List Taken) (r : Run Source) → 0 < length fs → done ≡ read_then fs r → ⊥
unfolding read_then
no_done [] r h e = omega arith
no_done (x ∷ fs) r h e = no (cc)

no_kept : (ps : List Old) (fs : List Taken) (r : Run Source) → 0 < length fs → before ps done ≡ read_then fs r → ⊥
unfolding read_then before
no_kept ps [] r h e = omega arith
no_kept [] (x ∷ fs) r h e = no (cc)
no_kept (old a b c m ∷ ps) (x ∷ fs) r h e = let w : kept b c ≡ fresh x.2 = cc in no (cc)

none_left : (l : List Taken) (r : Run Source) → done ≡ read_then l r → l ≡ []
unfolding read_then
none_left [] r e = refl
none_left (x ∷ l) r e = no (cc)

-- ---- what is read is what the text has
module _ (head_at : List ℕ → HeadRead) (block_at : ℕ → List ℕ → BlockRead) (G : Grammar head_at block_at) (c T : ℕ) (os ps : List Old) where
  reads_again : (fs : List Taken) (d : ℕ) (s : List ℕ) → (0 < length fs → again head_at block_at c T os d s ≡ read_then fs (before ps done)) → fs ≡ reads_from block_at (length fs) d s
  unfolding reads_from read_then
  reads_again [] d s h = refl
  reads_again (x ∷ fs) d s h = go (block_at d s) refl (reads_again fs)
    where
      r : Run Source
      r = before ps done

      go : (b : BlockRead) → block_at d s ≡ b → ((m : ℕ) (t : List ℕ) → (0 < length fs → again head_at block_at c T os m t ≡ read_then fs (before ps done)) → fs ≡ reads_from block_at (length fs) m t) → x ∷ fs ≡ reads_from block_at (suc (length fs)) d s
      go (bad_block q p) b ih = absurd (no_stop (x ∷ fs) r q p (omega arith) (sym (again_bad head_at block_at G c T os d s q p b) ∙ h (omega arith)))
      go (tail e) b ih =
          let w : item e d (fresh []) done ≡ item x.0 x.1 (fresh x.2) (read_then fs r) = sym (again_tail head_at block_at G c T os d s e b) ∙ h (omega arith) in
          let a : x.0 ≡ e = cc in
          let o : x.1 ≡ d = cc in
          let u : x.2 ≡ [] = cc in
          rw (reads_from, b, ← a, ← o, ← u) (ap {B = List Taken} (λ t. x ∷ t) (none_left fs r (cc)))
      go (block e d2 ws) b ih = go2 (joins c T os d2 (drop e s)) refl
        where
          go2 : (o : Option (List Old)) → joins c T os d2 (drop e s) ≡ o → x ∷ fs ≡ reads_from block_at (suc (length fs)) d s
          go2 none t =
              let w : item e d (fresh ws) (again head_at block_at c T os d2 (drop e s)) ≡ item x.0 x.1 (fresh x.2) (read_then fs r) = sym (again_block head_at block_at G c T os d s e d2 ws b t) ∙ h (omega arith) in
              let a : x.0 ≡ e = cc in
              let y : x.1 ≡ d = cc in
              let u : x.2 ≡ ws = cc in
              rw (reads_from, b, ← a, ← y, ← u) (ap {B = List Taken} (λ l. x ∷ l) (rw a (ih d2 (drop e s) (λ z. cc))))
          go2 (some qs) t =
              let w : item e d (fresh ws) (before qs done) ≡ item x.0 x.1 (fresh x.2) (read_then fs r) = sym (again_joined head_at block_at G c T os d s e d2 ws qs b t) ∙ h (omega arith) in
              let a : x.0 ≡ e = cc in
              let y : x.1 ≡ d = cc in
              let u : x.2 ≡ ws = cc in
              let k : before qs done ≡ read_then fs r = cc in
              rw (reads_from, b, ← a, ← y, ← u) (ap {B = List Taken} (λ l. x ∷ l) (rw a (ih d2 (drop e s) (λ z. absurd (no_kept qs fs r z k)))))

  reads_behind : (fs : List Taken) (k k₁ d : ℕ) (newer : List ℕ) → k₁ ≡ old_sizes (take (suc k) os) → d ≡ first_counter (drop (suc k) os) → behind_front head_at block_at c T os (suc k) newer ≡ read_then fs (before ps done) → fs ≡ reads_from block_at (length fs) d (drop k₁ newer)
  reads_behind fs k k₁ d newer q m e = reads_again fs d (drop k₁ newer) (λ l. go l (ltb (suc k) (length os)) refl)
    where
      go : 0 < length fs → (b : Bool) → ltb (suc k) (length os) ≡ b → again head_at block_at c T os d (drop k₁ newer) ≡ read_then fs (before ps done)
      go l true t = rw (q, m) (sym (behind_some head_at block_at G c T os newer (suc k) (omega arith) (ltb-true (suc k) (length os) t)) ∙ e)
      go l false t = absurd (no_done fs (before ps done) l (sym (behind_all head_at block_at G c T os newer (suc k) (omega arith) (ltb-false (suc k) (length os) t)) ∙ e))

  reads_head : (fs : List Taken) (k₁ d : ℕ) (newer : List ℕ) → behind_front head_at block_at c T os 0 newer ≡ read_then fs (before ps done) → 0 < length fs → fs ≡ reads head_at block_at 0 k₁ d (length fs) newer
  unfolding reads read_then
  reads_head [] k₁ d newer e l = absurd (omega arith)
  reads_head (x ∷ fs) k₁ d newer e l = go (head_at newer) refl
    where
      r : Run Source
      r = before ps done

      go : (b : HeadRead) → head_at newer ≡ b → x ∷ fs ≡ reads head_at block_at 0 k₁ d (suc (length fs)) newer
      go (bad_head q p) b = absurd (no_stop (x ∷ fs) r q p (omega arith) (sym (behind_bad head_at block_at G c T os newer q p b) ∙ e))
      go (head a d2 ws) b = go2 (joins c T os d2 (drop a newer)) refl
        where
          go2 : (o : Option (List Old)) → joins c T os d2 (drop a newer) ≡ o → x ∷ fs ≡ reads head_at block_at 0 k₁ d (suc (length fs)) newer
          go2 none t =
              let w : item a 0 (fresh ws) (again head_at block_at c T os d2 (drop a newer)) ≡ item x.0 x.1 (fresh x.2) (read_then fs r) = sym (behind_head head_at block_at G c T os newer a d2 ws b t) ∙ e in
              let y : x.0 ≡ a = cc in
              let z : x.1 ≡ 0 = cc in
              let u : x.2 ≡ ws = cc in
              rw (reads, b, ← y, ← z, ← u) (ap {B = List Taken} (λ l. x ∷ l) (rw y (reads_again fs d2 (drop a newer) (λ l. cc))))
          go2 (some qs) t =
              let w : item a 0 (fresh ws) (before qs done) ≡ item x.0 x.1 (fresh x.2) (read_then fs r) = sym (behind_joined head_at block_at G c T os newer a d2 ws qs b t) ∙ e in
              let y : x.0 ≡ a = cc in
              let z : x.1 ≡ 0 = cc in
              let u : x.2 ≡ ws = cc in
              let k : before qs done ≡ read_then fs r = cc in
              rw (reads, b, ← y, ← z, ← u) (ap {B = List Taken} (λ l. x ∷ l) (rw y (reads_again fs d2 (drop a newer) (λ l. absurd (no_kept qs fs r l k)))))

-- The pieces that the first pass found are those that the text has there: what the second pass is asked to write.
pub settled_reads : (head_at : List ℕ → HeadRead) (block_at : ℕ → List ℕ → BlockRead) (G : Grammar head_at block_at) (W D len c T n : ℕ) (dir newer : List ℕ) (v : Verdict) (rest : Run Source) (k k₁ k₂ i pos at j : ℕ)
    → rest ≡ behind_front head_at block_at c T (olds_of n dir) k newer → k₁ ≡ old_sizes (take k (olds_of n dir)) → (g : Settled W D len v rest n dir k k₁ k₂ i pos at j) → g.fs ≡ reads head_at block_at k k₁ (begins k (olds_of n dir)) (i - k) newer
unfolding rest_left reads read_then begins
settled_reads head_at block_at G W D len c T n dir newer v rest zero k₁ k₂ i pos at j e q g = go g.fs (omega (arith, g.number)) (sym e ∙ g.run)
  where
    go : (fs : List Taken) → i - 0 ≡ length fs → behind_front head_at block_at c T (olds_of n dir) 0 newer ≡ read_then fs (before (drop j (olds_of n dir)) done) → fs ≡ reads head_at block_at 0 k₁ 0 (i - 0) newer
    go [] z p = rw z
    go (x ∷ fs) z p = rw z (reads_head head_at block_at G c T (olds_of n dir) (drop j (olds_of n dir)) (x ∷ fs) k₁ 0 newer p (omega arith))
settled_reads head_at block_at G W D len c T n dir newer v rest (suc k) k₁ k₂ i pos at j e q g =
    let z : i - suc k ≡ length g.fs = omega (arith, g.number) in
    rw z (reads_behind head_at block_at G c T (olds_of n dir) (drop j (olds_of n dir)) g.fs k k₁ (first_counter (drop (suc k) (olds_of n dir))) newer q refl (sym e ∙ g.run))
