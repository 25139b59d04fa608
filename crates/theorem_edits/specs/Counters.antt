-- On an accepted reading the counters never fall: the third word of each directory entry is at least that of every entry before it.
-- By induction on the pieces: a head begins with 0, and a block hands on no less than it was told.
-- Assumes nothing.
use Rattle.std.specs.Prelude.{◌≡◌, List, ◌∷◌, ◌++◌, length, drop, get_or, replicate}
use Rattle.std.proofs.Math.Path.{refl}
use Rattle.std.proofs.Common.{ap}
use Prim.Native.Nat.{ℕ, zero, suc, ◌+◌, ◌-◌, ◌*◌, ◌≤◌, ◌<◌}
use native.Mathlib.Omega.{arith}
use Rattle.records.specs.Limits.{entry_words}
use Rattle.records.specs.Words.{pack}
use Rattle.records.specs.Pieces.{HeadRead, head, bad_head, BlockRead, block, tail, bad_block, Run, done, stop, item, blocks_in, blocks, reading, entries, count_run, pad, left, count}
use Rattle.grammar.specs.Function.{head_at, block_at, reading_of}
use Rattle.theorem_refusals.specs.Places.{block_counter}
use Rattle.theorem_edits.specs.Same.{accepted}
use Rattle.theorem_edits.specs.Again.{laws}

-- the third word of entry k
unfoldable pub counter_of : List ℕ → ℕ → ℕ
counter_of dir k = get_or dir (k * entry_words + 2) 0

-- None of the run's counters is below the one before it, nor below c.
Rising : {A : Type 0} → ℕ → Run A → Type 0
Rising c done = Unit {0}
Rising c (stop q p) = Unit {0}
Rising c (item e d a r) = (c ≤ d) × Rising d r

from_below : {A : Type 0} (c d : ℕ) (r : Run A) → c ≤ d → Rising d r → Rising c r
unfolding Rising
from_below c d done l h = tt
from_below c d (stop q p) l h = tt
from_below c d (item e m a r) l h = (omega (arith, h.0), h.1)

module _ (head_at : List ℕ → HeadRead) (block_at : ℕ → List ℕ → BlockRead) (rises : (c : ℕ) (s : List ℕ) (e d : ℕ) (ws : List ℕ) → block_at c s ≡ block e d ws → c ≤ d) where
  rising_blocks : (n c : ℕ) (s : List ℕ) → Rising c (blocks_in head_at block_at n c s)
  unfolding blocks_in Rising
  rising_blocks zero c s = tt
  rising_blocks (suc n) c s = go (block_at c s) refl (λ e d. rising_blocks n d (drop e s))
    where
      go : (b : BlockRead) → block_at c s ≡ b → ((e d : ℕ) → Rising d (blocks_in head_at block_at n d (drop e s))) → Rising c (blocks_in head_at block_at (suc n) c s)
      go (block e d ws) p ih = rw (p, blocks_in) (omega arith, from_below c d (blocks_in head_at block_at n d (drop e s)) (rises c s e d ws p) (ih e d))
      go (tail e) p ih = rw (p, blocks_in) (omega arith, tt)
      go (bad_block q x) p ih = rw (p, blocks_in) tt

  rising_reading : (s : List ℕ) → Rising 0 (reading head_at block_at s)
  unfolding reading blocks Rising
  rising_reading s = go (head_at s) refl
    where
      go : (b : HeadRead) → head_at s ≡ b → Rising 0 (reading head_at block_at s)
      go (head e d ws) p =
          let n : ℕ = suc (length (drop e s)) in
          rw (p, reading) (omega arith, from_below 0 d (blocks_in head_at block_at n d (drop e s)) (omega arith) (rising_blocks n d (drop e s)))
      go (bad_head q x) p = rw (p, reading) tt

next_counter : (x y z : ℕ) (dir : List ℕ) (k : ℕ) → counter_of (x ∷ y ∷ z ∷ dir) (suc k) ≡ counter_of dir k
unfolding counter_of
next_counter x y z dir k =
    let e : suc k * entry_words + 2 ≡ suc (suc (suc (k * entry_words + 2))) = omega arith in
    ap (λ (i : ℕ). get_or (x ∷ y ∷ z ∷ dir) i 0) e

-- The directory of such a run.
at_least : (c pos at : ℕ) (zs : List ℕ) (r : Run (List ℕ)) → Rising c r → (k : ℕ) → k < count_run r → c ≤ counter_of (entries pos at r ++ zs) k
unfolding Rising count_run entries counter_of
at_least c pos at zs done h k l = absurd (omega arith)
at_least c pos at zs (stop q p) h k l = absurd (omega arith)
at_least c pos at zs (item e d ws r) h zero l = h.0
at_least c pos at zs (item e d ws r) h (suc k) l =
    let o = entries (pos + e) (at + length ws) r ++ zs in
    omega (arith, h.0, at_least d (pos + e) (at + length ws) zs r h.1 k (omega arith), next_counter (pack pos e) (pack at (length ws)) d o k)

in_order : (c pos at : ℕ) (zs : List ℕ) (r : Run (List ℕ)) → Rising c r → (i j : ℕ) → i ≤ j → j < count_run r → counter_of (entries pos at r ++ zs) i ≤ counter_of (entries pos at r ++ zs) j
unfolding Rising count_run entries counter_of
in_order c pos at zs done h i j l m = absurd (omega arith)
in_order c pos at zs (stop q p) h i j l m = absurd (omega arith)
in_order c pos at zs (item e d ws r) h zero zero l m = omega arith
in_order c pos at zs (item e d ws r) h (suc i) zero l m = absurd (omega arith)
in_order c pos at zs (item e d ws r) h zero (suc j) l m =
    let o = entries (pos + e) (at + length ws) r ++ zs in
    omega (arith, at_least d (pos + e) (at + length ws) zs r h.1 j (omega arith), next_counter (pack pos e) (pack at (length ws)) d o j)
in_order c pos at zs (item e d ws r) h (suc i) (suc j) l m =
    let o = entries (pos + e) (at + length ws) r ++ zs in
    let next = next_counter (pack pos e) (pack at (length ws)) d o in
    omega (arith, in_order d (pos + e) (at + length ws) zs r h.1 i j (omega arith) (omega arith), next i, next j)

-- "Directory entries gain a third word holding the counter at the piece's start" (02: M-106): of an accepted text, these never fall.
pub counters_rise : (W D n : ℕ) (ws ds text : List ℕ) → reading_of W D text ≡ left (count n) ws ds → (i j : ℕ) → i ≤ j → j < n → counter_of ds i ≤ counter_of ds j
unfolding reading_of pad
counters_rise W D n ws ds text h i j l m =
    let A = accepted head_at block_at laws W D n ws ds text h in
    let r : Run (List ℕ) = reading head_at block_at text in
    let rise : Rising 0 r = rising_reading head_at block_at (λ c s e d us p. (block_counter c s e d us p).0) text in
    rw A.dir (in_order 0 0 0 (replicate (D - length (entries 0 0 r)) 0) r rise i j l (omega (arith, A.number)))
