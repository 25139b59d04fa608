-- Demand 3: on the records of an accepted full reading, re-reading and a full reading of the newer text leave the same.
-- The directory that such a reading leaves names its pieces again, each with its counter, and the words kept are those that reading them anew gives; so both runs have the
-- same pieces (`Law`), and what is asked and left of them is the same.
use Rattle.std.proofs.Math.Path.{◌≡◌, refl, ap}
use Rattle.std.proofs.Common.{sym, ◌∙◌, add-zero, add-suc, suc-add, add_assoc, length-append, drop_at}
use Rattle.std.specs.Prelude.{Bool, false, ◌&&◌, ltb, eqb, take, drop, replicate}
use Rattle.std.proofs.Math.Bool.{true}
use Rattle.std.proofs.Math.Option.{some}
use mathlib.Core.List.{List, [], ◌∷◌, ◌++◌, append_assoc}
use Prim.Native.Nat.{ℕ, zero, suc, ◌+◌, ◌-◌, ◌*◌, ◌/◌, ◌%◌, ◌≤◌, ◌<◌}
use Rattle.std.proofs.Math.Nat.{zero-add}
use native.Mathlib.Omega.{arith}
use Rattle.std.proofs.Math.Dec.{leb}
use Rattle.std.proofs.Math.Arith.{digits_div, digits_mod}
use Rattle.std.proofs.Math.ListN.{length, length-drop}
use Rattle.std.proofs.lemmas.List.{length-replicate}
use Rattle.std.proofs.Math.Seq.{take-append_seam}
use borrow.Author.Tests.{ltb-true, leb-true, lt-ltb, le-leb, eq-eqb}
use Rattle.records.specs.Limits.{half_limit, text_limit, counter_limit, entry_words}
use Rattle.records.specs.Words.{pack}
use Rattle.records.specs.Questions.{q_length}
use Rattle.records.specs.Pieces.{HeadRead, head, bad_head, BlockRead, block, tail, bad_block, Run, done, stop, item, map_run, Old, old, Source, before, old_sizes, old_words, kept_rest, kept_front, common, keeps, rest, blocks, blocks_in, reading, Verdict, fine, refused, text_asked, judge, pad, all_words, entries, count_run, refused_at, count, Left, left, leave, and_then, cons_old, chain, olds, size, source_words, closes, full_verdict, full, judge_again, reread_of, reread, left_of, leave_again}
use Rattle.theorem_edits.specs.Chain.{and_true}
use Rattle.theorem_edits.specs.Law.{Grammar, IsReading, core, blocks_block, blocks_tail, blocks_bad}

-- Questions 20 and 21 of one piece, passed.
pub record Fits (W D i at n : ℕ) : Type 0 where
  pub words : at + n ≤ W
  pub small : at + n < half_limit
  pub entry : i * entry_words + entry_words ≤ D

data JudgeStep (W D i pos at e c n : ℕ) (r : Run ℕ) (v : Verdict) : Type 0 where
  passes : Fits W D i at n → v ≡ judge W D (suc i) (pos + e) (at + n) r → JudgeStep W D i pos at e c n r v
  fails : (q p : ℕ) → v ≡ refused q p → JudgeStep W D i pos at e c n r v

judge_step : (W D i pos at e c n : ℕ) (r : Run ℕ) → JudgeStep W D i pos at e c n r (judge W D i pos at (item e c n r))
unfolding judge
judge_step W D i pos at e c n r = go (leb (at + n) W && ltb (at + n) half_limit) refl
  where
    go2 : (b : Bool) → leb (i * entry_words + entry_words) D ≡ b → (leb (at + n) W && ltb (at + n) half_limit) ≡ true → JudgeStep W D i pos at e c n r (judge W D i pos at (item e c n r))
    go2 true q p =
        let w : leb (at + n) W ≡ true = (and_true (leb (at + n) W) (ltb (at + n) half_limit) p).0 in
        let s : ltb (at + n) half_limit ≡ true = (and_true (leb (at + n) W) (ltb (at + n) half_limit) p).1 in
        passes (record { words = leb-true (at + n) W w; small = ltb-true (at + n) half_limit s; entry = leb-true (i * entry_words + entry_words) D q }) (rw (judge, p, q))
    go2 false q p = fails 21 (pos + e) (rw (judge, p, q))

    go : (b : Bool) → (leb (at + n) W && ltb (at + n) half_limit) ≡ b → JudgeStep W D i pos at e c n r (judge W D i pos at (item e c n r))
    go true p = go2 (leb (i * entry_words + entry_words) D) refl p
    go false p = fails 20 (pos + e) (rw (judge, p))

-- One piece of an accepted run fits, and the rest is accepted.
pub record Accepted (W D i pos at e c n : ℕ) (r : Run ℕ) : Type 0 where
  pub fits : Fits W D i at n
  pub others : judge W D (suc i) (pos + e) (at + n) r ≡ fine
  pub step : judge W D i pos at (item e c n r) ≡ judge W D (suc i) (pos + e) (at + n) r

pub accepts : (W D i pos at e c n : ℕ) (r : Run ℕ) → judge W D i pos at (item e c n r) ≡ fine → Accepted W D i pos at e c n r
accepts W D i pos at e c n r h = go (judge_step W D i pos at e c n r)
  where
    go : JudgeStep W D i pos at e c n r (judge W D i pos at (item e c n r)) → Accepted W D i pos at e c n r
    go (passes f q) = record { fits = f; others = sym q ∙ h; step = q }
    go (fails a b q) = let z : ◌≡◌ {A = ℕ} 0 1 = cc in absurd (omega arith)

-- Whether a piece fits does not depend on what comes behind it.
fit_step : (W D i pos at e c n : ℕ) (r : Run ℕ) → Fits W D i at n → judge W D i pos at (item e c n r) ≡ judge W D (suc i) (pos + e) (at + n) r
unfolding judge
fit_step W D i pos at e c n r f =
    let a : leb (at + n) W ≡ true = le-leb (at + n) W f.words in
    let b : ltb (at + n) half_limit ≡ true = lt-ltb (at + n) half_limit f.small in
    let d : leb (i * entry_words + entry_words) D ≡ true = le-leb (i * entry_words + entry_words) D f.entry in
    rw (judge, a, b, d)

-- What is kept in front of an accepted run needs no question.
judge_front : (W D i pos at k : ℕ) (os : List Old) (r : Run Source) → k ≤ length os → judge W D i pos at (map_run size (before os done)) ≡ fine
    → judge W D i pos at (map_run size (before (take k os) r)) ≡ judge W D (i + k) (pos + old_sizes (take k os)) (at + old_words (take k os)) (map_run size r)
unfolding map_run before old_sizes old_words size
judge_front W D i pos at zero os r l h = rw (add-zero i, add-zero pos, add-zero at)
judge_front W D i pos at (suc k) [] r l h = absurd (omega arith)
judge_front W D i pos at (suc k) (old e f n c ∷ os) r l h =
    let a : Accepted W D i pos at e c n (map_run size (before os done)) = accepts W D i pos at e c n (map_run size (before os done)) h in
    let s : judge W D i pos at (item e c n (map_run size (before (take k os) r))) ≡ judge W D (suc i) (pos + e) (at + n) (map_run size (before (take k os) r))
    = fit_step W D i pos at e c n (map_run size (before (take k os) r)) a.fits in
    rw (add-suc i k, ← suc-add i k, ← add_assoc pos e (old_sizes (take k os)), ← add_assoc at n (old_words (take k os)))
    (s ∙ judge_front W D (suc i) (pos + e) (at + n) k os r (omega arith) a.others)

kept_rest_le : (s : List ℕ) (os : List Old) → kept_rest s os ≤ length os
unfolding kept_rest
kept_rest_le s [] = omega arith
kept_rest_le s (old e f n c ∷ []) = go (ltb e (length s)) refl
  where
    go : (b : Bool) → ltb e (length s) ≡ b → kept_rest s (old e f n c ∷ []) ≤ 1
    go true t = rw (t, kept_rest) (omega arith)
    go false t = rw (t, kept_rest) (omega arith)
kept_rest_le s (old e f n c ∷ o ∷ os) = go (closes (drop e s)) refl (kept_rest_le (drop e s) (o ∷ os))
  where
    go : (b : Bool) → closes (drop e s) ≡ b → kept_rest (drop e s) (o ∷ os) ≤ suc (length os) → kept_rest s (old e f n c ∷ o ∷ os) ≤ suc (suc (length os))
    go true t ih = rw (t, kept_rest) (omega arith)
    go false t ih = rw (t, kept_rest) (omega arith)

kept_front_le : (s : List ℕ) (os : List Old) → kept_front s os ≤ length os
unfolding kept_front
kept_front_le s [] = omega arith
kept_front_le s (old e f n c ∷ os) = go (ltb e (length s)) refl (kept_rest_le (drop e s) os)
  where
    go : (b : Bool) → ltb e (length s) ≡ b → kept_rest (drop e s) os ≤ length os → kept_front s (old e f n c ∷ os) ≤ suc (length os)
    go true t ih = rw (t, kept_front) (omega arith)
    go false t ih = rw (t, kept_front) (omega arith)

-- The older pieces as the directory of their reading tells them.
olds_of : ℕ → Run (List ℕ) → List Old
olds_of at done = []
olds_of at (stop q p) = []
olds_of at (item e c ws r) = old e at (length ws) c ∷ olds_of (at + length ws) r

unfoldable pub sizes : Run (List ℕ) → ℕ
sizes done = 0
sizes (stop q p) = 0
sizes (item e c ws r) = e + sizes r

olds_of_sizes : (W D i pos at : ℕ) (r : Run (List ℕ)) → judge W D i pos at (map_run length r) ≡ fine → map_run size (before (olds_of at r) done) ≡ map_run length r
unfolding olds_of map_run before size judge
olds_of_sizes W D i pos at done h = refl
olds_of_sizes W D i pos at (stop q p) h = let z : ◌≡◌ {A = ℕ} 0 1 = cc in absurd (omega arith)
olds_of_sizes W D i pos at (item e c ws r) h =
    ap (item e c (length ws)) (olds_of_sizes W D (suc i) (pos + e) (at + length ws) r (accepts W D i pos at e c (length ws) (map_run length r) h).others)

olds_of_words : (W D i pos at : ℕ) (front zs : List ℕ) (r : Run (List ℕ)) → judge W D i pos at (map_run length r) ≡ fine → length front ≡ at
    → map_run (source_words (front ++ (all_words r ++ zs))) (before (olds_of at r) done) ≡ map_run (λ ws. ws) r
unfolding olds_of map_run before source_words judge all_words
olds_of_words W D i pos at front zs done h l = refl
olds_of_words W D i pos at front zs (stop q p) h l = let z : ◌≡◌ {A = ℕ} 0 1 = cc in absurd (omega arith)
olds_of_words W D i pos at front zs (item e c ws r) h l =
    let one : take (length ws) (drop at (front ++ ((ws ++ all_words r) ++ zs))) ≡ ws =
    rw (drop_at front ((ws ++ all_words r) ++ zs) at l, append_assoc ws (all_words r) zs) (take-append_seam ws (all_words r ++ zs)) in
    let re : front ++ ((ws ++ all_words r) ++ zs) ≡ (front ++ ws) ++ (all_words r ++ zs) = simp append_assoc in
    let ih : map_run (source_words ((front ++ ws) ++ (all_words r ++ zs))) (before (olds_of (at + length ws) r) done) ≡ map_run (λ ws. ws) r =
    olds_of_words W D (suc i) (pos + e) (at + length ws) (front ++ ws) zs r (accepts W D i pos at e c (length ws) (map_run length r) h).others (length-append front ws ∙ ap (λ (n : ℕ). n + length ws) l) in
    let ih2 : map_run (source_words (front ++ ((ws ++ all_words r) ++ zs))) (before (olds_of (at + length ws) r) done) ≡ map_run (λ ws. ws) r = rw re ih in
    cc

map_run_id : (r : Run (List ℕ)) → map_run (λ ws. ws) r ≡ r
unfolding map_run
map_run_id done = refl
map_run_id (stop q p) = refl
map_run_id (item e c ws r) = ap (item e c ws) (map_run_id r)

-- The arrays' lengths.
words_fit : (W D i pos at : ℕ) (r : Run (List ℕ)) → at ≤ W → judge W D i pos at (map_run length r) ≡ fine → at + length (all_words r) ≤ W
unfolding map_run judge all_words
words_fit W D i pos at done l h = omega arith
words_fit W D i pos at (stop q p) l h = omega arith
words_fit W D i pos at (item e c ws r) l h =
    let a : Accepted W D i pos at e c (length ws) (map_run length r) = accepts W D i pos at e c (length ws) (map_run length r) h in
    let b : at + length ws + length (all_words r) ≤ W = words_fit W D (suc i) (pos + e) (at + length ws) r a.fits.words a.others in
    omega (arith, length-append ws (all_words r))

entries_fit : (W D i pos at : ℕ) (r : Run (List ℕ)) → i * entry_words ≤ D → judge W D i pos at (map_run length r) ≡ fine → i * entry_words + length (entries pos at r) ≤ D
unfolding map_run judge entries
entries_fit W D i pos at done l h = omega arith
entries_fit W D i pos at (stop q p) l h = omega arith
entries_fit W D i pos at (item e c ws r) l h =
    let a : Accepted W D i pos at e c (length ws) (map_run length r) = accepts W D i pos at e c (length ws) (map_run length r) h in
    let b : i * entry_words + entry_words ≤ D = a.fits.entry in
    let m : suc i * entry_words + length (entries (pos + e) (at + length ws) r) ≤ D = entries_fit W D (suc i) (pos + e) (at + length ws) r (omega arith) a.others in
    omega arith

pub length_pad : (n : ℕ) (xs : List ℕ) → length xs ≤ n → length (pad n xs) ≡ n
unfolding pad
length_pad n xs h = length-append xs (replicate (n - length xs) 0) ∙ ap (λ (k : ℕ). length xs + k) (length-replicate (n - length xs) 0) ∙ omega arith

-- Every counter is one that question 22 lets through.
LowRun : Run (List ℕ) → Type 0
LowRun done = Unit {0}
LowRun (stop q p) = Unit {0}
LowRun (item e c ws r) = (c ≤ counter_limit) × LowRun r

-- The directory, taken apart again.
chain_entries : (T W D i pos at : ℕ) (zs : List ℕ) (r : Run (List ℕ)) → T < half_limit → LowRun r → pos + sizes r ≤ T → judge W D i pos at (map_run length r) ≡ fine
    → chain T W (count_run r) pos at (entries pos at r ++ zs) ≡ some (olds_of at r)
unfolding LowRun chain count_run entries olds_of map_run judge sizes cons_old pack
chain_entries T W D i pos at zs done t lows l h = refl
chain_entries T W D i pos at zs (stop q p) t lows l h = refl
chain_entries T W D i pos at zs (item e c ws r) t lows l h =
    let a : Accepted W D i pos at e c (length ws) (map_run length r) = accepts W D i pos at e c (length ws) (map_run length r) h in
    let n : ℕ = length ws in
    let fw : at + n ≤ W = a.fits.words in
    let fs : at + n < half_limit = a.fits.small in
    let e1 : e < half_limit = omega arith in
    let n1 : n < half_limit = omega arith in
    let dx : (pos * half_limit + e) / half_limit ≡ pos = digits_div pos e1 in
    let mx : (pos * half_limit + e) % half_limit ≡ e = digits_mod pos e1 in
    let dy : (at * half_limit + n) / half_limit ≡ at = digits_div at n1 in
    let my : (at * half_limit + n) % half_limit ≡ n = digits_mod at n1 in
    let b1 : eqb pos pos ≡ true = eq-eqb pos pos refl in
    let b2 : eqb at at ≡ true = eq-eqb at at refl in
    let b3 : leb (pos + e) T ≡ true = le-leb (pos + e) T (omega arith) in
    let b4 : leb (at + n) W ≡ true = le-leb (at + n) W fw in
    let b5 : leb c counter_limit ≡ true = le-leb c counter_limit lows.0 in
    let ih : chain T W (count_run r) (pos + e) (at + n) (entries (pos + e) (at + n) r ++ zs) ≡ some (olds_of (at + n) r) =
    chain_entries T W D (suc i) (pos + e) (at + n) zs r t lows.1 (omega arith) a.others in
    rw (chain, dx, mx, dy, my, b1, b2, b3, b4, b5, mx, my, ih)

and_then_fine : (v w : Verdict) → and_then v w ≡ fine → (v ≡ fine) × (w ≡ fine)
unfolding and_then
and_then_fine fine w h = (refl, h)
and_then_fine (refused q p) w h = let z : ◌≡◌ {A = ℕ} 0 1 = cc in absurd (omega arith)

pub text_short : (s : List ℕ) → text_asked s ≡ fine → length s ≤ text_limit
unfolding text_asked
text_short s h = go (leb (length s) text_limit) refl
  where
    go : (b : Bool) → leb (length s) text_limit ≡ b → length s ≤ text_limit
    go true t = leb-true (length s) text_limit t
    go false t = let w : refused q_length text_limit ≡ fine = rw (t, text_asked) at h in let z : ◌≡◌ {A = ℕ} 0 1 = cc in absurd (omega arith)

-- An accepted call: the verdict is fine, and what is left is the run's.
record IsLeft (W D n : ℕ) (ws ds : List ℕ) (v : Verdict) (r : Run (List ℕ)) : Type 0 where
  ok : v ≡ fine
  number : n ≡ count_run r
  words : ws ≡ pad W (all_words r)
  dir : ds ≡ pad D (entries 0 0 r)

leave_is : (W D n : ℕ) (ws ds : List ℕ) (v : Verdict) (r : Run (List ℕ)) → leave W D v r ≡ left (count n) ws ds → IsLeft W D n ws ds v r
unfolding leave
leave_is W D n ws ds fine r h = record { ok = refl; number = cc; words = cc; dir = cc }
leave_is W D n ws ds (refused q p) r h = let z : ◌≡◌ {A = ℕ} 0 1 = cc in absurd (omega arith)

-- What a re-reading leaves where a full reading of the newer text leaves l. "Alike in every word and the entry count where the newer text is accepted,
-- and in the refusal and its place where it is not" (02: M-113): then the arrays are as they were lent.
unfoldable pub or_as_lent : (words dir : List ℕ) → Left → Left
or_as_lent words dir (left (count n) ws ds) = left (count n) ws ds
or_as_lent words dir (left (refused_at q p) ws ds) = left (refused_at q p) words dir

leave_again_is : (words dir : List ℕ) (v : Verdict) (k : ℕ) (r all : Run Source)
    → left_of (leave_again words dir v k r all) ≡ or_as_lent words dir (leave (length words) (length dir) v (map_run (source_words words) all))
unfolding left_of leave_again leave or_as_lent
leave_again_is words dir fine k r all = refl
leave_again_is words dir (refused q p) k r all = refl

text_small : (s : List ℕ) → text_asked s ≡ fine → length s < half_limit
text_small s h = omega (arith, text_short s h)

module _ (head_at : List ℕ → HeadRead) (block_at : ℕ → List ℕ → BlockRead) (G : Grammar head_at block_at) where
  sizes_blocks_in : (n c : ℕ) (s : List ℕ) → sizes (blocks_in head_at block_at n c s) ≤ length s
  unfolding blocks_in sizes
  sizes_blocks_in zero c s = omega arith
  sizes_blocks_in (suc n) c s = go (block_at c s) refl (λ e d. sizes_blocks_in n d (drop e s))
    where
      go : (b : BlockRead) → block_at c s ≡ b → ((e d : ℕ) → sizes (blocks_in head_at block_at n d (drop e s)) ≤ length (drop e s)) → sizes (blocks_in head_at block_at (suc n) c s) ≤ length s
      go (block e d ws) p ih = rw (p, blocks_in) (omega (arith, ih e d, length-drop e s, G.block_fits c s e d ws p))
      go (tail e) p ih = rw (p, blocks_in) (omega (arith, G.tail_fits c s e p))
      go (bad_block q x) p ih = rw (p, blocks_in) (omega arith)

  pub sizes_reading : (s : List ℕ) → sizes (reading head_at block_at s) ≤ length s
  unfolding reading sizes blocks
  sizes_reading s = go (head_at s) refl
    where
      go : (b : HeadRead) → head_at s ≡ b → sizes (reading head_at block_at s) ≤ length s
      go (head e d ws) p = rw (p, reading) (omega (arith, sizes_blocks_in (suc (length (drop e s))) d (drop e s), length-drop e s, G.head_fits s e d ws p))
      go (bad_head q x) p = rw (p, reading) (omega arith)

  low_blocks_in : (n c : ℕ) (s : List ℕ) → c ≤ counter_limit → LowRun (blocks_in head_at block_at n c s)
  unfolding blocks_in LowRun
  low_blocks_in zero c s l = tt
  low_blocks_in (suc n) c s l = go (block_at c s) refl (λ e d. low_blocks_in n d (drop e s))
    where
      go : (b : BlockRead) → block_at c s ≡ b → ((e d : ℕ) → d ≤ counter_limit → LowRun (blocks_in head_at block_at n d (drop e s))) → LowRun (blocks_in head_at block_at (suc n) c s)
      go (block e d ws) p ih = rw (p, blocks_in) (l, ih e d (G.block_low c s e d ws p l))
      go (tail e) p ih = rw (p, blocks_in) (l, tt)
      go (bad_block q x) p ih = rw (p, blocks_in) tt

  low_reading : (s : List ℕ) → LowRun (reading head_at block_at s)
  unfolding reading LowRun blocks
  low_reading s = go (head_at s) refl
    where
      go : (b : HeadRead) → head_at s ≡ b → LowRun (reading head_at block_at s)
      go (head e d ws) p = rw (p, reading) (omega arith, low_blocks_in (suc (length (drop e s))) d (drop e s) (G.head_low s e d ws p))
      go (bad_head q x) p = rw (p, reading) tt

  one_block : (W D i pos at c : ℕ) (s : List ℕ) → judge W D i pos at (map_run length (blocks head_at block_at c s)) ≡ fine → 1 ≤ count_run (blocks head_at block_at c s)
  unfolding map_run judge count_run
  one_block W D i pos at c s h = go (block_at c s) refl
    where
      go : (b : BlockRead) → block_at c s ≡ b → 1 ≤ count_run (blocks head_at block_at c s)
      go (block e d ws) p = rw (blocks_block head_at block_at G c s e d ws p) (omega arith)
      go (tail e) p = rw (blocks_tail head_at block_at G c s e p) (omega arith)
      go (bad_block q x) p = let w : refused q (pos + x) ≡ fine = rw (blocks_bad head_at block_at G c s q x p) at h in let z : ◌≡◌ {A = ℕ} 0 1 = cc in absurd (omega arith)

  two_pieces : (W D : ℕ) (s : List ℕ) → judge W D 0 0 0 (map_run length (reading head_at block_at s)) ≡ fine → 2 ≤ count_run (reading head_at block_at s)
  unfolding reading map_run judge count_run
  two_pieces W D s h = go (head_at s) refl
    where
      go : (b : HeadRead) → head_at s ≡ b → 2 ≤ count_run (reading head_at block_at s)
      go (head e d ws) p =
          let r : Run ℕ = map_run length (blocks head_at block_at d (drop e s)) in
          let w : judge W D 0 0 0 (item e 0 (length ws) r) ≡ fine = rw (p, reading) at h in
          let o : judge W D 1 (0 + e) (0 + length ws) r ≡ fine = (accepts W D 0 0 0 e 0 (length ws) r w).others in
          rw (p, reading) (omega (arith, one_block W D 1 (0 + e) (0 + length ws) d (drop e s) o))
      go (bad_head q x) p = let w : refused q (0 + x) ≡ fine = rw (p, reading) at h in let z : ◌≡◌ {A = ℕ} 0 1 = cc in absurd (omega arith)

  same_olds : (ws ds older newer : List ℕ) (os : List Old)
      → map_run (source_words ws) (before os done) ≡ map_run (λ x. x) (reading head_at block_at older)
      → map_run size (before os done) ≡ map_run length (reading head_at block_at older)
      → judge (length ws) (length ds) 0 0 0 (map_run size (before os done)) ≡ fine
      → left_of (reread_of head_at block_at ws ds older newer (some os)) ≡ or_as_lent ws ds (full head_at block_at (length ws) (length ds) newer)
  unfolding full full_verdict reread_of judge_again keeps IsReading source_words size
  same_olds ws ds older newer os i j v =
      let k : ℕ = kept_front (common older newer) os in
      let T : Run Source = rest head_at block_at older newer os in
      let W : ℕ = length ws in
      let D : ℕ = length ds in
      let N : Run (List ℕ) = reading head_at block_at newer in
      let words : map_run (source_words ws) (before (take k os) T) ≡ N =
      core head_at block_at G (List ℕ) (source_words ws) (λ x. x) (λ x. refl) older newer os i ∙ map_run_id N in
      let counts : map_run size (before (take k os) T) ≡ map_run length N = core head_at block_at G ℕ size length (λ x. refl) older newer os j in
      let f : judge W D 0 0 0 (map_run size (before (take k os) T)) ≡ judge W D (0 + k) (0 + old_sizes (take k os)) (0 + old_words (take k os)) (map_run size T)
      = judge_front W D 0 0 0 k os T (kept_front_le (common older newer) os) v in
      let f2 : judge W D 0 0 0 (map_run length N) ≡ judge W D k (old_sizes (take k os)) (old_words (take k os)) (map_run size T)
      = rw (counts, zero-add k, zero-add (old_sizes (take k os)), zero-add (old_words (take k os))) at f in
      leave_again_is ws ds (and_then (text_asked newer) (judge W D k (old_sizes (take k os)) (old_words (take k os)) (map_run size T))) k T (before (take k os) T)
      ∙ rw (← f2, words)

  words_long : (W D : ℕ) (ws text : List ℕ) → judge W D 0 0 0 (map_run length (reading head_at block_at text)) ≡ fine → ws ≡ pad W (all_words (reading head_at block_at text)) → length ws ≡ W
  words_long W D ws text b ew =
      let R : Run (List ℕ) = reading head_at block_at text in
      ap length ew ∙ length_pad W (all_words R) (omega (arith, words_fit W D 0 0 0 R (omega arith) b))

  -- Question 22 says yes to the directory of an accepted reading, and takes it apart into the reading's pieces.
  olds_found : (W D n : ℕ) (ws ds older : List ℕ) → text_asked older ≡ fine → judge W D 0 0 0 (map_run length (reading head_at block_at older)) ≡ fine
      → n ≡ count_run (reading head_at block_at older) → length ws ≡ W → ds ≡ pad D (entries 0 0 (reading head_at block_at older))
      → olds (length older) (length ws) n ds ≡ some (olds_of 0 (reading head_at block_at older))
  unfolding olds pad
  olds_found W D n ws ds older a b en lw ed =
      let R : Run (List ℕ) = reading head_at block_at older in
      let two : leb 2 n ≡ true = le-leb 2 n (omega (arith, two_pieces W D older b)) in
      let ch : chain (length older) (length ws) n 0 0 ds ≡ some (olds_of 0 R) =
      rw (lw, en, ed) (chain_entries (length older) W D 0 0 0 (replicate (D - length (entries 0 0 R)) 0) R (text_small older a) (low_reading older) (omega (arith, sizes_reading older)) b) in
      rw (two, olds) ch

  same_reading : (W D n : ℕ) (ws ds older newer : List ℕ) → text_asked older ≡ fine → judge W D 0 0 0 (map_run length (reading head_at block_at older)) ≡ fine
      → n ≡ count_run (reading head_at block_at older) → ws ≡ pad W (all_words (reading head_at block_at older)) → ds ≡ pad D (entries 0 0 (reading head_at block_at older))
      → left_of (reread head_at block_at ws ds n older newer) ≡ or_as_lent ws ds (full head_at block_at W D newer)
  unfolding reread IsReading pad
  same_reading W D n ws ds older newer a b en ew ed =
      let R : Run (List ℕ) = reading head_at block_at older in
      let lw : length ws ≡ W = words_long W D ws older b ew in
      let ld : length ds ≡ D = ap length ed ∙ length_pad D (entries 0 0 R) (omega (arith, entries_fit W D 0 0 0 R (omega arith) b)) in
      let os : List Old = olds_of 0 R in
      let found : olds (length older) (length ws) n ds ≡ some os = olds_found W D n ws ds older a b en lw ed in
      let i : map_run (source_words ws) (before os done) ≡ map_run (λ x. x) R = rw ew (olds_of_words W D 0 0 0 [] (replicate (W - length (all_words R)) 0) R b refl) in
      let j : map_run size (before os done) ≡ map_run length R = olds_of_sizes W D 0 0 0 R b in
      let v : judge (length ws) (length ds) 0 0 0 (map_run size (before os done)) ≡ fine = rw (lw, ld, j) b in
      let all : left_of (reread_of head_at block_at ws ds older newer (some os)) ≡ or_as_lent ws ds (full head_at block_at (length ws) (length ds) newer) = same_olds ws ds older newer os i j v in
      rw found (all ∙ rw (lw, ld))

  -- An accepted full reading: both arrays are its run's, and no question refused.
  pub record Accepts (W D n : ℕ) (ws ds text : List ℕ) : Type 0 where
    pub asked : text_asked text ≡ fine
    pub judged : judge W D 0 0 0 (map_run length (reading head_at block_at text)) ≡ fine
    pub number : n ≡ count_run (reading head_at block_at text)
    pub words : ws ≡ pad W (all_words (reading head_at block_at text))
    pub dir : ds ≡ pad D (entries 0 0 (reading head_at block_at text))

  pub accepted : (W D n : ℕ) (ws ds text : List ℕ) → full head_at block_at W D text ≡ left (count n) ws ds → Accepts W D n ws ds text
  unfolding full full_verdict
  accepted W D n ws ds text h =
      let R : Run (List ℕ) = reading head_at block_at text in
      let L : IsLeft W D n ws ds (full_verdict head_at block_at W D text) R = leave_is W D n ws ds (full_verdict head_at block_at W D text) R h in
      let A : (text_asked text ≡ fine) × (judge W D 0 0 0 (map_run length R) ≡ fine) = and_then_fine (text_asked text) (judge W D 0 0 0 (map_run length R)) L.ok in
      record { asked = A.0; judged = A.1; number = L.number; words = L.words; dir = L.dir }

  -- On the records of an accepted full reading of the older text, re-reading leaves what a full reading of the newer text leaves, every word of both
  -- arrays and the entry count; or it refuses as that does, and leaves the arrays as they were lent.
  pub same : (W D n : ℕ) (ws ds older newer : List ℕ) → full head_at block_at W D older ≡ left (count n) ws ds
      → left_of (reread head_at block_at ws ds n older newer) ≡ or_as_lent ws ds (full head_at block_at W D newer)
  same W D n ws ds older newer h =
      let A : Accepts W D n ws ds older = accepted W D n ws ds older h in
      same_reading W D n ws ds older newer A.asked A.judged A.number A.words A.dir

  -- Question 22 says yes to what an accepted full reading leaves.
  pub chained : (W D n : ℕ) (ws ds text : List ℕ) → full head_at block_at W D text ≡ left (count n) ws ds → (os : List Old) × (olds (length text) (length ws) n ds ≡ some os)
  chained W D n ws ds text h =
      let A : Accepts W D n ws ds text = accepted W D n ws ds text h in
      let lw : length ws ≡ W = words_long W D ws text A.judged A.words in
      (olds_of 0 (reading head_at block_at text), olds_found W D n ws ds text A.asked A.judged A.number lw A.dir)
