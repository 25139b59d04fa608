-- Reading and re-reading over a reader of pieces that lie in the text: pieces and refusals of the whole lie in it too.
-- Assumes nothing.
use Rattle.std.specs.Prelude.{◌≡◌, refl, Bool, true, false, ◌&&◌, ltb, leb, eqb, take, drop}
use Rattle.std.proofs.Common.{sym, subst, zero-add, length-drop, ltb-true, leb-true, leb-false, eqb-true}
use mathlib.Core.List.{List, [], ◌∷◌}
use Rattle.std.proofs.Math.Option.{Option, none, some}
use Prim.Native.Nat.{ℕ, zero, suc, ◌+◌, ◌-◌, ◌*◌, ◌≤◌, ◌<◌}
use native.Mathlib.Omega.{arith}
use Rattle.std.proofs.Math.ListN.{length}
use Rattle.program.specs.Prog.{ends}
use Rattle.program.specs.Local.{and_left}
use Rattle.records.specs.Pieces.{HeadRead, head, bad_head, BlockRead, block, tail, bad_block, Run, done, stop, item, map_run, Verdict, fine, refused, first_high, text_asked, judge, refused_at, count, Left, left, leave, and_then, Old, old, cons_old, chain, olds, common, closes, kept_rest, kept_front, Source, fresh, size, before, old_sizes, old_words, first_counter, from, from_blocks, joins, common_end, left_of, leave_again, blocks_in, blocks, reading, full_verdict, full, again_in, again, behind_front, keeps, rest, judge_again, reread_of, reread}
use Rattle.records.specs.Limits.{text_limit, byte_limit, half_limit, counter_limit, entry_words}
use Rattle.records.specs.Questions.{q_length, q_ascii, q_words, q_entries, q_older}
use Rattle.records.specs.Words.{hi, lo}
use Rattle.theorem_refusals.specs.Common.{common_end_le, common_le_newer}
use Rattle.theorem_refusals.specs.Inside.{and_right, question, Near}
use Rattle.theorem_refusals.specs.Counter.{From}

-- A piece, and a piece's refusal, in n bytes; and the counter that it hands on, where c is the one at a block's start.
abbrev pub HeadIn : ℕ → HeadRead → Type 0
HeadIn n (head e d ws) = (e ≤ n) × (d ≤ counter_limit)
HeadIn n (bad_head q p) = Near n q p

abbrev pub BlockIn : (c n : ℕ) → BlockRead → Type 0
BlockIn c n (block e d ws) = (e ≤ n) × From c d
BlockIn c n (tail e) = e ≤ n
BlockIn c n (bad_block q p) = Near n q p

-- Pieces in order, and what they end with.
abbrev pub RunIn : {A : Type 0} → ℕ → Run A → Type 0
RunIn n done = Unit {0}
RunIn n (stop q p) = Near n q p
RunIn n (item e c a r) = (e ≤ n) × RunIn (n - e) r

abbrev pub VerdictIn : ℕ → Verdict → Type 0
VerdictIn n fine = Unit {0}
VerdictIn n (refused q p) = Near n q p

-- What a call leaves: its refusal, if it is one.
abbrev pub LeftIn : ℕ → Left → Type 0
LeftIn n (left (refused_at q p) ws ds) = Near n q p
LeftIn n (left (count k) ws ds) = Unit {0}

map_in_lem : {A B : Type 0} (f : A → B) (n : ℕ) (r : Run A) → RunIn n r → RunIn n (map_run f r)
unfolding map_run
map_in_lem f n done h = tt
map_in_lem f n (stop q p) h = h
map_in_lem f n (item e c a r) h = (h.0, map_in_lem f (n - e) r h.1)

-- Questions 1 and 2.
high_in : (i : ℕ) (s : List ℕ) → VerdictIn (i + length s) (first_high i s)
unfolding first_high
high_in i [] = tt
high_in i (x ∷ s) = go (leb x byte_limit) (let e : suc i + length s ≡ i + suc (length s) = omega arith in subst (λ (n : ℕ). VerdictIn n (first_high (suc i) s)) e (high_in (suc i) s))
  where
    go : (b : Bool) → VerdictIn (i + suc (length s)) (first_high (suc i) s) → VerdictIn (i + suc (length s)) (elim b [ true ↦ first_high (suc i) s | false ↦ refused q_ascii i ])
    go true h = h
    go false h = (question 2 tt, omega arith)

text_in : (text : List ℕ) → VerdictIn (length text) (text_asked text)
unfolding text_asked
text_in text = go (leb (length text) text_limit) refl
  where
    go : (b : Bool) → leb (length text) text_limit ≡ b → VerdictIn (length text) (elim b [ true ↦ first_high 0 text | false ↦ refused q_length text_limit ])
    go true e = let z : 0 + length text ≡ length text = zero-add (length text) in subst (λ (n : ℕ). VerdictIn n (first_high 0 text)) z (high_in 0 text)
    go false e = (question 1 tt, omega (arith, leb-false (length text) text_limit e))

-- Questions 20 and 21, from `pos` on, where n bytes are left of a text of N.
judge_in : (words dir i pos at n N : ℕ) (r : Run ℕ) → RunIn n r → pos + n ≤ N → VerdictIn N (judge words dir i pos at r)
unfolding judge
judge_in words dir i pos at n N done h l = tt
judge_in words dir i pos at n N (stop q p) h l = let b : p ≤ n + 1 = h.1 in (h.0, omega arith)
judge_in words dir i pos at n N (item e c k r) h l =
    go (leb (at + k) words && ltb (at + k) half_limit) (leb (i * entry_words + entry_words) dir) (judge_in words dir (suc i) (pos + e) (at + k) (n - e) N r h.1 (omega arith))
  where
    fits : e ≤ n
    fits = h.0

    go : (a b : Bool) → VerdictIn N (judge words dir (suc i) (pos + e) (at + k) r)
        → VerdictIn N (elim a [ true ↦ elim b [ true ↦ judge words dir (suc i) (pos + e) (at + k) r | false ↦ refused q_entries (pos + e) ] | false ↦ refused q_words (pos + e) ])
    go true true ih = ih
    go true false ih = (question 21 tt, omega (arith, fits))
    go false b ih = (question 20 tt, omega (arith, fits))

and_in : (n : ℕ) (v w : Verdict) → VerdictIn n v → VerdictIn n w → VerdictIn n (and_then v w)
unfolding and_then
and_in n fine w h k = k
and_in n (refused q p) w h k = h

leave_in : (words dir n : ℕ) (v : Verdict) (r : Run (List ℕ)) → VerdictIn n v → LeftIn n (leave words dir v r)
unfolding leave
leave_in words dir n fine r h = tt
leave_in words dir n (refused q p) r h = h

leave_again_in : (words dir : List ℕ) (n : ℕ) (v : Verdict) (k : ℕ) (r all : Run Source) → VerdictIn n v → LeftIn n (left_of (leave_again words dir v k r all))
unfolding leave_again left_of leave
leave_again_in words dir n fine k r all h = tt
leave_again_in words dir n (refused q p) k r all h = h

-- The older pieces fill no more than the older text.
entry_sizes : (text pos e f k m : ℕ) (b : Bool) (o : Option (List Old)) → (b ≡ true → pos + e ≤ text) → (pos + e ≤ text → (ps : List Old) → o ≡ some ps → pos + e + old_sizes ps ≤ text)
    → (os : List Old) → elim b [ true ↦ cons_old (old e f k m) o | false ↦ none ] ≡ some os → pos + old_sizes os ≤ text
unfolding cons_old old_sizes
entry_sizes text pos e f k m true none l h os t = let z : ◌≡◌ {A = ℕ} 0 1 = cc in absurd (omega arith)
entry_sizes text pos e f k m true (some ps) l h os t = let w : old e f k m ∷ ps ≡ os = cc in rw (sym w) (omega (arith, h (l refl) ps refl))
entry_sizes text pos e f k m false o l h os t = let z : ◌≡◌ {A = ℕ} 0 1 = cc in absurd (omega arith)

chain_sizes : (text words n pos at : ℕ) (dir : List ℕ) → pos ≤ text → (os : List Old) → chain text words n pos at dir ≡ some os → pos + old_sizes os ≤ text
unfolding chain old_sizes
chain_sizes text words zero pos at dir l os t = let w : [] ≡ os = cc in rw (sym w) (omega arith)
chain_sizes text words (suc n) pos at [] l os t = let z : ◌≡◌ {A = ℕ} 0 1 = cc in absurd (omega arith)
chain_sizes text words (suc n) pos at (x ∷ []) l os t = let z : ◌≡◌ {A = ℕ} 0 1 = cc in absurd (omega arith)
chain_sizes text words (suc n) pos at (x ∷ y ∷ []) l os t = let z : ◌≡◌ {A = ℕ} 0 1 = cc in absurd (omega arith)
chain_sizes text words (suc n) pos at (x ∷ y ∷ m ∷ dir) l os t =
    let e : ℕ = lo x in
    let k : ℕ = lo y in
    let starts : Bool = eqb (hi x) pos && eqb (hi y) at in
    let inside : Bool = starts && leb (pos + e) text in
    entry_sizes text pos e at k m (inside && leb (at + k) words && leb m counter_limit) (chain text words n (pos + e) (at + k) dir)
    (λ h. leb-true (pos + e) text (and_right starts _ (and_left inside _ (and_left (inside && leb (at + k) words) _ h))))
    (chain_sizes text words n (pos + e) (at + k) dir) os t

olds_sizes : (text words n : ℕ) (dir : List ℕ) (os : List Old) → olds text words n dir ≡ some os → old_sizes os ≤ text
unfolding olds
olds_sizes text words n dir os t = go (leb 2 n) t
  where
    go : (b : Bool) → elim b [ true ↦ chain text words n 0 0 dir | false ↦ none ] ≡ some os → old_sizes os ≤ text
    go true t = omega (arith, chain_sizes text words n 0 0 dir (omega arith) os t)
    go false t = let z : ◌≡◌ {A = ℕ} 0 1 = cc in absurd (omega arith)

-- Those kept in front fill no more than the newer text.
closes_le : (e : ℕ) (s : List ℕ) → closes (drop e s) ≡ true → e ≤ length s
unfolding closes ends
closes_le zero s h = omega arith
closes_le (suc e) [] h = let z : ◌≡◌ {A = ℕ} 0 1 = cc in absurd (omega arith)
closes_le (suc e) (x ∷ s) h = omega (arith, closes_le e s h)

kept_rest_le_lem : (s : List ℕ) (os : List Old) → old_sizes (take (kept_rest s os) os) ≤ length s
unfolding kept_rest old_sizes
kept_rest_le_lem s [] = omega arith
kept_rest_le_lem s (old e f n m ∷ []) = go (ltb e (length s)) (ltb-true e (length s))
  where
    go : (b : Bool) → (b ≡ true → e < length s) → old_sizes (take (elim b [ true ↦ 1 | false ↦ 0 ]) (old e f n m ∷ [])) ≤ length s
    go true l = omega (arith, l refl)
    go false l = omega arith
kept_rest_le_lem s (old e f n m ∷ o ∷ os) = go (closes (drop e s)) (closes_le e s) (kept_rest_le_lem (drop e s) (o ∷ os))
  where
    go : (b : Bool) → (b ≡ true → e ≤ length s) → old_sizes (take (kept_rest (drop e s) (o ∷ os)) (o ∷ os)) ≤ length (drop e s)
        → old_sizes (take (elim b [ true ↦ suc (kept_rest (drop e s) (o ∷ os)) | false ↦ 0 ]) (old e f n m ∷ o ∷ os)) ≤ length s
    go true l ih = omega (arith, l refl, length-drop e s)
    go false l ih = omega arith

kept_front_le_lem : (s : List ℕ) (os : List Old) → old_sizes (take (kept_front s os) os) ≤ length s
unfolding kept_front old_sizes
kept_front_le_lem s [] = omega arith
kept_front_le_lem s (old e f n m ∷ os) = go (ltb e (length s)) (ltb-true e (length s))
  where
    go : (b : Bool) → (b ≡ true → e < length s) → old_sizes (take (elim b [ true ↦ suc (kept_rest (drop e s) os) | false ↦ 0 ]) (old e f n m ∷ os)) ≤ length s
    go true l = omega (arith, l refl, length-drop e s, kept_rest_le_lem (drop e s) os)
    go false l = omega arith

-- Those kept behind fill no more than what is left of the newer text.
from_sizes : (n target d pos : ℕ) (os ps : List Old) → pos + old_sizes os ≤ n → from target d pos os ≡ some ps → target + old_sizes ps ≤ n
unfolding from old_sizes
from_sizes n target d pos [] ps l t = let z : ◌≡◌ {A = ℕ} 0 1 = cc in absurd (omega arith)
from_sizes n target d pos (old e f k m ∷ os) ps l t =
    go (eqb pos target && eqb m d) (λ h. eqb-true pos target (and_left (eqb pos target) (eqb m d) h)) (from_sizes n target d (pos + e) os ps (omega arith)) t
  where
    go : (b : Bool) → (b ≡ true → pos ≡ target) → (from target d (pos + e) os ≡ some ps → target + old_sizes ps ≤ n)
        → elim b [ true ↦ some (old e f k m ∷ os) | false ↦ from target d (pos + e) os ] ≡ some ps → target + old_sizes ps ≤ n
    go true h ih t = let w : old e f k m ∷ os ≡ ps = cc in rw (sym w) (omega (arith, h refl))
    go false h ih t = ih t

from_blocks_sizes : (n target d : ℕ) (os ps : List Old) → old_sizes os ≤ n → from_blocks target d os ≡ some ps → target + old_sizes ps ≤ n
unfolding from_blocks old_sizes
from_blocks_sizes n target d [] ps l t = let z : ◌≡◌ {A = ℕ} 0 1 = cc in absurd (omega arith)
from_blocks_sizes n target d (old e f k m ∷ os) ps l t = from_sizes n target d e os ps l t

joins_sizes : (c olen : ℕ) (os : List Old) (d : ℕ) (s : List ℕ) (ps : List Old) → c ≤ olen → old_sizes os ≤ olen → joins c olen os d s ≡ some ps → old_sizes ps ≤ length s
unfolding joins
joins_sizes c olen os d s ps l h t = go (leb (length s) c) (leb-true (length s) c) t
  where
    go : (b : Bool) → (b ≡ true → length s ≤ c) → elim b [ true ↦ from_blocks (olen - length s) d os | false ↦ none ] ≡ some ps → old_sizes ps ≤ length s
    go true k t = omega (arith, k refl, from_blocks_sizes olen (olen - length s) d os ps h t)
    go false k t = let z : ◌≡◌ {A = ℕ} 0 1 = cc in absurd (omega arith)

before_in : (n : ℕ) (os : List Old) → old_sizes os ≤ n → RunIn n (before os done)
unfolding before old_sizes
before_in n [] h = tt
before_in n (old e f k m ∷ os) h = (omega arith, before_in (n - e) os (omega arith))

-- what joins, or what is read where nothing does
abbrev joined : (c olen : ℕ) → List Old → ℕ → List ℕ → Run Source → Run Source
joined c olen os d s r = elim (joins c olen os d s) [ some ps ↦ before ps done | none ↦ r ]

joined_in : (c olen : ℕ) (os : List Old) (d : ℕ) (s : List ℕ) (r : Run Source) → c ≤ olen → old_sizes os ≤ olen → RunIn (length s) r → RunIn (length s) (joined c olen os d s r)
joined_in c olen os d s r l h k = go (joins c olen os d s) (λ ps. joins_sizes c olen os d s ps l h)
  where
    go : (o : Option (List Old)) → ((ps : List Old) → o ≡ some ps → old_sizes ps ≤ length s) → RunIn {A = Source} (length s) (elim o [ some ps ↦ before ps done | none ↦ r ])
    go none j = k
    go (some ps) j = before_in (length s) ps (j ps refl)

-- a run behind a piece
behind : {A : Type 0} (e : ℕ) (s : List ℕ) (r : Run A) → RunIn (length (drop e s)) r → RunIn (length s - e) r
behind e s r h = subst (λ (n : ℕ). RunIn n r) (length-drop e s) h

-- A reader of pieces whose pieces and refusals lie in the text.
module _ (head_at : List ℕ → HeadRead) (block_at : ℕ → List ℕ → BlockRead) (head_in : (s : List ℕ) → HeadIn (length s) (head_at s)) (block_in : (c : ℕ) (s : List ℕ) → BlockIn c (length s) (block_at c s)) where
  -- The full reading.
  blocks_in_lem : (n c : ℕ) (s : List ℕ) → RunIn (length s) (blocks_in head_at block_at n c s)
  unfolding blocks_in
  blocks_in_lem zero c s = tt
  blocks_in_lem (suc n) c s = go (block_at c s) (block_in c s) (λ e d. blocks_in_lem n d (drop e s))
    where
      go : (b : BlockRead) → BlockIn c (length s) b → ((e d : ℕ) → RunIn (length (drop e s)) (blocks_in head_at block_at n d (drop e s)))
          → RunIn {A = List ℕ} (length s) (elim b [ block e d ws ↦ item e c ws (blocks_in head_at block_at n d (drop e s)) | tail e ↦ item e c [] done | bad_block q p ↦ stop q p ])
      go (block e d ws) h ih = (h.0, behind e s (blocks_in head_at block_at n d (drop e s)) (ih e d))
      go (tail e) h ih = (h, tt)
      go (bad_block q p) h ih = h

  reading_in : (s : List ℕ) → RunIn (length s) (reading head_at block_at s)
  unfolding reading blocks
  reading_in s = go (head_at s) (head_in s)
    where
      go : (b : HeadRead) → HeadIn (length s) b → RunIn {A = List ℕ} (length s) (elim b [ head e d ws ↦ item e 0 ws (blocks head_at block_at d (drop e s)) | bad_head q p ↦ stop q p ])
      go (head e d ws) h = (h.0, behind e s (blocks head_at block_at d (drop e s)) (blocks_in_lem (suc (length (drop e s))) d (drop e s)))
      go (bad_head q p) h = h

  pub full_in : (words dir : ℕ) (text : List ℕ) → LeftIn (length text) (full head_at block_at words dir text)
  unfolding full full_verdict
  full_in words dir text =
      let n : ℕ = length text in
      leave_in words dir n _ (reading head_at block_at text)
      (and_in n (text_asked text) _ (text_in text) (judge_in words dir 0 0 0 n n _ (map_in_lem length n (reading head_at block_at text) (reading_in text)) (omega arith)))

  -- Re-reading.
  module _ (c olen : ℕ) (os : List Old) (shared : c ≤ olen) (fill : old_sizes os ≤ olen) where
    again_in_lem : (n d : ℕ) (s : List ℕ) → RunIn (length s) (again_in head_at block_at c olen os n d s)
    unfolding again_in
    again_in_lem zero d s = tt
    again_in_lem (suc n) d s = go (block_at d s) (block_in d s) (λ e d2. joined_in c olen os d2 (drop e s) _ shared fill (again_in_lem n d2 (drop e s)))
      where
        more : (e d2 : ℕ) → Run Source
        more e d2 = joined c olen os d2 (drop e s) (again_in head_at block_at c olen os n d2 (drop e s))

        go : (b : BlockRead) → BlockIn d (length s) b → ((e d2 : ℕ) → RunIn (length (drop e s)) (more e d2))
            → RunIn {A = Source} (length s) (elim b [ block e d2 ws ↦ item e d (fresh ws) (more e d2) | tail e ↦ item e d (fresh []) done | bad_block q p ↦ stop q p ])
        go (block e d2 ws) h ih = (h.0, behind e s (more e d2) (ih e d2))
        go (tail e) h ih = (h, tt)
        go (bad_block q p) h ih = h

    behind_front_in : (k : ℕ) (newer : List ℕ) → RunIn (length newer - old_sizes (take k os)) (behind_front head_at block_at c olen os k newer)
    unfolding behind_front again old_sizes
    behind_front_in zero newer = let z : length newer - 0 ≡ length newer = omega arith in rw z (go (head_at newer) (head_in newer))
      where
        more : (e d : ℕ) → Run Source
        more e d = joined c olen os d (drop e newer) (again head_at block_at c olen os d (drop e newer))

        more_in : (e d : ℕ) → RunIn (length (drop e newer)) (more e d)
        more_in e d = joined_in c olen os d (drop e newer) _ shared fill (again_in_lem (suc (length (drop e newer))) d (drop e newer))

        go : (b : HeadRead) → HeadIn (length newer) b → RunIn {A = Source} (length newer) (elim b [ head e d ws ↦ item e 0 (fresh ws) (more e d) | bad_head q p ↦ stop q p ])
        go (head e d ws) h = (h.0, behind e newer (more e d) (more_in e d))
        go (bad_head q p) h = h
    behind_front_in (suc k) newer = go (ltb (suc k) (length os))
      where
        front : ℕ
        front = old_sizes (take (suc k) os)

        d : ℕ
        d = first_counter (drop (suc k) os)

        s : List ℕ
        s = drop front newer

        go : (b : Bool) → RunIn {A = Source} (length newer - front) (elim b [ true ↦ again head_at block_at c olen os d s | false ↦ done ])
        go true = behind front newer (again head_at block_at c olen os d s) (again_in_lem (suc (length s)) d s)
        go false = tt

  judge_again_in : (words dir : ℕ) (older newer : List ℕ) (os : List Old) → old_sizes os ≤ length older → VerdictIn (length newer) (judge_again head_at block_at words dir older newer os)
  unfolding judge_again rest keeps
  judge_again_in words dir older newer os fill =
      let k : ℕ = kept_front (common older newer) os in
      let front : ℕ = old_sizes (take k os) in
      judge_in words dir k front (old_words (take k os)) (length newer - front) (length newer) _
      (map_in_lem size (length newer - front) _ (behind_front_in (common_end older newer) (length older) os (common_end_le older newer) fill k newer))
      (omega (arith, kept_front_le_lem (common older newer) os, common_le_newer older newer))

  reread_of_in : (words dir older newer : List ℕ) (o : Option (List Old)) → ((os : List Old) → o ≡ some os → old_sizes os ≤ length older) → LeftIn (length newer) (left_of (reread_of head_at block_at words dir older newer o))
  unfolding reread_of
  reread_of_in words dir older newer none h =
      leave_again_in words dir (length newer) _ 0 done done (and_in (length newer) (text_asked newer) (refused q_older 0) (text_in newer) (question 22 tt, omega arith))
  reread_of_in words dir older newer (some os) h =
      leave_again_in words dir (length newer) _ _ _ _
      (and_in (length newer) (text_asked newer) _ (text_in newer) (judge_again_in (length words) (length dir) older newer os (h os refl)))

  pub reread_in : (words dir : List ℕ) (n : ℕ) (older newer : List ℕ) → LeftIn (length newer) (left_of (reread head_at block_at words dir n older newer))
  unfolding reread
  reread_in words dir n older newer = reread_of_in words dir older newer (olds (length older) (length words) n dir) (olds_sizes (length older) (length words) n dir)
