-- A refusal has one of 01's numbers or is 26, never 0, and its place lies in the text, or one past its end: of a piece, of a reading, of a re-reading.
-- The counter behind a head is at most 2^32; behind a block it is not below the one at its start, and at most 2^32 where that one is.
-- The words of a head and of a block are those of trees whose names lie in the piece (02: M-111).
-- Assumes nothing.
use Rattle.std.specs.Prelude.{◌≡◌, refl, List, [], ◌∷◌, ℕ, ◌+◌, ◌≤◌, length}
use Rattle.std.proofs.Common.{subst, arith}
use Rattle.program.specs.Prog.{Res, ok, closed, no_at, run}
use Rattle.program.specs.Local.{mono, closed_range}
use Rattle.records.specs.Limits.{counter_limit}
use Rattle.records.specs.Pieces.{head, bad_head, block, bad_block, refused_at, left, left_of}
use Rattle.records.specs.Piece.{words_in, head_of, block_of, head_read, block_read}
use Rattle.grammar.specs.Body.{parse_head, parse_block}
use Rattle.grammar.specs.Function.{head_at, block_at, reading_of, rereading_of}
use Rattle.trees.specs.Forms.{Sort, Laid}
use Rattle.theorem_refusals.specs.Inside.{Question, Near, Sound, sound}
use Rattle.theorem_refusals.specs.Counter.{From}
use Rattle.theorem_refusals.specs.Body.{Hands, head_scope, in_parse_head, block_scope, in_parse_block}
use Rattle.theorem_refusals.specs.Runs.{HeadIn, BlockIn, LeftIn, full_in, reread_in}

-- a head never ends without its `{`: `head_of` would refuse it with 0
head_in : (s : List ℕ) → HeadIn (length s) (head_at s)
unfolding head_at head_read head_of
head_in s = go (run parse_head 0 s) refl (sound in_parse_head 0 s (omega arith) (omega arith))
  where
    go : (r : Res (List ℕ)) → run parse_head 0 s ≡ r → Sound (head_scope (length s) (length s)) (λ l. ⊥) r → HeadIn (length s) (head_of r)
    go (ok l j) e h = absurd (h (omega (arith, (mono parse_head 0 j s (rw e refl)).1)))
    go (closed l j) e h = let b : j ≤ length s = omega (arith, (closed_range parse_head 0 j s l e).1) in (b, (h b).0)
    go (no_at q p) e h = h (omega arith)

block_in : (c : ℕ) (s : List ℕ) → BlockIn c (length s) (block_at c s)
unfolding block_at block_read block_of
block_in c s = go (run (parse_block c) 0 s) refl (sound (in_parse_block c) 0 s (omega arith) (omega arith))
  where
    go : (r : Res (List ℕ)) → run (parse_block c) 0 s ≡ r → Sound (block_scope (length s) (length s)) (Hands (length s) c) r → BlockIn c (length s) (block_of r)
    go (ok l j) e h = let b : j ≤ length s = omega (arith, (mono (parse_block c) 0 j s (rw e refl)).1) in (b, (h b).0)
    go (closed l j) e h = omega (arith, (closed_range (parse_block c) 0 j s l e).1)
    go (no_at q p) e h = h (omega arith)

head_near : (s : List ℕ) (q p : ℕ) → head_at s ≡ bad_head q p → Near (length s) q p
head_near s q p h = subst (HeadIn (length s)) h (head_in s)

block_near : (c : ℕ) (s : List ℕ) (q p : ℕ) → block_at c s ≡ bad_block q p → Near (length s) q p
block_near c s q p h = subst (BlockIn c (length s)) h (block_in c s)

pub head_place : (s : List ℕ) (q p : ℕ) → head_at s ≡ bad_head q p → p ≤ length s + 1
head_place s q p h = (head_near s q p h).1

pub block_place : (c : ℕ) (s : List ℕ) (q p : ℕ) → block_at c s ≡ bad_block q p → p ≤ length s + 1
block_place c s q p h = (block_near c s q p h).1

pub head_number : (s : List ℕ) (q p : ℕ) → head_at s ≡ bad_head q p → Question q
head_number s q p h = (head_near s q p h).0

pub block_number_lem : (c : ℕ) (s : List ℕ) (q p : ℕ) → block_at c s ≡ bad_block q p → Question q
block_number_lem c s q p h = (block_near c s q p h).0

-- The counter that a piece hands on.
pub head_counter : (s : List ℕ) (e d : ℕ) (ws : List ℕ) → head_at s ≡ head e d ws → d ≤ counter_limit
head_counter s e d ws h = let i : HeadIn (length s) (head e d ws) = subst (HeadIn (length s)) h (head_in s) in i.1

pub block_counter : (c : ℕ) (s : List ℕ) (e d : ℕ) (ws : List ℕ) → block_at c s ≡ block e d ws → From c d
block_counter c s e d ws h = let i : BlockIn c (length s) (block e d ws) = subst (BlockIn c (length s)) h (block_in c s) in i.1

-- The words of a piece that ends at e are those of a head or of a block, whose names lie in its e bytes: the runs that end there.
pub head_words : (s : List ℕ) (e d : ℕ) (ws : List ℕ) → head_at s ≡ head e d ws → Laid e (Sort.head ∷ []) ws
unfolding head_at head_read head_of
head_words s e d ws h = go (run parse_head 0 s) refl h
  where
    go : (r : Res (List ℕ)) → run parse_head 0 s ≡ r → head_of r ≡ head e d ws → Laid e (Sort.head ∷ []) ws
    go (ok l j) q k = let z : ◌≡◌ {A = ℕ} 0 1 = cc in absurd (omega arith)
    go (closed l j) q k =
        let x : Sound {A = List ℕ} (head_scope (length s) e) (λ l. ⊥) (closed l j) = subst (Sound {A = List ℕ} (head_scope (length s) e) (λ l. ⊥)) q (sound in_parse_head 0 s (omega arith) (omega arith)) in
        let i : j ≡ e = cc in
        let w : words_in l ≡ ws = cc in
        rw (← w) (x (omega arith)).1
    go (no_at a p) q k = let z : ◌≡◌ {A = ℕ} 0 1 = cc in absurd (omega arith)

pub block_words : (c : ℕ) (s : List ℕ) (e d : ℕ) (ws : List ℕ) → block_at c s ≡ block e d ws → Laid e (Sort.block ∷ []) ws
unfolding block_at block_read block_of
block_words c s e d ws h = go (run (parse_block c) 0 s) refl h
  where
    go : (r : Res (List ℕ)) → run (parse_block c) 0 s ≡ r → block_of r ≡ block e d ws → Laid e (Sort.block ∷ []) ws
    go (ok l j) q k =
        let x : Sound (block_scope (length s) e) (Hands e c) (ok l j) = subst (Sound (block_scope (length s) e) (Hands e c)) q (sound (in_parse_block c) 0 s (omega arith) (omega arith)) in
        let i : j ≡ e = cc in
        let w : words_in l ≡ ws = cc in
        rw (← w) (x (omega arith)).1
    go (closed l j) q k = let z : ◌≡◌ {A = ℕ} 0 1 = cc in absurd (omega arith)
    go (no_at a p) q k = let z : ◌≡◌ {A = ℕ} 0 1 = cc in absurd (omega arith)

-- Whatever text and lengths are lent, a reading that refuses does so with one of 01's numbers or 26, in the text or one past its end.
pub reading_refusal : (W D : ℕ) (text ws ds : List ℕ) (q p : ℕ) → reading_of W D text ≡ left (refused_at q p) ws ds → Question q × (p ≤ length text + 1)
unfolding reading_of
reading_refusal W D text ws ds q p h = subst (LeftIn (length text)) h (full_in head_at block_at head_in block_in W D text)

-- The same of a re-reading, whatever words, directory, count and older text are lent; the place is in the newer text.
pub rereading_refusal : (words dir : List ℕ) (n : ℕ) (older newer ws ds : List ℕ) (q p : ℕ) → left_of (rereading_of words dir n older newer) ≡ left (refused_at q p) ws ds
    → Question q × (p ≤ length newer + 1)
unfolding rereading_of
rereading_refusal words dir n older newer ws ds q p h = subst (LeftIn (length newer)) h (reread_in head_at block_at head_in block_in words dir n older newer)
