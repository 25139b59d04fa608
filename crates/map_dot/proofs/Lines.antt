-- The lines of some blocks are the first one's and those of the rest: a directory is its first entry and the rest, and so are the words.
-- Assumes nothing.
use mathlib.Core.Path.{◌≡◌, refl}
use mathlib.Core.Bool.{Bool, true, false}
use mathlib.Core.List.{List, [], ◌∷◌, ◌++◌}
use Prim.Native.Nat.{ℕ, zero, suc, ◌+◌, ◌-◌, ◌*◌, ◌/◌, ◌≤◌, ◌<◌}
use native.Mathlib.Omega.{arith}
use lib.ListN.{length, get_or, drop}
use Rattle.records.specs.Limits.{entry_words}
use Rattle.records.specs.Entries.{three, short}
use Rattle.trees.specs.Steps.{word_at}
use Rattle.buffer.specs.Stored.{stored, placed, Stores}
use Rattle.buffer.specs.Laws.{went_on}
use Rattle.map_spec.specs.Drawing.{Shown, shown, node_line, node_of, edges_to, edges_of, lines_of}
use Rattle.map_spec.specs.Blocks.{piece_text, block_name, targets_in, first_node, behind_node, blocks_from}
use Rattle.map_dot.specs.Views.{sort_of_lines}

-- a block, as its entry and its node show it
abbrev pub block : (text ws dir : List ℕ) (i : ℕ) → Shown
block text ws dir i =
    shown (block_name (piece_text text (get_or dir (i * entry_words) 0)) (get_or dir (i * entry_words + 2) 0) (word_at (first_node ws) 1))
    (targets_in (piece_text text (get_or dir (i * entry_words) 0)) (first_node ws))

-- the lines of n blocks, i of which are done: the head's entry stands before theirs
abbrev pub lines_from : (Shown → List ℕ) → (text ws dir : List ℕ) (i n : ℕ) → List ℕ
lines_from f text ws dir i n = lines_of f (blocks_from (n - i) text ws (drop ((i + 1) * entry_words) dir))

next_lines : (f : Shown → List ℕ) (text ws dir : List ℕ) (i n : ℕ) → i < n → (i + 1) * entry_words + 2 < length dir → lines_from f text ws dir i n ≡ f (block text ws dir (i + 1)) ++ lines_from f text (behind_node ws) dir (i + 1) n
unfolding lines_of blocks_from
next_lines f text ws dir i n h l =
    let d : n - i ≡ suc (n - (i + 1)) = omega arith in
    rw (d, three dir (i + 1) l)

-- one block more
pub turn : (f : Shown → List ℕ) (text ws dir : List ℕ) (i n : ℕ) {k k' : ℕ} {out out' : List ℕ} {p : ℕ} {b : List ℕ} (ws' : List ℕ) → i < n → (i + 1) * entry_words + 2 < length dir → ws' ≡ behind_node ws → Stores (f (block text ws dir (i + 1))) k out k' out' → placed k (lines_from f text ws dir i n) ≡ p → stored k (lines_from f text ws dir i n) out ≡ b → (placed k' (lines_from f text ws' dir (i + 1) n) ≡ p) × (stored k' (lines_from f text ws' dir (i + 1) n) out' ≡ b)
turn f text ws dir i n ws' h l g s e e' =
    let x = next_lines f text ws dir i n h l in
    rw g (went_on (lines_from f text (behind_node ws) dir (i + 1) n) s (rw x at e) (rw x at e'))

-- the lines that the code stores are the block's
module _ (edges : Bool) (text ws piece own : List ℕ) (x c w : ℕ) (hp : piece ≡ piece_text text x) (ho : own ≡ first_node ws) (hw : w ≡ word_at own 1) where
  pub edges_shown : {k r k' : ℕ} {out end out' : List ℕ} → edges ≡ true → Stores (edges_to (block_name piece c w) (targets_in piece own)) k out r end → k' ≡ r → out' ≡ end → Stores (sort_of_lines edges (shown (block_name (piece_text text x) c (word_at (first_node ws) 1)) (targets_in (piece_text text x) (first_node ws)))) k out k' out'
  unfolding edges_of
  edges_shown t s ek eo = rw (t, ek, eo, ← hp, ← ho, ← hw) s

  pub nodes_shown : {k r k' : ℕ} {out end out' : List ℕ} → edges ≡ false → Stores (node_line (block_name piece c w)) k out r end → k' ≡ r → out' ≡ end → Stores (sort_of_lines edges (shown (block_name (piece_text text x) c (word_at (first_node ws) 1)) (targets_in (piece_text text x) (first_node ws)))) k out k' out'
  unfolding node_of
  nodes_shown t s ek eo = rw (t, ek, eo, ← hp, ← ho, ← hw) s

-- no entry is left
no_block : (n : ℕ) (text ws xs : List ℕ) → length xs ≤ 2 → blocks_from n text ws xs ≡ []
unfolding blocks_from
no_block zero text ws xs h = refl
no_block (suc n) text ws [] h = refl
no_block (suc n) text ws (x ∷ []) h = refl
no_block (suc n) text ws (x ∷ y ∷ []) h = refl
no_block (suc n) text ws (x ∷ y ∷ c ∷ xs) h = absurd (omega arith)

pub lines_over : (f : Shown → List ℕ) (text ws dir : List ℕ) (i n : ℕ) → length dir / entry_words ≤ i + 1 → lines_from f text ws dir i n ≡ []
unfolding lines_of
lines_over f text ws dir i n h = rw (no_block (n - i) text ws (drop ((i + 1) * entry_words) dir) (short dir (i + 1) h))

-- all blocks are done
pub lines_done : (f : Shown → List ℕ) (text ws dir : List ℕ) (i n : ℕ) → n ≤ i → lines_from f text ws dir i n ≡ []
unfolding lines_of blocks_from
lines_done f text ws dir i n h = let d : n - i ≡ 0 = omega arith in rw d
