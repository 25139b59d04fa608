-- Pieces that were read, in order: what they add to a run, to the words and to the directory.
-- Assumes nothing.
use Rattle.std.specs.Prelude.{◌≡◌, List, [], ◌∷◌, ◌++◌, ℕ, zero, suc, ◌+◌, ◌-◌, ◌*◌, ◌≤◌, length, take, drop}
use Rattle.records.specs.Limits.{entry_words}
use Rattle.records.specs.Words.{pack}
use Rattle.records.specs.Pieces.{HeadRead, head, bad_head, BlockRead, block, tail, bad_block, Run, done, item, Source, fresh, before, old_sizes, old_words, Verdict, fine}
use Rattle.piece_directory.specs.Olds.{olds_of, moved, RoomFor}

-- a piece that was read: its length, the counter at its start, its words
abbrev pub Taken : Type 0
Taken = ℕ × ℕ × List ℕ

-- in front of a full reading's run
unfoldable pub full_then : List Taken → Run (List ℕ) → Run (List ℕ)
full_then [] r = r
full_then (x ∷ xs) r = item x.0 x.1 x.2 (full_then xs r)

-- in front of a re-reading's run
unfoldable pub read_then : List Taken → Run Source → Run Source
read_then [] r = r
read_then (x ∷ xs) r = item x.0 x.1 (fresh x.2) (read_then xs r)

-- how much text they take
unfoldable pub read_size : List Taken → ℕ
read_size [] = 0
read_size (x ∷ xs) = x.0 + read_size xs

unfoldable pub read_words : List Taken → List ℕ
read_words [] = []
read_words (x ∷ xs) = x.2 ++ read_words xs

-- their entries, where they start at pos and at `word`
unfoldable pub read_entries : (pos word : ℕ) → List Taken → List ℕ
read_entries pos word [] = []
read_entries pos word (x ∷ xs) = pack pos x.0 ∷ pack word (length x.2) ∷ x.1 ∷ read_entries (pos + x.0) (word + length x.2) xs

-- The first n pieces at the start of s, where the counter is d, as far as they go.
unfoldable pub reads_from : (ℕ → List ℕ → BlockRead) → (n d : ℕ) → List ℕ → List Taken
reads_from block_at zero d s = []
reads_from block_at (suc n) d s =
    elim (block_at d s) [ block e d2 ws ↦ (e, d, ws) ∷ reads_from block_at n d2 (drop e s) | tail e ↦ (e, d, []) ∷ [] | bad_block q p ↦ [] ]

-- The first n pieces of a text behind the k kept in front, which end at k₁ and with the counter d.
unfoldable pub reads : (List ℕ → HeadRead) → (ℕ → List ℕ → BlockRead) → (k k₁ d n : ℕ) → List ℕ → List Taken
reads head_at block_at zero k₁ d zero s = []
reads head_at block_at zero k₁ d (suc n) s = elim (head_at s) [ head e d2 ws ↦ (e, 0, ws) ∷ reads_from block_at n d2 (drop e s) | bad_head q p ↦ [] ]
reads head_at block_at (suc k) k₁ d n s = reads_from block_at n d (drop k₁ s)

-- Re-reading, the older directory's n entries in hand: k old pieces are kept in front, then those of fs are read, then the old pieces from
-- number j on are kept (j is n where none is).
unfoldable pub rest_left : (n : ℕ) (dir : List ℕ) (j : ℕ) → List Taken → Run Source
rest_left n dir j fs = read_then fs (before (drop j (olds_of n dir)) done)

-- The words that this leaves.
unfoldable pub words_left : (ws : List ℕ) (n : ℕ) (dir : List ℕ) (k j : ℕ) → List Taken → List ℕ
words_left ws n dir k j fs =
    take (old_words (take k (olds_of n dir))) ws ++ (read_words fs ++ take (old_words (drop j (olds_of n dir))) (drop (old_words (take j (olds_of n dir))) ws))

-- The directory's words.
unfoldable pub entries_left : (n : ℕ) (dir : List ℕ) (k j : ℕ) → List Taken → List ℕ
entries_left n dir k j fs =
    take (k * entry_words) dir
    ++ (read_entries (old_sizes (take k (olds_of n dir))) (old_words (take k (olds_of n dir))) fs
    ++ moved (n - j) (old_sizes (take k (olds_of n dir)) + read_size fs) (old_words (take k (olds_of n dir)) + length (read_words fs)) (drop (j * entry_words) dir))

-- All questions are answered and none refuses: behind the k pieces kept in front, which end at k₁ in the text and at word k₂, `rest` has
-- pieces read, which end as piece i at pos and at `word`, and then the old pieces from number j on, which have room, and end inside
-- the text of that length.
pub record Settled (W D len : ℕ) (v : Verdict) (rest : Run Source) (n : ℕ) (dir : List ℕ) (k k₁ k₂ i pos word j : ℕ) : Type 0 where
  pub fs : List Taken
  pub is : v ≡ fine
  pub run : rest ≡ rest_left n dir j fs
  pub number : i ≡ k + length fs
  pub place : pos ≡ k₁ + read_size fs
  pub first : word ≡ k₂ + length (read_words fs)
  pub behind : j ≤ n
  pub room : RoomFor W D i word (drop j (olds_of n dir))
  pub ends : pos + old_sizes (drop j (olds_of n dir)) ≤ len
