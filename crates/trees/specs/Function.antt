-- The trees of a function's records: one for the head, one for each block.
-- Assumes nothing.
use Rattle.std.specs.Prelude.{◌≡◌, List, [], ◌∷◌, ◌++◌, ℕ, zero, suc, ◌+◌, ◌*◌, ◌<◌, length, get_or, take, drop}
use Rattle.records.specs.Limits.{text_limit, half_limit, entry_words}
use Rattle.records.specs.Words.{hi, lo}
use Rattle.records.specs.Pieces.{pad}
use Rattle.trees.specs.Tree.{Trees, empty, tree, how_many, tree_words}
use Rattle.trees.specs.Forms.{Sort, head, block, sorts, repeat, Formed}

-- the words of piece i: those that its directory entry names
unfoldable pub piece_words : (words dir : List ℕ) → ℕ → List ℕ
piece_words words dir i = let entry = get_or dir (i * entry_words + 1) 0 in take (lo entry) (drop (hi entry) words)

-- how many bytes its text has
unfoldable pub piece_length : (dir : List ℕ) → ℕ → ℕ
piece_length dir i = lo (get_or dir (i * entry_words) 0)

-- tree number i alone
unfoldable pub tree_at : Trees → ℕ → Trees
tree_at empty i = empty
tree_at (tree k d p cs ts) zero = tree k d p cs empty
tree_at (tree k d p cs ts) (suc i) = tree_at ts i

-- Piece 0 is the head, every other but the last a block.
unfoldable pub sort_of_piece : ℕ → Sort
sort_of_piece zero = head
sort_of_piece (suc i) = block

-- The words and the directory, n entries of it, are those of a function: the words are trees, a head and so many blocks, with zeros behind, and each
-- entry names the words of its tree, whose names lie in the piece; the last one, the tail's, names none.
pub record Function (n : ℕ) (words dir : List ℕ) : Type 0 where
  pub trees : Trees
  pub blocks : ℕ
  pub formed : Formed text_limit trees
  pub pieces : sorts trees ≡ head ∷ repeat blocks (block ∷ [])
  pub entries : n ≡ blocks + 2
  pub small : length (tree_words trees) < half_limit
  pub all : words ≡ pad (length words) (tree_words trees)
  pub each : (i : ℕ) → i < n → piece_words words dir i ≡ tree_words (tree_at trees i)
  pub inside : (i : ℕ) → i < n → Formed (piece_length dir i) (tree_at trees i)

-- These words are those of exactly one tree, in a piece of n bytes, and it is of this sort.
pub record OneTree (n : ℕ) (s : Sort) (words : List ℕ) : Type 0 where
  pub the : Trees
  pub formed : Formed n the
  pub sort : sorts the ≡ s ∷ []
  pub its : tree_words the ≡ words
  pub only : (m : ℕ) (t : Trees) → Formed m t → how_many t ≡ 1 → tree_words t ≡ words → t ≡ the

-- where the nodes stand, in record order: a node, those below it, those behind it; `at` is the place of the first
unfoldable pub places : (at : ℕ) → Trees → List ℕ
places at empty = []
places at (tree k d p cs ts) = at ∷ (places (at + (1 + length p)) cs ++ places (at + (1 + length p + length (tree_words cs))) ts)
