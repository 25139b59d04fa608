-- One piece of a text by its number: the head, or from number 1 on a block or the tail at pos, where the counter is c.
-- Assumes nothing.
use Rattle.std.specs.Prelude.{◌≡◌, List, ℕ, zero, suc, ◌+◌, ◌≤◌, length, drop, Result, Ok, Err}
use Rattle.records.specs.Pieces.{head, bad_head, block, tail, bad_block}
use Rattle.grammar.specs.Function.{head_at, block_at}
use Rattle.piece_directory.specs.declared.pieces.Piece.{Piece}
use Rattle.piece_directory.specs.declared.pieces.Piece.TheVariants.{Read, Tail}
use Rattle.records.specs.declared.Refusal.{Refusal}
use Rattle.piece_directory.specs.Stretch.{Within, Stands, Counts}

-- a head or block of length e with the words ws: c is the counter at its start, d that behind it
abbrev pub Takes : (text : List ℕ) (i pos c e d : ℕ) → List ℕ → Type 0
Takes text zero pos c e d ws = head_at text ≡ head e d ws
Takes text (suc i) pos c e d ws = block_at c (drop pos text) ≡ block e d ws

-- the tail
abbrev pub Closes : (text : List ℕ) (i pos c e : ℕ) → Type 0
Closes text zero pos c e = ⊥
Closes text (suc i) pos c e = block_at c (drop pos text) ≡ tail e

-- a refusal
abbrev pub Stops : (text : List ℕ) (i pos c q p : ℕ) → Type 0
Stops text zero pos c q p = head_at text ≡ bad_head q p
Stops text (suc i) pos c q p = block_at c (drop pos text) ≡ bad_block q p

-- What reading it gave, the words only counted.
abbrev pub PieceDry : (text : List ℕ) (i pos c : ℕ) → Result Piece Refusal → Type 0
PieceDry text i pos c (Ok (Read z d)) = Counts (Takes text i pos c z.bytes d) z.words
PieceDry text i pos c (Ok (Tail e)) = Closes text i pos c e
PieceDry text i pos c (Err r) = Stops text i pos c r.question r.place × (pos + r.place ≤ length text + 1)

-- What reading it gave, its words in the stretch from `word` up to `to`.
abbrev pub PieceIn : (text : List ℕ) (i pos word c to : ℕ) (words words' : List ℕ) → Result Piece Refusal → Type 0
PieceIn text i pos word c to words words' (Ok (Read z d)) = Stands (Takes text i pos c z.bytes d) z.words word to words words'
PieceIn text i pos word c to words words' (Ok (Tail e)) = Closes text i pos c e × Within word to words words'
PieceIn text i pos word c to words words' (Err r) = Stops text i pos c r.question r.place × (length words' ≡ length words)
