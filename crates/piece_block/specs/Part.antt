-- A block or the tail of a text, as the code reads it into a stretch of the lent words, or counts its words.
-- Assumes nothing.
use Rattle.std.specs.Prelude.{◌≡◌, List, ℕ, length, Result, Ok, Err}
use Rattle.records.specs.Pieces.{block, tail, bad_block}
use Rattle.grammar.specs.Function.{block_at}
use Rattle.records.specs.declared.Refusal.{Refusal}
use Rattle.piece_directory.specs.declared.pieces.Piece.{Piece}
use Rattle.piece_directory.specs.declared.pieces.Piece.TheVariants.{Read, Tail}
use Rattle.piece_directory.specs.Stretch.{Within, Stands, Stops, Counts}

-- What reading a block at the start of s gave, where the counter is d.
abbrev pub BlockIn : (d : ℕ) (s : List ℕ) (word to : ℕ) (words words' : List ℕ) → Result Piece Refusal → Type 0
BlockIn d s word to words words' (Ok (Read z d2)) = Stands (λ ws. block_at d s ≡ block z.bytes d2 ws) z.words word to words words'
BlockIn d s word to words words' (Ok (Tail e)) = (block_at d s ≡ tail e) × Within word to words words'
BlockIn d s word to words words' (Err r) = Stops (block_at d s ≡ bad_block r.question r.place) r.place s × (length words' ≡ length words)

-- The same, where the words are only counted.
abbrev pub BlockDry : ℕ → List ℕ → Result Piece Refusal → Type 0
BlockDry d s (Ok (Read z d2)) = Counts (λ ws. block_at d s ≡ block z.bytes d2 ws) z.words
BlockDry d s (Ok (Tail e)) = block_at d s ≡ tail e
BlockDry d s (Err r) = Stops (block_at d s ≡ bad_block r.question r.place) r.place s
