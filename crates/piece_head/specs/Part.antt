-- The head of a text, as the code reads it into a stretch of the lent words, or counts its words.
-- Assumes nothing.
use Rattle.std.specs.Prelude.{◌≡◌, List, ℕ, length, Result, Ok, Err}
use Rattle.records.specs.Pieces.{head, bad_head}
use Rattle.grammar.specs.Function.{head_at}
use Rattle.records.specs.declared.Refusal.{Refusal}
use Rattle.piece_directory.specs.declared.pieces.Piece.{Piece}
use Rattle.piece_directory.specs.declared.pieces.Piece.TheVariants.{Read, Tail}
use Rattle.piece_directory.specs.Stretch.{Stands, Stops, Counts}

-- What reading the head at the start of s gave.
abbrev pub HeadIn : (s : List ℕ) (word to : ℕ) (words words' : List ℕ) → Result Piece Refusal → Type 0
HeadIn s word to words words' (Ok (Read z d)) = Stands (λ ws. head_at s ≡ head z.bytes d ws) z.words word to words words'
HeadIn s word to words words' (Ok (Tail e)) = ⊥
HeadIn s word to words words' (Err r) = Stops (head_at s ≡ bad_head r.question r.place) r.place s × (length words' ≡ length words)

-- The same, where the words are only counted.
abbrev pub HeadDry : List ℕ → Result Piece Refusal → Type 0
HeadDry s (Ok (Read z d)) = Counts (λ ws. head_at s ≡ head z.bytes d ws) z.words
HeadDry s (Ok (Tail e)) = ⊥
HeadDry s (Err r) = Stops (head_at s ≡ bad_head r.question r.place) r.place s
