-- The answer of a reader as a piece.
-- Assumes nothing.
use Rattle.std.specs.Prelude.{ℕ, Result}
use Rattle.lexer.specs.Parsed.{Parsed, Ok, Err}
use Rattle.piece_directory.specs.declared.pieces.Piece.{Piece}
use Rattle.piece_directory.specs.declared.pieces.Piece.TheVariants.{Read, Tail}
use Rattle.records.specs.declared.Refusal.{Refusal}

-- of a head or a block: its length, the number of its words, and the counter d behind it
abbrev pub piece_of : ℕ → Parsed → Result Piece Refusal
piece_of d (Ok c) = Ok (Read (record { bytes = c.at; words = c.w }) d)
piece_of d (Err r) = Err r

-- of the tail: its length
abbrev pub tail_of : Parsed → Result Piece Refusal
tail_of (Ok c) = Ok (Tail c.at)
tail_of (Err r) = Err r
