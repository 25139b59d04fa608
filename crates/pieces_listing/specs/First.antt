-- The first known reading, as it is printed.
-- In six words and nine directory words the reading is computed; more room changes nothing but the zeros behind, and the listing does not come to them.
-- Assumes nothing.
use Rattle.std.specs.Prelude.{◌≡◌, refl, List, [], ◌∷◌, ℕ}
use Rattle.std.proofs.Common.{ap}
use Rattle.program.specs.Bytes.{bytes}
use Rattle.records.specs.Words.{pack, header}
use Rattle.records.specs.Kinds.{kind, Void, Ret, Head, Block}
use Rattle.records.specs.Details.{no_linkage}
use Rattle.records.specs.Pieces.{left, count}
use Rattle.grammar.specs.Function.{reading_of}
use Rattle.grammar.specs.Readings.{answer}
use Rattle.theorem_edits.specs.Room.{more_room}
use Rattle.buffer.specs.Decimal.{digits_in, decimal}
use Rattle.pieces_listing.specs.Lines.{field, piece_line, piece_lines, words_end, listing, printed_of, printed}

abbrev text : List ℕ
text = bytes "void @f(){ret void}"

-- head: `void` and the name at 6; block: no label, `ret void`
words : List ℕ
words = header (kind Head) no_linkage 1 3 ∷ pack 6 1 ∷ header (kind Void) 0 0 1 ∷ header (kind Block) 0 1 3 ∷ 0 ∷ header (kind Ret) 0 0 1 ∷ []

-- the block has no label and takes number 0: behind it the counter is 1
directory : List ℕ
directory = pack 0 10 ∷ pack 0 3 ∷ 0 ∷ pack 10 8 ∷ pack 3 3 ∷ 0 ∷ pack 18 1 ∷ pack 6 0 ∷ 1 ∷ []

exact : reading_of 6 9 text ≡ left (count 3) words directory
unfolding answer reading_of words directory pack
exact = refl

-- "prints all of"
pub first_reading : printed (bytes "void @f(){ret void}") ≡ bytes "pieces 3 words 6\n0 0 10 0 3\n1 10 8 3 3\n2 18 1 6 0\n"
unfolding printed printed_of listing words_end piece_lines piece_line field decimal digits_in directory pack
first_reading = ap (printed_of text) (more_room 6 9 8186 2039 3 text words directory exact)
