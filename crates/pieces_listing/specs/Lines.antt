-- What the program `pieces` prints of a text: a listing of its pieces, or its refusal, byte by byte. 01: "Known readings".
-- Assumes nothing.
use Rattle.std.specs.Prelude.{List, [], ◌∷◌, ◌++◌, ℕ, zero, suc, ◌+◌}
use Rattle.program.specs.Bytes.{bytes}
use Rattle.records.specs.Words.{hi, lo}
use Rattle.records.specs.Pieces.{Left, left, count, refused_at}
use Rattle.grammar.specs.Function.{reading_of}
use Rattle.text_lines.specs.Place.{position_of}
use Rattle.buffer.specs.Decimal.{decimal}

unfoldable pub field : ℕ → List ℕ
field n = bytes " " ++ decimal n

-- a piece: number, start, length, first word, number of words
unfoldable pub piece_line : ℕ → ℕ → ℕ → List ℕ
piece_line i x y = decimal i ++ (field (hi x) ++ (field (lo x) ++ (field (hi y) ++ (field (lo y) ++ bytes "\n"))))

-- the lines of n pieces, the first of which has number i; an entry's third word, the counter, is not printed
unfoldable pub piece_lines : ℕ → ℕ → List ℕ → List ℕ
piece_lines i zero dir = []
piece_lines i (suc n) [] = []
piece_lines i (suc n) (x ∷ []) = []
piece_lines i (suc n) (x ∷ y ∷ []) = []
piece_lines i (suc n) (x ∷ y ∷ c ∷ dir) = piece_line i x y ++ piece_lines (suc i) n dir

-- where the words of n pieces end, where those before them end at w
unfoldable pub words_end : ℕ → ℕ → List ℕ → ℕ
words_end w zero dir = w
words_end w (suc n) [] = w
words_end w (suc n) (x ∷ []) = w
words_end w (suc n) (x ∷ y ∷ []) = w
words_end w (suc n) (x ∷ y ∷ c ∷ dir) = words_end (hi y + lo y) n dir

unfoldable pub listing : ℕ → List ℕ → List ℕ
listing n dir = bytes "pieces " ++ (decimal n ++ (bytes " words " ++ (decimal (words_end 0 n dir) ++ (bytes "\n" ++ piece_lines 0 n dir))))

unfoldable pub refusal_line : List ℕ → ℕ → ℕ → List ℕ
refusal_line text q p =
    bytes "refused " ++ (decimal q ++ (bytes " place " ++ (decimal p ++
    (bytes " line " ++ (decimal (position_of text p).line ++ (bytes " column " ++ (decimal (position_of text p).column ++ bytes "\n")))))))

-- what is printed of a text, by what its reading leaves
unfoldable pub printed_of : List ℕ → Left → List ℕ
printed_of text (left (count n) ws ds) = listing n ds
printed_of text (left (refused_at q p) ws ds) = refusal_line text q p

-- "it lends 8,192 words and 2,048 directory words"
unfoldable pub printed : List ℕ → List ℕ
printed text = printed_of text (reading_of 8192 2048 text)
