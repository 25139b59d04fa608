-- The bytes of a quoted text, so that keywords read as words and are the code's byte strings by computation.
-- Assumes nothing.
use Rattle.std.specs.Prelude.{true, false, List, [] as nil, ◌∷◌ as ◌then◌, ◌++◌, ℕ, eqb}
use Prim.Native.Char.{Char, code}
use Prim.Native.String.{String, [], ◌∷◌}

abbrev pub bytes : String → List ℕ
bytes [] = nil
bytes (c ∷ s) = ◌then◌ (code c) (bytes s)

abbrev pub byte : Char → ℕ
byte c = code c

-- the words of a table, which stand with a space between them; w is what the first has so far
abbrev pub words_from : List ℕ → String → List (List ℕ)
words_from w [] = ◌then◌ w nil
words_from w (c ∷ s) = elim (eqb (code c) (code " ")) [ true ↦ ◌then◌ w (words_from nil s) | false ↦ words_from (w ++ ◌then◌ (code c) nil) s ]

abbrev pub table : String → List (List ℕ)
table s = words_from nil s
