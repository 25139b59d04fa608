-- 01: "Line is 1 plus the line feeds before it; column is 1 plus the characters since the last one."
-- Assumes nothing.
use Rattle.std.specs.Prelude.{List, [], ◌∷◌, ℕ, ◌+◌, eqb, ltb, length, take}
use Rattle.program.specs.Bytes.{byte}
use Rattle.program.specs.Choice.{pick}
use Rattle.text_lines.specs.declared.Position.{Position}

-- how many line feeds
unfoldable pub feeds : List ℕ → ℕ
feeds [] = 0
feeds (x ∷ s) = pick (eqb x (byte "\n")) 1 0 + feeds s

-- how many bytes stand behind the last line feed, where c stood before; each counts as a character, as it is one where question 2 has been asked
unfoldable pub since : ℕ → List ℕ → ℕ
since c [] = c
since c (x ∷ s) = since (pick (eqb x (byte "\n")) 0 (c + 1)) s

-- "Two escape errors can put it one past the text's length": the missing byte counts as a character, as in the Rust. A place further on counts
-- as that one.
unfoldable pub position_of : List ℕ → ℕ → Position
position_of text place =
    record {
      line = 1 + feeds (take place text);
      column = 1 + since 0 (take place text) + pick (ltb (length text) place) 1 0;
    }
