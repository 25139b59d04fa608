-- What the cases of each answer mean in the definitions.
-- Assumes nothing.
use Rattle.std.specs.Prelude.{List, ℕ, Result, Ok, Err}
use Rattle.records.specs.Pieces.{Old}
use Rattle.piece_directory.specs.Olds.{FoundAt, FoundNot, JoinsAt, JoinsNot}

-- Where an old piece starts with the counter d.
abbrev pub Finds : List Old → (target d : ℕ) → Result ℕ ℕ → Type 0
Finds os target d (Ok j) = FoundAt os target d j
Finds os target d (Err j) = FoundNot os target d j

-- Which old pieces are kept behind a piece just read, where `left` bytes remain and the counter is d.
abbrev pub Joins : List Old → (c olen left d : ℕ) → Result ℕ ℕ → Type 0
Joins os c olen left d (Ok j) = JoinsAt os c olen left d j
Joins os c olen left d (Err j) = JoinsNot os c olen left d j
