-- What is read without being written.
-- Assumes nothing.
use Rattle.std.specs.Prelude.{List, [], ℕ}
use Rattle.program.specs.Prog.{Prog}
use Rattle.lexer.specs.Reads.{Goal, Leads}
use Rattle.lexer.specs.Parsed.{Parsed}

-- f leads from p to r, where g holds; no array is lent.
pub record Dry {A : Type 0} (f : Prog A) (g : Goal A) (text : List ℕ) (p r : Parsed) : Type 0 where
  pub words : List ℕ
  pub reads : Leads f 0 [] g text p p [] r words
