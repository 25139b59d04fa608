-- How far a reader came: a cursor, or a refusal, which is the number of the question that says no, and a place.
-- Assumes nothing.
pub use Rattle.std.specs.Prelude.{Ok, Err}
use Rattle.std.specs.Prelude.{ℕ, Result}
use Rattle.records.specs.declared.Refusal.{Refusal}
use Rattle.lexer.specs.declared.Cursor.{Cursor}

abbrev pub Parsed : Type 0
Parsed = Result Cursor Refusal

abbrev pub Refused : ℕ → ℕ → Parsed
Refused e q = Err (record { question = e; place = q })
