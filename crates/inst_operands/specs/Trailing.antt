-- The clauses that end an instruction.
-- Assumes nothing.
use Rattle.std.specs.Prelude.{◌≡◌, Bool, true, false, List, [], ◌∷◌, ℕ, suc, Option, Some, None}
use Rattle.std.proofs.Math.Option.{none}
use Rattle.records.specs.Questions.{q_trailing}
use Rattle.program.specs.Prog.{Prog}
use Rattle.grammar.specs.Lexer.{refuse}
use Rattle.grammar.specs.Instructions.{Clauses, clauses, clauses_in}
use Rattle.lexer.specs.Reads.{Gives, Comes}
use Rattle.lexer.specs.Parsed.{Parsed}

-- An alignment as its words.
unfoldable pub align_of : Option ℕ → List ℕ
align_of None = []
align_of (Some v) = v ∷ []

-- the clauses of `parse_trailing`: no count
abbrev pub trailing : ℕ → List ℕ → Prog Clauses
trailing u align = clauses_in u (refuse q_trailing) none align

-- One turn of `parse_trailing`: behind a clause the loop goes on, else it is over. Its words before and behind.
pub record TrailStep (text : List ℕ) (p : Parsed) (align : List ℕ) (p' : Parsed) (align' : List ℕ) (more : Bool) : Type 0 where
  pub again : more ≡ true → (u : ℕ) → Comes (trailing (suc u) align) (trailing u align') text p p'
  pub over : more ≡ false → (u : ℕ) → Gives (trailing (suc u) align) (clauses none align') text p p'
