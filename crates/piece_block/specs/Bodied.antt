-- What the code holds of a body.
-- Assumes nothing.
use Rattle.std.specs.Prelude.{◌≡◌, Bool, true, false, List, [], ◌++◌, ℕ, drop}
use Rattle.program.specs.Prog.{Res, closed, no_at, run}
use Rattle.grammar.specs.Body.{finish_block}
use Rattle.lexer.specs.Reads.{Budget, At, Goal}
use Rattle.lexer.specs.declared.Cursor.{Cursor}
use Rattle.lexer.specs.Parsed.{Parsed, Ok, Refused}

-- A body was read up to its `}`, or through a terminator, behind which the block is to be finished with the counter c: its
-- instructions' words and the terminator's stand there.
pub data BodyEnds (tail : Bool) (c l n over : ℕ) (b : Budget) (text : List ℕ) (p0 : Parsed) (k : ℕ) (low : List ℕ) : Res (List ℕ) → Parsed → List ℕ → Type 0 where
  through : (acc term : List ℕ) {cur : Cursor} {words : List ℕ} → tail ≡ false → At b text p0 k low (acc ++ term) cur words → BodyEnds tail c l n over b text p0 k low (run (finish_block c l n over acc term) cur.at (drop cur.at text)) (Ok cur) words
  shut : {cur : Cursor} {words : List ℕ} → tail ≡ true → BodyEnds tail c l n over b text p0 k low (closed [] cur.at) (Ok cur) words
  no_body : {e q : ℕ} {words : List ℕ} → BodyEnds tail c l n over b text p0 k low (no_at e q) (Refused e q) words

abbrev pub bodied : Bool → (c l n over : ℕ) → List ℕ → Parsed → Goal (List ℕ)
bodied tail c l n over text p0 = record { ends = λ b k low r p words. BodyEnds tail c l n over b text p0 k low r p words; outs = λ b k low e q words. no_body }
