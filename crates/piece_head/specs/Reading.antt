-- What the code of the head holds of its programs.
-- Assumes nothing.
use Rattle.std.specs.Prelude.{◌≡◌, List, ◌∷◌, ℕ, drop}
use Rattle.program.specs.Prog.{Res, ok, closed, no_at, byte_at}
use Rattle.grammar.specs.Counter.{Counted, counted}
use Rattle.grammar.specs.Types.{Listed, listed}
use Rattle.lexer.specs.Reads.{Budget, At, Goal}
use Rattle.lexer.specs.declared.Cursor.{Cursor}
use Rattle.lexer.specs.Parsed.{Parsed, Ok, Refused}

-- a list of parameters, and the counter behind it
abbrev pub params : (c n dots : ℕ) → List ℕ → Counted Listed
params c n dots ws = counted c (listed n dots ws)

-- A parameter is read, and d is the counter behind it; or its type has a list behind it, and the cursor is at the parenthesis, which every reader
-- behind a parameter refuses.
pub data ParamEnds (q d : ℕ) (b : Budget) (text : List ℕ) (p0 : Parsed) (k : ℕ) (low : List ℕ) : Res (Counted (List ℕ)) → Parsed → List ℕ → Type 0 where
  read : {ws : List ℕ} {cur : Cursor} {words : List ℕ} → At b text p0 k low ws cur words → ParamEnds q d b text p0 k low (ok (counted d ws) cur.at) (Ok cur) words
  back : {ws : List ℕ} {cur : Cursor} {words : List ℕ} → At b text p0 k low ws cur words → byte_at (drop cur.at text) ≡ 40 → ParamEnds q d b text p0 k low (no_at q cur.at) (Ok cur) words
  none : {e x : ℕ} {words : List ℕ} → ParamEnds q d b text p0 k low (no_at e x) (Refused e x) words

abbrev pub parameter : (q d : ℕ) → List ℕ → Parsed → Goal (Counted (List ℕ))
parameter q d text p0 = record { ends = λ b k low r p words. ParamEnds q d b text p0 k low r p words; outs = λ b k low e x words. none }

-- The run has passed its closing byte, its words stand behind low, and d is the counter there.
pub data Shut (d : ℕ) (b : Budget) (text : List ℕ) (p0 : Parsed) (k : ℕ) (low : List ℕ) : Res (List ℕ) → Parsed → List ℕ → Type 0 where
  shut : {ws : List ℕ} {cur : Cursor} {words : List ℕ} → At b text p0 k low ws cur words → Shut d b text p0 k low (closed (d ∷ ws) cur.at) (Ok cur) words
  bad : {e q : ℕ} {words : List ℕ} → Shut d b text p0 k low (no_at e q) (Refused e q) words

abbrev pub shuts : ℕ → List ℕ → Parsed → Goal (List ℕ)
shuts d text p0 = record { ends = λ b k low r p words. Shut d b text p0 k low r p words; outs = λ b k low e q words. bad }
