-- What the code of the types holds of their programs.
-- Assumes nothing.
use Rattle.std.specs.Prelude.{◌≡◌, List, [], ℕ, zero, suc, ◌+◌, drop}
use Rattle.program.specs.Prog.{Prog, ret, Res, ok, no_at, run, byte_at, ◌>>=◌}
use Rattle.grammar.specs.Lexer.{refuse, eat_ws}
use Rattle.grammar.specs.Types.{Listed, TypeOut, plain, opened, no_type, parse_type_list, parse_type}
use Rattle.lexer.specs.Reads.{Budget, At, Goal, Leads}
use Rattle.lexer.specs.declared.Cursor.{Cursor}
use Rattle.lexer.specs.Parsed.{Parsed, Ok, Refused}

-- a list and the white space behind it
unfoldable pub spaced : Prog Listed → Prog Listed
spaced g = g >>= λ l. eat_ws >>= λ _. ret l

-- behind the parenthesis at j, the list l is read up to e
pub record Listing (g : Prog Listed) (text : List ℕ) (j : ℕ) (l : Listed) (e : ℕ) : Type 0 where
  pub runs : run (spaced g) (j + 1) (drop (j + 1) text) ≡ ok l e

-- A type is read, or the cursor is back at the parenthesis behind it, from which g reads the list.
pub data TypeEnds (g : Prog Listed) (b : Budget) (text : List ℕ) (p0 : Parsed) (k : ℕ) (low : List ℕ) : Res TypeOut → Parsed → List ℕ → Type 0 where
  read : {t : List ℕ} {cur : Cursor} {words : List ℕ} → At b text p0 k low t cur words → TypeEnds g b text p0 k low (ok (plain t) cur.at) (Ok cur) words
  back : {t : List ℕ} {l : Listed} {e : ℕ} {cur : Cursor} {words : List ℕ} → At b text p0 k low t cur words → byte_at (drop cur.at text) ≡ 40 → Listing g text cur.at l e → TypeEnds g b text p0 k low (ok (opened t l cur.at) e) (Ok cur) words
  none : {e q : ℕ} {words : List ℕ} → TypeEnds g b text p0 k low (no_at e q) (Refused e q) words

abbrev pub typed : Prog Listed → List ℕ → Parsed → Goal TypeOut
typed g text p0 = record { ends = λ b k low r p words. TypeEnds g b text p0 k low r p words; outs = λ b k low e q words. none }

-- the list that may stand behind a type of so many levels
unfoldable pub list_of : ℕ → Prog Listed
list_of zero = refuse 16
list_of (suc d) = parse_type_list (no_type d) (parse_type d)

-- a reader of types of d levels
abbrev pub Types : ℕ → List ℕ → Parsed → List ℕ → Parsed → List ℕ → Type 0
Types d text p words p' words' = Leads (parse_type d) 0 [] (typed (list_of d) text p) text p p words p' words'
