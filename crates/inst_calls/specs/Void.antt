-- Whether the type of a call is void.
-- Assumes nothing.
use Rattle.std.specs.Prelude.{◌≡◌, Bool, true, false, ◌&&◌, List, ℕ, ltb, eqb, drop}
use Rattle.program.specs.Prog.{Prog, ret, ok, run, ◌>>=◌}
use Rattle.records.specs.Words.{header}
use Rattle.records.specs.Kinds.{kind, Void}
use Rattle.records.specs.Limits.{depth_limit}
use Rattle.records.specs.Details.{d_none}
use Rattle.grammar.specs.Lexer.{place}
use Rattle.grammar.specs.Counter.{Counted, counted, takes_next}
use Rattle.grammar.specs.Attributes.{skip_attrs, skip_call_cconv}
use Rattle.grammar.specs.Types.{TypeOut, parse_type}
use Rattle.grammar.specs.Instructions.{is_void}
use Rattle.lexer.specs.Reads.{Inside}
use Rattle.lexer.specs.declared.Cursor.{Cursor}
use Rattle.lexer.specs.Parsed.{Parsed, Ok, Err}

-- what stands before a call's callee, but for a function type
abbrev pub call_type : Prog TypeOut
call_type = skip_call_cconv >>= λ _. skip_attrs >>= λ _. parse_type depth_limit

-- The type at p is void just if v.
pub record VoidType (text : List ℕ) (p : Parsed) (v : Bool) : Type 0 where
  pub is : (cur : Cursor) → p ≡ Ok cur → Inside text cur → (t : TypeOut) (j : ℕ) → run (parse_type depth_limit) cur.at (drop cur.at text) ≡ ok t j → v ≡ is_void t

-- The call at p has a void type just if v.
pub record Voids (text : List ℕ) (p : Parsed) (v : Bool) : Type 0 where
  pub is : (cur : Cursor) → p ≡ Ok cur → Inside text cur → (t : TypeOut) (j : ℕ) → run call_type cur.at (drop cur.at text) ≡ ok t j → v ≡ is_void t

-- x is the one word of void's node, and there is such a word
abbrev pub void_p : Parsed → ℕ → Bool
void_p (Ok c) x = ltb 0 c.w && eqb x (header (kind Void) d_none 0 1)
void_p (Err r) x = false

-- behind a call without a destination, by whether it is void
abbrev pub behind_call : Bool → ℕ → List ℕ → Prog (Counted (List ℕ))
behind_call v c ws = place >>= λ j. elim v [ true ↦ ret c | false ↦ takes_next j c ] >>= λ d. ret (counted d ws)
