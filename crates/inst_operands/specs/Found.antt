-- What was read before and is to be read again.
-- Assumes nothing.
use Rattle.std.specs.Prelude.{◌≡◌, List, ℕ, ◌≤◌, length, drop}
use Rattle.program.specs.Prog.{Prog, ok, run}
use Rattle.grammar.specs.Types.{TypeOut, plain, opened}
use Rattle.lexer.specs.declared.Cursor.{Cursor}
use Rattle.lexer.specs.Parsed.{Parsed, Ok}

-- From p on, f gives a.
pub record There {A : Type 0} (f : Prog A) (text : List ℕ) (p : Parsed) (a : A) : Type 0 where
  pub cur : Cursor
  pub was : p ≡ Ok cur
  pub inside : cur.at ≤ length text
  pub end : ℕ
  pub is : run f cur.at (drop cur.at text) ≡ ok a end

-- So it does where the reader has come to q.
pub record Found {A : Type 0} (f : Prog A) (text : List ℕ) (p q : Parsed) (a : A) : Type 0 where
  pub there : (c : Cursor) → q ≡ Ok c → There f text p a

-- the words of a type, whether or not a list follows
abbrev pub type_of : TypeOut → List ℕ
type_of (plain t) = t
type_of (opened t l j) = t
