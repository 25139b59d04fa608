-- What the code holds of a statement: which it was, and what it wrote.
-- Assumes nothing.
use Rattle.std.specs.Prelude.{◌≡◌, List, [], ℕ}
use Rattle.program.specs.Prog.{Prog, Res, ok, no_at, ◌>>=◌}
use Rattle.grammar.specs.Lexer.{read_word}
use Rattle.grammar.specs.Body.{Statement, label, instruction, terminator, Where, statement_of}
use Rattle.lexer.specs.Reads.{Budget, At, Goal}
use Rattle.lexer.specs.declared.Cursor.{Cursor}
use Rattle.lexer.specs.Parsed.{Parsed, Ok, Refused}
use Rattle.piece_block.specs.declared.statements.Kind.{Kind}
use Rattle.piece_block.specs.declared.statements.Kind.TheVariants.{Label, Instruction, Terminator}

-- a statement that does not begin with `%`, from place i on
abbrev pub word_statement : ℕ → Where → Prog Statement
word_statement i b = read_word >>= λ w. statement_of i b w

-- the code's kinds by number, and a label's word
abbrev pub number : Kind → ℕ
number (Label m) = 0
number Instruction = 1
number Terminator = 2

abbrev pub word_in : Kind → ℕ
word_in (Label m) = m
word_in Instruction = 0
word_in Terminator = 0

-- A statement as the code has it, the counter c behind it, and the words that it wrote: 0 a label, which is m and writes nothing, 1 an instruction,
-- 2 a terminator.
pub data Which (kind m c : ℕ) : Statement → List ℕ → Type 0 where
  a_label : kind ≡ 0 → Which kind m c (label c m) []
  an_instruction : {ws : List ℕ} → kind ≡ 1 → Which kind m c (instruction c ws) ws
  a_terminator : {ws : List ℕ} → kind ≡ 2 → Which kind m c (terminator c ws) ws

pub data StatementEnds (kind m c : ℕ) (b : Budget) (text : List ℕ) (p0 : Parsed) (k : ℕ) (low : List ℕ) : Res Statement → Parsed → List ℕ → Type 0 where
  stated_at : {s : Statement} {ws : List ℕ} {cur : Cursor} {words : List ℕ} → Which kind m c s ws → At b text p0 k low ws cur words → StatementEnds kind m c b text p0 k low (ok s cur.at) (Ok cur) words
  no_statement : {e q : ℕ} {words : List ℕ} → StatementEnds kind m c b text p0 k low (no_at e q) (Refused e q) words

abbrev pub stated_by : (kind m c : ℕ) → List ℕ → Parsed → Goal Statement
stated_by kind m c text p0 = record { ends = λ b k low r p words. StatementEnds kind m c b text p0 k low r p words; outs = λ b k low e q words. no_statement }

abbrev pub stated : Kind → (c : ℕ) → List ℕ → Parsed → Goal Statement
stated k c = stated_by (number k) (word_in k) c
