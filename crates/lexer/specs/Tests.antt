-- What the tests at the cursor say.
-- Assumes nothing.
use Rattle.std.specs.Prelude.{Bool, false, List, ℕ, drop}
use Rattle.program.specs.Class.{is_digit}
use Rattle.program.specs.Prog.{byte_at, lead_word}
use Rattle.grammar.specs.Lexer.{starts_with}
use Rattle.lexer.specs.Parsed.{Parsed, Ok, Err}

-- does the next word begin with kw?
abbrev pub starts_p : List ℕ → Parsed → List ℕ → Bool
starts_p text (Ok c) kw = starts_with kw (lead_word (drop c.at text))
starts_p text (Err r) kw = false

-- is the next byte a digit? (256, the text's end, is none)
abbrev pub digit_p : List ℕ → Parsed → Bool
digit_p text (Ok c) = is_digit (byte_at (drop c.at text))
digit_p text (Err r) = false
