-- Literals from the states that digits fold to, and what 01 says of each answer.
-- Assumes nothing.
use Rattle.std.specs.Prelude.{ℕ, ◌%◌, ◌^◌, eqb, Option, Some, None, Result, Ok, Err}
use Rattle.program.specs.Choice.{pick}
use Rattle.program.specs.Class.{inside}
use Rattle.program.specs.Prog.{Prog, ret}
use Rattle.grammar.specs.Lexer.{refuse}
use Rattle.grammar.specs.Numbers.{int, float, halves, widen, Literal as Written}
use Rattle.number_integers.specs.declared.hex.Hex.{Hex}
use Rattle.number_integers.specs.declared.literal.Literal.TheVariants.{Int, Float}
use Rattle.number_integers.specs.declared.literal.Literal.{Literal}

-- each answer as a program: the literal, or the question at the cursor
unfoldable pub given : Result Literal ℕ → Prog Written
given (Ok (Int n)) = ret (int (halves n))
given (Ok (Float b)) = ret (float b)
given (Err q) = refuse q

-- a float's bits as a program, or the question at the cursor
unfoldable pub bits_in : Result ℕ ℕ → Prog ℕ
bits_in (Ok b) = ret b
bits_in (Err q) = refuse q

-- "`0x` or `0X` takes 1 to 16 hex digits as bits"
unfoldable pub hex_literal : Option Hex → Result ℕ ℕ
hex_literal None = Err 7
hex_literal (Some h) = pick (inside 1 16 h.count) (Ok h.bits) (Err 7)

-- "`f0x` exactly 8 (binary32 widened) or 16"
unfoldable pub f0x_literal : Option Hex → Result ℕ ℕ
f0x_literal None = Err 7
f0x_literal (Some h) = pick (eqb h.count 8) (Ok (widen (h.bits % 2 ^ 32))) (pick (eqb h.count 16) (Ok h.bits) (Err 7))
