-- Numbers of at most 64 bits in a text.
-- Assumes nothing.
use Rattle.std.specs.Prelude.{◌≡◌, List, ℕ, ◌+◌, eqb, drop, Option}
use Rattle.program.specs.Bytes.{byte}
use Rattle.program.specs.Choice.{pick}
use Rattle.program.specs.Class.{class_of}
use Rattle.program.specs.Prog.{scan_len}
use Rattle.grammar.specs.Numbers.{digit_step, value_of}
use Rattle.lexer.specs.Step.{taken}
use Rattle.lexer.specs.Parsed.{Refused}
use Rattle.lexer.specs.declared.Num.{Num}
use Rattle.number_counts.specs.declared.Digits.{Digits}
use Rattle.number_bits.specs.Number.{capped, shifted}

-- one digit or `_` more
abbrev pub added : Option ℕ → ℕ → Option ℕ
added n x = pick (eqb x (byte "_")) n (shifted n (class_of x))

-- a refusal in the place of a number
abbrev pub refusal : ℕ → ℕ → Num
refusal e q = record { p = Refused e q; v = 0 }

-- the digits at a place, and their value
pub record NumAt (text : List ℕ) (i : ℕ) (r : Digits) : Type 0 where
  pub behind : r.at ≡ i + scan_len digit_step 0 (drop i text)
  pub worth : r.val ≡ capped (value_of 0 (taken digit_step 0 (drop i text)))
