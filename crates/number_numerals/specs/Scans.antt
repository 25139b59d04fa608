-- Digits that are a numeral by themselves.
-- Assumes nothing.
use Rattle.std.specs.Prelude.{◌≡◌, false, List, ℕ, ◌+◌, ◌<◌, drop}
use Rattle.program.specs.Class.{is_name}
use Rattle.program.specs.Prog.{scan_len, byte_at}
use Rattle.grammar.specs.Numbers.{digit_step, value_of}
use Rattle.lexer.specs.Step.{taken}

-- The digits at a place, which are a numeral by themselves: they end at i, where no byte of a name stands (256, the text's end, is none), and
-- their value is v.
pub record ShortAt (text : List ℕ) (at i v : ℕ) : Type 0 where
  pub some : at < i
  pub place : i ≡ at + scan_len digit_step 0 (drop at text)
  pub value : v ≡ value_of 0 (taken digit_step 0 (drop at text))
  pub ends : is_name (byte_at (drop i text)) ≡ false
