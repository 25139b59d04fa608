-- What the readers of the bits of floats hold of their programs.
-- Assumes nothing.
use Rattle.std.specs.Prelude.{◌≡◌, true, List, ℕ, Option}
use Rattle.program.specs.Prog.{ret, scan}
use Rattle.grammar.specs.Numbers.{hex_step}
use Rattle.lexer.specs.Reads.{Gives}
use Rattle.lexer.specs.Parsed.{Parsed}
use Rattle.number_integers.specs.Hex.{hex_held, hex_folded, all_hex}
use Rattle.number_integers.specs.declared.hex.Hex.{Hex}

-- The hex digits at p.
pub record HexAt (text : List ℕ) (p p' : Parsed) (h : Option Hex) : Type 0 where
  pub run : List ℕ
  pub gives : Gives (scan hex_step 0 ret) run text p p'
  pub state : h ≡ hex_folded (hex_held 0 0) run
  pub all : all_hex run ≡ true
