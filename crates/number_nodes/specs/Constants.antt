-- What the reader of numeric constants holds of its program.
-- Assumes nothing.
use Rattle.std.specs.Prelude.{false, true, List, [], ℕ, Option, MatchOption}
use Rattle.program.specs.Bytes.{bytes}
use Rattle.program.specs.Prog.{Prog, ◌>>=◌}
use Rattle.grammar.specs.Numbers.{parse_hex_float, parse_f0x}
use Rattle.grammar.specs.Values.{prefix_if, float_node, numeral, numeric_or}
use Rattle.lexer.specs.Reads.{made, Leads, same}
use Rattle.lexer.specs.Parsed.{Parsed}

-- the node of a float's bits, behind `0x` and behind `f0x`
abbrev pub hex_value : Prog (List ℕ)
hex_value = parse_hex_float >>= float_node

abbrev pub f0x_value : Prog (List ℕ)
f0x_value = parse_f0x >>= float_node

-- behind `+`, behind `-`, at a digit: the parts of `numeric_or`
abbrev pub plus_value : Prog (List ℕ)
plus_value = prefix_if (bytes "inf") (float_node 0x7FF0_0000_0000_0000) (prefix_if (bytes "qnan") (float_node 0x7FF8_0000_0000_0000) (numeral false))

abbrev pub minus_value : Prog (List ℕ)
minus_value = prefix_if (bytes "inf") (float_node 0xFFF0_0000_0000_0000) (numeral true)

abbrev pub digit_value : Prog (List ℕ)
digit_value = prefix_if (bytes "0x") hex_value (prefix_if (bytes "0X") hex_value (numeral false))

-- a numeric constant is read
abbrev pub IsRead : List ℕ → Parsed → List ℕ → Parsed → List ℕ → Type 0
IsRead text p words p' words' = (g : Prog (List ℕ)) → Leads (numeric_or g) 0 [] (made same text p) text p p words p' words'

-- there is none, and the program goes on as it would here
pub record IsNone (text : List ℕ) (p : Parsed) (words words' : List ℕ) : Type 0 where
  pub on : (g : Prog (List ℕ)) {q : Parsed} {v : List ℕ} → Leads g 0 [] (made same text p) text p p words' q v → Leads (numeric_or g) 0 [] (made same text p) text p p words q v

-- one or the other
abbrev pub NumericVal : List ℕ → Parsed → List ℕ → Option Parsed → List ℕ → Type 0
NumericVal text p words r words' = MatchOption r (IsNone text p words words') (λ p'. IsRead text p words p' words')
