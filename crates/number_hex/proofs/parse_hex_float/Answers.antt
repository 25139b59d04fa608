-- The digits folded, and their literal.
use Rattle.number_hex.proofs.HexLaws.{bits_hex}
use Rattle.number_hex.proofs.parse_hex_float.Goals as goal

pub returns : goal.returns
returns c = bits_hex c.hex_digits-x.ensures c.hex_literal.ensures (c.bits_of.ensures _)
