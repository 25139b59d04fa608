-- The digits folded, and their literal.
use Rattle.number_hex.proofs.HexLaws.{bits_f0x}
use Rattle.number_hex.proofs.parse_f0x.Goals as goal

pub returns : goal.returns
returns c = bits_f0x c.hex_digits-x.ensures c.f0x_literal.ensures (c.bits_of.ensures _)
