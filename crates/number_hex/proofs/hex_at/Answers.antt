use Rattle.number_hex.proofs.HexLaws.{hex_here, hex_more, hex_stop, hex_past}
use Rattle.lexer.proofs.Folding.{folding_start}
use Rattle.number_hex.proofs.hex_at.Goals as goal

pub loop-i-init : goal.loop-i-init
loop-i-init c = rw c.no_hex-h.ensures (folding_start _ _ _ _ _)

pub returns-then-d-ge-HEX : goal.returns-then-d-ge-HEX
returns-then-d-ge-HEX c = hex_here _ (hex_stop c.loop-i.invariant c.loop-i-test.true c.class-d.ensures c.if-d-ge-HEX.true)

pub loop-i-preserved : goal.loop-i-preserved
loop-i-preserved c = hex_more c.loop-i.invariant c.loop-i-test.true c.class-d.ensures c.if-d-ge-HEX.false c.push_hex-h.ensures

pub returns : goal.returns
returns c = hex_here _ (hex_past c.loop-i.invariant c.loop-i.auto.i c.loop-i-test.false c.max.ensures)
