-- Infinity, and NaN with its quiet bit.
-- Assumes nothing.
use native.Mathlib.Omega.{arith}
use Rattle.number_integers.proofs.Widen.{infinity_is, quiet_is, loud_is}
use Rattle.number_integers.proofs.hex.special.Goals as goal

pub returns-then-f-eq0 : goal.returns-then-f-eq0
returns-then-f-eq0 c = (infinity_is c.args.f c.if-f-eq0.true, omega arith)

pub returns-then-f-ge-QUIET32 : goal.returns-then-f-ge-QUIET32
returns-then-f-ge-QUIET32 c = (quiet_is c.args.f c.if-f-eq0.false c.if-f-ge-QUIET32.true, omega arith)

pub returns : goal.returns
returns c = (loud_is c.args.f c.if-f-eq0.false c.if-f-ge-QUIET32.false, omega arith)
