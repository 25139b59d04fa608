-- By the sign.
-- Assumes nothing.
use Rattle.number_integers.proofs.Magnitudes.{largest_plus, largest_minus}
use Rattle.number_integers.proofs.integer.largest.Goals as goal

pub returns-then-neg : goal.returns-then-neg
returns-then-neg c = largest_minus _ c.if-neg.true

pub returns-else-neg : goal.returns-else-neg
returns-else-neg c = largest_plus _ c.if-neg.false
