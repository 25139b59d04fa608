-- The range, then the sign.
-- Assumes nothing.
use mathlib.Core.Path.{◌∙◌}
use native.Mathlib.Omega.{arith}
use Rattle.number_integers.proofs.Magnitudes.{signed_stays, signed_out, signed_plus, signed_minus}
use Rattle.number_integers.proofs.integer.signed.Goals as goal

pub returns-in_err-v : goal.returns-in_err-v
returns-in_err-v c = c.from_residual.ensures ∙ signed_stays c.args.neg _ c.in_err-v.was

pub returns-then-largest-v : goal.returns-then-largest-v
returns-then-largest-v c = signed_out _ _ _ c.in_ok-v.was (rw c.largest.ensures at c.if-largest-v.true)

pub returns-then-neg : goal.returns-then-neg
returns-then-neg c =
    signed_minus _ _ _ c.in_ok-v.was _ c.if-neg.true (rw c.largest.ensures at c.if-largest-v.false) (omega arith) (omega arith) c.wrapping_neg.ensures

pub returns : goal.returns
returns c = signed_plus _ _ _ c.in_ok-v.was c.if-neg.false (rw c.largest.ensures at c.if-largest-v.false)
