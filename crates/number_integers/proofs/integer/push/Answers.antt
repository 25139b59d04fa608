-- Ten times the value and the digit fit 128 bits exactly where std's two checked steps say so.
-- Assumes nothing.
use mathlib.Core.Path.{◌∙◌}
use Rattle.number_integers.proofs.Magnitudes.{push_stays, push_over, push_sum}
use Rattle.number_integers.proofs.integer.push.Goals as goal

pub returns-in_err-a : goal.returns-in_err-a
returns-in_err-a c = c.from_residual.ensures ∙ push_stays _ _ c.in_err-a.was

pub returns-in_err-checked_mul : goal.returns-in_err-checked_mul
returns-in_err-checked_mul c =
    c.from_residual-in_err-checked_mul.ensures ∙ push_over _ _ _ c.in_ok-a.was c.in_err-checked_mul.ensures

pub returns : goal.returns
returns c = push_sum _ _ _ _ _ _ c.in_ok-a.was c.in_ok-checked_mul.ensures.1 c.from.ensures c.checked_add.ensures
