-- Ten times the value and the digit fit 64 bits exactly where std's two checked steps say so.
use mathlib.Core.Path.{◌∙◌}
use Rattle.number_bits.proofs.Shifts.{shift_stays, shift_over, shift_sum}
use Rattle.number_bits.proofs.shift.Goals as goal

pub returns-in_err-n : goal.returns-in_err-n
returns-in_err-n c = c.from_residual.ensures ∙ shift_stays _ _ c.in_err-n.was

pub returns-in_err-checked_mul : goal.returns-in_err-checked_mul
returns-in_err-checked_mul c =
    c.from_residual-in_err-checked_mul.ensures ∙ shift_over _ _ _ c.in_ok-n.was c.in_err-checked_mul.ensures

pub returns : goal.returns
returns c = shift_sum _ _ _ _ _ _ c.in_ok-n.was c.in_ok-checked_mul.ensures.1 c.from.ensures c.checked_add.ensures
