-- By the parts of the state.
-- Assumes nothing.
use Rattle.number_numerals.specs.Numerals.{power_pushed}
use Rattle.number_numerals.proofs.folds.power_digit.Goals as goal

pub returns : goal.returns
unfolding power_pushed
returns c = simp c.shift.ensures
