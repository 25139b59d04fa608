-- By the parts of the state.
-- Assumes nothing.
use Rattle.number_numerals.specs.Numerals.{part_pushed}
use Rattle.number_numerals.proofs.folds.part_digit.Goals as goal

pub returns : goal.returns
unfolding part_pushed
returns c = simp (c.count_on.ensures, c.digit.ensures)
