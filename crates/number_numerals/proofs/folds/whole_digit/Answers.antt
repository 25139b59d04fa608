-- By the parts of the state.
-- Assumes nothing.
use Rattle.number_numerals.specs.Numerals.{whole_pushed}
use Rattle.number_numerals.proofs.folds.whole_digit.Goals as goal

pub returns : goal.returns
unfolding whole_pushed
returns c = simp (c.push.ensures, c.digit.ensures)
