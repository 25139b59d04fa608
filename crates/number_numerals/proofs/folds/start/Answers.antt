-- By the parts of the state.
-- Assumes nothing.
use Rattle.number_numerals.specs.Numerals.{started}
use Rattle.number_integers.specs.Integers.{magnitude_of}
use Rattle.number_bits.specs.Number.{capped}
use Rattle.number_numerals.proofs.folds.start.Goals as goal

pub returns : goal.returns
unfolding started magnitude_of capped
returns c = simp c.no_digits.ensures
