-- By the parts of the state.
-- Assumes nothing.
use mathlib.Core.Path.{refl}
use Rattle.number_numerals.specs.Numerals.{power_signed}
use Rattle.number_numerals.proofs.folds.power_sign.Goals as goal

pub returns : goal.returns
unfolding power_signed
returns c = refl
