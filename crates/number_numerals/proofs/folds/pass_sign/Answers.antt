-- By the parts of the state.
-- Assumes nothing.
use mathlib.Core.Path.{refl}
use Rattle.number_numerals.specs.Numerals.{sign_passed}
use Rattle.number_numerals.proofs.folds.pass_sign.Goals as goal

pub returns : goal.returns
unfolding sign_passed
returns c = refl
