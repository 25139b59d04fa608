-- By the parts of the state.
-- Assumes nothing.
use mathlib.Core.Path.{refl}
use Rattle.number_numerals.specs.Numerals.{in_phase}
use Rattle.number_numerals.proofs.folds.in_phase.Goals as goal

pub returns : goal.returns
unfolding in_phase
returns c = refl
