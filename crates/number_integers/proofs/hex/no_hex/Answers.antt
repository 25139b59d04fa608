-- No digits.
-- Assumes nothing.
use mathlib.Core.Path.{refl}
use Rattle.number_integers.specs.Hex.{hex_held}
use Rattle.number_integers.proofs.hex.no_hex.Goals as goal

pub returns : goal.returns
unfolding hex_held
returns c = refl
