-- Counts stop at 2^62.
-- Assumes nothing.
use mathlib.Core.Path.{◌∙◌}
use Rattle.number_decimals.proofs.Scale.{counted_min}
use Rattle.number_decimals.proofs.mantissa.count.Goals as goal

pub returns : goal.returns
returns c = c.min.ensures ∙ counted_min c.args.n
