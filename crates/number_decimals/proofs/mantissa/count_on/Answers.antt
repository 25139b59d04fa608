-- Counts stop at 2^62, which is below the place where std's sum stops.
-- Assumes nothing.
use mathlib.Core.Path.{ap, ◌∙◌}
use Rattle.number_decimals.specs.Decimals.{counted}
use Rattle.number_decimals.proofs.Scale.{counted_top}
use Rattle.number_decimals.proofs.mantissa.count_on.Goals as goal

pub returns : goal.returns
returns c = c.count.ensures ∙ ap counted c.saturating_add.ensures ∙ counted_top _
