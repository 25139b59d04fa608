-- The kind is asked first, then the name, which is read from its start to its end.
use mathlib.Core.Path.{◌∙◌}
use Rattle.channel_calls.proofs.Nodes.{fire_there, fire_not}
use Rattle.channel_calls.proofs.is_fire.Goals as goal

pub returns-then-kind-ne-K_GLOBAL : goal.returns-then-kind-ne-K_GLOBAL
returns-then-kind-ne-K_GLOBAL c = fire_not _ _ _ c.if-kind-ne-K_GLOBAL.true

pub returns : goal.returns
returns c = c.spells.ensures ∙ fire_there _ _ _ _ c.if-kind-ne-K_GLOBAL.false c.text_in-raw.ensures
