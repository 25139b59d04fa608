-- Past the words stands no global; inside them the code asks what the definition asks.
use mathlib.Core.Path.{◌∙◌}
use Rattle.channel_spec.specs.Fires.{calls_fire_at}
use Rattle.channel_calls.proofs.Nodes.{past_fire}
use Rattle.channel_calls.proofs.calls_fire_at.Goals as goal

pub returns-then-node-at : goal.returns-then-node-at
returns-then-node-at c =
    rw c.in-Some.is
    (past_fire _ c.args.node.now _ c.if-node-at.true)

pub returns-else-node-at : goal.returns-else-node-at
unfolding calls_fire_at
returns-else-node-at c = c.is_fire.ensures ∙ rw (c.in-Some.is, c.kind_in-kind.ensures, c.word_at.ensures, c.word_at-in-Some.ensures)

pub returns-in-None : goal.returns-in-None
unfolding calls_fire_at
returns-in-None c = rw c.in-None.is
