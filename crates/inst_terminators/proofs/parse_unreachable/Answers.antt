-- The end stands behind the header's slot, as in the definition.
use Rattle.node_words.proofs.Laws.{push_then}
use Rattle.grammar.specs.Instructions.{parse_unreachable}
use Rattle.inst_terminators.proofs.parse_unreachable.Goals as goal

pub returns : goal.returns
unfolding parse_unreachable
returns c =
    push_then _ c.push-q.ensures (c.end.ensures _)
