-- The header is that of a node of its kind with two words behind it.
use Rattle.lexer.proofs.Laws.{done}
use Rattle.node_words.proofs.Laws.{push_then}
use Rattle.records.specs.Words.{node}
use Rattle.number_nodes.proofs.nodes.int_node.Goals as goal

pub returns : goal.returns
unfolding node
returns c =
    λ text. push_then _ c.push-q.ensures
    (push_then _ c.push-q1.ensures (push_then _ c.push.ensures done))
