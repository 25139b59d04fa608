-- The header is that of a node of its kind with one word behind it.
use Rattle.lexer.proofs.Laws.{done}
use Rattle.node_words.proofs.Laws.{push_then}
use Rattle.records.specs.Words.{node}
use Rattle.grammar.specs.Values.{float_node}
use Rattle.number_nodes.proofs.nodes.float_node.Goals as goal

pub returns : goal.returns
unfolding float_node node
returns c =
    λ text. push_then _ c.push-p1.ensures
    (push_then _ c.push.ensures done)
