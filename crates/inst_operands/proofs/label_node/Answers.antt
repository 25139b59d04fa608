-- The two words that are written, the constant header and the name, are the node's.
use Rattle.lexer.proofs.Laws.{done}
use Rattle.node_words.proofs.Laws.{push_then}
use Rattle.records.specs.Words.{node}
use Rattle.grammar.specs.Instructions.{label_node}
use Rattle.inst_operands.proofs.label_node.Goals as goal

pub returns : goal.returns
unfolding label_node node
returns c =
    λ text. push_then _ c.push-q.ensures
    (push_then _ c.push.ensures done)
