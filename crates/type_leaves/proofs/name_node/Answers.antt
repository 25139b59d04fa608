-- The name's word is read, then the header and the word are written: the node's two words, in the definition's order.
use Rattle.lexer.proofs.Laws.{val}
use Rattle.node_words.proofs.Laws.{push_then}
use Rattle.type_leaves.proofs.LeafLaws.{done_as, headed}
use Rattle.records.specs.Words.{node}
use Rattle.grammar.specs.Types.{name_node}
use Rattle.type_leaves.proofs.name_node.Goals as goal

pub returns : goal.returns
unfolding name_node node
returns c =
    val _ c.name_word-n.ensures
    (push_then _ c.push-q1.ensures
    (push_then _ c.push.ensures
    (done_as (headed _ _ _ c.plain_header-h.ensures))))
