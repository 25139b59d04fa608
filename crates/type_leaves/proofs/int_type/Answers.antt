-- The number is read, then the header and the number are written: the node's two words, in the definition's order.
use Rattle.lexer.proofs.Laws.{val}
use Rattle.node_words.proofs.Laws.{push_then}
use Rattle.type_leaves.proofs.LeafLaws.{done_as, headed}
use Rattle.records.specs.Words.{node}
use Rattle.grammar.specs.Types.{int_type}
use Rattle.type_leaves.proofs.int_type.Goals as goal

pub returns : goal.returns
unfolding int_type node
returns c =
    val _ c.parse_int-n.ensures
    (push_then _ c.push-q1.ensures
    (push_then _ c.push.ensures
    (done_as (headed _ 2 _ c.plain_header-h.ensures))))
