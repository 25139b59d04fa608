-- A slot and two words are written, 0 and the number, and the header, written last, makes them the definition's node.
use Rattle.node_words.proofs.Laws.{push_then, close_is}
use Rattle.value_leaves.proofs.bool_node.Goals as goal

pub returns : goal.returns
returns c =
    λ text. push_then _ c.push-q.ensures
    (push_then _ c.push-q1.ensures
    (push_then _ c.push-q2.ensures (close_is _ _ _ _ c.close.ensures)))
