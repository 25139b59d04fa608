-- The head's reader is called at the start of the text, with the header's word and the name's paid for, and `piece_of` passes its answer on.
use Rattle.piece_head.proofs.HeadLaws.{head_is}
use Rattle.piece_head.proofs.parse_head.Goals as goal

pub returns : goal.returns
returns c = (
  rw c.piece_of.ensures
      (head_is _ c.requires c.head_node-h.ensures),
  c.head_node-h.auto.words,
)
