-- Piece 0 is the head, any other a block or the tail.
use Rattle.reread_passes.proofs.Dry.{head_first, block_later}
use Rattle.reread_passes.proofs.numbered.piece_dry.Goals as goal

pub returns-then-spot-eq0 : goal.returns-then-spot-eq0
returns-then-spot-eq0 c =
    head_first c.args.text.now c.args.spot.number c.args.spot.pos c.args.spot.counter c.head_dry.result c.if-spot-eq0.true c.requires.pos_value c.head_dry.ensures

pub returns : goal.returns
returns c =
    block_later c.args.text.now c.args.spot.number c.args.spot.pos c.args.spot.counter c.block_dry.result c.if-spot-eq0.false c.requires.text_len_bound.1 c.block_dry.ensures
