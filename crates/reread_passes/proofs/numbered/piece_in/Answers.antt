-- Piece 0 is the head, any other a block or the tail.
use Rattle.reread_passes.proofs.Dry.{head_first_in, block_later_in}
use Rattle.reread_passes.proofs.numbered.piece_in.Goals as goal

pub returns-then-spot-eq0 : goal.returns-then-spot-eq0
returns-then-spot-eq0 c =
    head_first_in c.args.text.now c.args.spot.number c.args.spot.pos c.args.spot.word c.args.spot.counter c.args.to c.args.words.now c.head_in.new.words c.head_in.result c.if-spot-eq0.true c.head_in.ensures

pub returns : goal.returns
returns c =
    block_later_in c.args.text.now c.args.spot.number c.args.spot.pos c.args.spot.word c.args.spot.counter c.args.to c.args.words.now c.block_in.new.words c.block_in.result c.if-spot-eq0.false c.block_in.ensures
