-- What reaches past the text is cut off.
use Rattle.record_blocks.proofs.Cuts.{piece_there}
use Rattle.record_blocks.proofs.piece_text.Goals as goal

pub returns : goal.returns
returns c = piece_there c.args.text.now c.args.x c.min-start.result c.min.result c.min-start.ensures c.min.ensures
