-- An array of no words holds none of the piece's, and their number is told all the same.
use mathlib.Core.Path.{refl}
use Rattle.piece_head.proofs.PartLaws.{head_dry}
use Rattle.piece_head.proofs.head_dry.Goals as goal

pub returns : goal.returns
returns c = head_dry c.args.text.now refl c.parse_head.ensures.0
