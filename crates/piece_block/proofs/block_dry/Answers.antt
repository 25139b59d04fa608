-- An array of no words holds none of the piece's, and their number is told all the same.
use mathlib.Core.Path.{sym, ap}
use lib.ListN.{drop}
use Rattle.grammar.specs.Function.{block_at}
use Rattle.piece_directory.proofs.Stretch.{to_end}
use Rattle.piece_block.proofs.PartLaws.{block_dry}
use Rattle.piece_block.proofs.block_dry.Goals as goal

pub returns : goal.returns
returns c =
    block_dry c.args.counter (drop c.args.pos c.args.text.now) (ap (block_at c.args.counter)
    (sym (to_end c.args.pos c.args.text.now))) c.parse_block.ensures.0
