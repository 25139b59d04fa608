-- The text from pos on is what the reader of a block is told of, and the stretch lent is all that changes.
use mathlib.Core.Path.{sym, ap, ◌∙◌}
use lib.ListN.{drop}
use borrow.Rule.Slice.PartMut.{mid_len}
use Rattle.grammar.specs.Function.{block_at}
use Rattle.piece_directory.proofs.Stretch.{to_end}
use Rattle.piece_block.proofs.PartLaws.{block_in}
use Rattle.piece_block.proofs.block_in.Goals as goal

pub returns : goal.returns
returns c =
    block_in c.args.spot.word c.args.to c.args.words.now c.parse_block.new.words c.requires.word_le_to.0 c.requires.word_le_to.1 (c.parse_block.ensures.1 ∙ mid_len c.args.spot.word c.args.to c.args.words.now c.requires.word_le_to.1) c.args.spot.counter (drop c.args.spot.pos c.args.text.now) (ap (block_at c.args.spot.counter)
    (sym
    (to_end c.args.spot.pos c.args.text.now))) c.parse_block.ensures.0
