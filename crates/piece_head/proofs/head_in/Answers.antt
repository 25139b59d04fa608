-- The stretch lent is the words from `word` up to `to`, so only these change.
use mathlib.Core.Path.{refl, ◌∙◌}
use borrow.Rule.Slice.PartMut.{mid_len}
use Rattle.piece_head.proofs.PartLaws.{head_in}
use Rattle.piece_head.proofs.head_in.Goals as goal

pub returns : goal.returns
returns c =
    head_in c.args.word c.args.to c.args.words.now c.parse_head.new.words c.requires.word_le_to.0 c.requires.word_le_to.1 (c.parse_head.ensures.1 ∙ mid_len c.args.word c.args.to c.args.words.now c.requires.word_le_to.1) c.args.text.now refl c.parse_head.ensures.0
