-- The two slots are pushed at the start of an empty array, so the body stands behind them, and the law of the tail and that of the block say what
-- the piece is.
use Rattle.piece_block.proofs.BlockLaws.{tail_is, block_is}
use borrow.Author.Rules.{rules}
use Rattle.piece_block.proofs.parse_block.Goals as goal

pub returns-then-b : goal.returns-then-b
returns-then-b c =
    (tail_is c.args.counter c.args.words.now c.requires c.push-r.ensures c.push-r1.ensures c.parse_body-b.ensures c.if-b.true c.tail_of.ensures, search rules)

pub returns : goal.returns
returns c =
    (block_is c.args.counter c.args.words.now c.requires c.push-r.ensures c.push-r1.ensures c.parse_body-b.ensures c.if-b.false c.finish_block-r2.ensures c.piece_of.ensures, search rules)
