-- What reaches past the words is cut off.
use Rattle.record_blocks.proofs.Cuts.{node_none, node_there}
use Rattle.record_blocks.proofs.node_at.Goals as goal

pub returns-then-words-at : goal.returns-then-words-at
returns-then-words-at c = node_none c.args.words.now c.args.at c.if-words-at.true

pub returns : goal.returns
returns c = node_there c.args.words.now c.args.at c.min.result c.min.ensures
