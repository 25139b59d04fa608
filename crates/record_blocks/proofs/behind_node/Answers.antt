-- What reaches past the words is cut off.
use Rattle.record_blocks.proofs.Cuts.{behind_none, behind_there}
use Rattle.record_blocks.proofs.behind_node.Goals as goal

pub returns-then-words-at : goal.returns-then-words-at
returns-then-words-at c = behind_none c.args.words.now c.args.at c.if-words-at.true

pub returns : goal.returns
returns c = behind_there c.args.words.now c.args.at c.min.result c.min.ensures
