-- The table's words are those of the definition.
use Rattle.grammar.specs.Attributes.{calling_conventions}
use Rattle.attributes.proofs.cconv.Goals as goal

pub returns : goal.returns
unfolding calling_conventions
returns c = c.match_rank.ensures
