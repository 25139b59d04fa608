-- The table's words are those of the definition.
use Rattle.grammar.specs.Attributes.{linkages}
use Rattle.attributes.proofs.linkage.Goals as goal

pub returns : goal.returns
unfolding linkages
returns c = c.match_rank.ensures
