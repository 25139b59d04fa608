-- The table's words are those of the definition.
use Rattle.grammar.specs.Attributes.{paren_attrs}
use Rattle.attributes.proofs.paren_attr.Goals as goal

pub returns : goal.returns
unfolding paren_attrs
returns c = c.match_rank.ensures
