-- The table's words are those of the definition.
use Rattle.grammar.specs.Attributes.{flag_attrs}
use Rattle.attributes.proofs.flag_attr.Goals as goal

pub returns : goal.returns
unfolding flag_attrs
returns c = c.match_rank.ensures
