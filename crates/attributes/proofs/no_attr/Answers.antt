-- The table's words are those of the definition.
use Rattle.attributes.specs.Step.{no_attrs}
use Rattle.attributes.proofs.no_attr.Goals as goal

pub returns : goal.returns
unfolding no_attrs
returns c = c.match_rank.ensures
