-- The table's words are those of the definition.
use Rattle.grammar.specs.Attributes.{conv_flags}
use Rattle.attributes.proofs.skip_conv_flags.Goals as goal

pub returns : goal.returns
unfolding conv_flags
returns c = c.skip_all.ensures
