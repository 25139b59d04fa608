-- The table's words are those of the definition.
use Rattle.grammar.specs.Attributes.{arith_flags, skip_arith_flags}
use Rattle.attributes.proofs.skip_arith_flags.Goals as goal

pub returns : goal.returns
unfolding arith_flags skip_arith_flags
returns c = c.skip_all.ensures
