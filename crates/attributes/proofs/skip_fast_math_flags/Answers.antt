-- The table's words are those of the definition.
use Rattle.grammar.specs.Attributes.{fast_math_flags, skip_fast_math_flags}
use Rattle.attributes.proofs.skip_fast_math_flags.Goals as goal

pub returns : goal.returns
unfolding fast_math_flags skip_fast_math_flags
returns c = c.skip_all.ensures
