-- The first byte decides.
use mathlib.Core.Path.{refl, ◌∙◌}
use Rattle.lexer_spelling.proofs.Letters.{quoted_first}
use Rattle.lexer_spelling.proofs.is_quoted.Goals as goal

pub returns : goal.returns
returns c = c.eq.ensures ∙ quoted_first c.args.raw.now c.first.result _ refl c.first.ensures.value
