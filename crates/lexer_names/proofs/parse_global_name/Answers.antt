-- The sigil is `@`.
use Rattle.grammar.specs.Lexer.{parse_global_name}
use Rattle.lexer_names.proofs.parse_global_name.Goals as goal

pub returns : goal.returns
unfolding parse_global_name
returns c = c.sigil_name.ensures
