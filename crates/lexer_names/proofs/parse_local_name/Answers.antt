-- The sigil is `%`.
use Rattle.grammar.specs.Lexer.{parse_local_name}
use Rattle.lexer_names.proofs.parse_local_name.Goals as goal

pub returns : goal.returns
unfolding parse_local_name
returns c = c.sigil_name.ensures
