-- A name is one scan.
use Rattle.grammar.specs.Lexer.{name_step}
use Rattle.lexer_names.proofs.name_end.Goals as goal

pub returns : goal.returns
returns c = (c.scan_text.ensures name_step (λ q b r l h e. e)).place
