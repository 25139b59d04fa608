-- It is one scan.
use Rattle.lexer_names.specs.Names.{plain_step}
use Rattle.lexer_names.proofs.skips.plain_end.Goals as goal

pub returns : goal.returns
returns c = (c.scan_text.ensures plain_step (λ q b r l h e. e)).place
