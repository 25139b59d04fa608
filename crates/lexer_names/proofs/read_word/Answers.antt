-- At a cursor by `word_at`; a refusal is handed on.
use Rattle.lexer_names.proofs.Strings.{word_kept}
use Rattle.lexer_names.proofs.read_word.Goals as goal

pub returns-in-Err : goal.returns-in-Err
returns-in-Err c = rw (c.in-Err.is, c.no_word.ensures) (word_kept _ _ _)
