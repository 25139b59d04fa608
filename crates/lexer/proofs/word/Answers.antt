-- At a cursor by `at_word`; a refusal has no word.
use Rattle.lexer.proofs.word.Goals as goal

pub returns-in-Ok : goal.returns-in-Ok
returns-in-Ok c = rw c.in-Ok.is c.at_word.ensures
