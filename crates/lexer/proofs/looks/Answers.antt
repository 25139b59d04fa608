-- At a cursor by `at_byte`; a refusal looks at nothing.
use Rattle.lexer.proofs.looks.Goals as goal

pub returns-in-Ok : goal.returns-in-Ok
returns-in-Ok c = rw c.in-Ok.is c.at_byte.ensures
