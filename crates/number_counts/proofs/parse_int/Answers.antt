-- From the cursor, or a refusal handed on.
use Rattle.lexer.proofs.Laws.{handed}
use Rattle.number_counts.proofs.parse_int.Goals as goal

pub returns-in-Ok : goal.returns-in-Ok
returns-in-Ok c = rw c.in-Ok.is c.int_at.ensures

pub returns-in-Err : goal.returns-in-Err
returns-in-Err c = handed c.in-Err.is c.in-Err.is
