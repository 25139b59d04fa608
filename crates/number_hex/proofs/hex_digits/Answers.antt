-- From the cursor, or a refusal handed on.
use Rattle.number_hex.proofs.HexLaws.{hex_kept}
use Rattle.number_hex.proofs.hex_digits.Goals as goal

pub returns-in-Ok : goal.returns-in-Ok
returns-in-Ok c = rw c.in-Ok.is c.hex_at.ensures

pub returns-in-Err : goal.returns-in-Err
returns-in-Err c = rw c.in-Err.is (hex_kept c.in-Err.field-0.question c.in-Err.field-0.place c.no_hex.ensures)
