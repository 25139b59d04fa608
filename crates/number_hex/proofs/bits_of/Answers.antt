-- By the bits.
use Rattle.number_hex.proofs.HexLaws.{bits_ok, bits_err}
use Rattle.number_hex.proofs.bits_of.Goals as goal

pub returns-in-Ok : goal.returns-in-Ok
returns-in-Ok c = λ text. bits_ok _ c.in-Ok.is

pub returns-in-Err : goal.returns-in-Err
returns-in-Err c = λ text. bits_err _ c.in-Err.is c.refuse-q.ensures
