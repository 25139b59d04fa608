-- The fold's state says what the literal is; its refusal is behind the numeral.
use mathlib.Core.Path.{refl}
use Rattle.number_numerals.proofs.NumeralLaws.{behind_sign, literal_held, literal_out}
use Rattle.number_numerals.proofs.reads.parse_numeral.Goals as goal

pub returns-in-Ok : goal.returns-in-Ok
returns-in-Ok c = literal_held _ (behind_sign _ c.start.ensures c.pass_sign.ensures c.in_ok-n.ensures) _ c.in-Ok.ensures

pub returns-in-Err : goal.returns-in-Err
returns-in-Err c = λ v. literal_out _ (behind_sign _ c.start.ensures c.pass_sign.ensures c.in_ok-n.ensures) _ v c.in-Err.ensures refl
