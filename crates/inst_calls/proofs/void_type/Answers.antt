-- The type's first word comes to stand in the one word that is lent.
use native.Mathlib.Omega.{arith}
use Rattle.inst_calls.proofs.VoidLaws.{type_void}
use Rattle.inst_calls.proofs.void_type.Goals as goal

pub returns-then-dest-ne0 : goal.returns-then-dest-ne0
returns-then-dest-ne0 c = λ z. absurd (c.if-dest-ne0.true z)

pub returns : goal.returns
returns c = λ z. type_void c.resume-q.ensures c.parse_type-q1.ensures (omega (arith, c.parse_type-q1.auto.words)) c.is_void.ensures
