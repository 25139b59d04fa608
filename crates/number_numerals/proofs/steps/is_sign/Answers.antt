-- One sign, then the other.
use borrow.Author.Tests.{eq-eqb, ne_eqb}
use Rattle.number_numerals.specs.Numerals.{is_sign}
use Rattle.number_numerals.proofs.steps.is_sign.Goals as goal

pub returns-then-b-eq43 : goal.returns-then-b-eq43
unfolding is_sign
returns-then-b-eq43 c = simp (eq-eqb _ _ c.if-b-eq43.true)

pub returns-else-b-eq43 : goal.returns-else-b-eq43
unfolding is_sign
returns-else-b-eq43 c = simp (ne_eqb _ _ c.if-b-eq43.false)
