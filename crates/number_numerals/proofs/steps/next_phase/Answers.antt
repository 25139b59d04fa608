-- Phase by phase; an underscore first, where a digit was passed, a sign first, where one may stand.
use borrow.Author.Tests.{eq-eqb, ne_eqb}
use Rattle.number_numerals.specs.Steps.{next_of}
use Rattle.number_numerals.specs.Numerals.{next_phase}
use Rattle.number_numerals.proofs.steps.next_phase.Goals as goal

pub returns-then-b-eq95 : goal.returns-then-b-eq95
unfolding next_of next_phase
returns-then-b-eq95 c = simp (c.in-Whole.is, eq-eqb _ _ c.if-b-eq95.true)

pub returns-then-b-eq95-2 : goal.returns-then-b-eq95-2
unfolding next_of next_phase
returns-then-b-eq95-2 c = simp (c.in-Behind.is, eq-eqb _ _ c.if-b-eq95-2.true)

pub returns-then-is_sign : goal.returns-then-is_sign
unfolding next_of next_phase
returns-then-is_sign c = simp (c.in-Letter.is, ← c.is_sign.ensures, c.if-is_sign.true)

pub returns-then-b-eq95-3 : goal.returns-then-b-eq95-3
unfolding next_of next_phase
returns-then-b-eq95-3 c = simp (c.in-Power.is, eq-eqb _ _ c.if-b-eq95-3.true)

pub returns-in-Start : goal.returns-in-Start
unfolding next_of next_phase
returns-in-Start c = simp (c.in-Start.is, ← c.first.ensures)

pub returns-in-Front : goal.returns-in-Front
unfolding next_of next_phase
returns-in-Front c = simp (c.in-Front.is, ← c.whole.ensures)

pub returns-else-b-eq95 : goal.returns-else-b-eq95
unfolding next_of next_phase
returns-else-b-eq95 c =
    simp
    (c.in-Whole.is, ne_eqb _ _ c.if-b-eq95.false, ← c.whole-in-Whole.ensures)

pub returns-in-Point : goal.returns-in-Point
unfolding next_of next_phase
returns-in-Point c = simp (c.in-Point.is, ← c.part.ensures)

pub returns-else-b-eq95-2 : goal.returns-else-b-eq95-2
unfolding next_of next_phase
returns-else-b-eq95-2 c =
    simp
    (c.in-Behind.is, ne_eqb _ _ c.if-b-eq95-2.false, ← c.part-in-Behind.ensures)

pub returns-else-is_sign : goal.returns-else-is_sign
unfolding next_of next_phase
returns-else-is_sign c = simp (c.in-Letter.is, ← c.is_sign.ensures, c.if-is_sign.false, ← c.power.ensures)

pub returns-in-Sign : goal.returns-in-Sign
unfolding next_of next_phase
returns-in-Sign c = simp (c.in-Sign.is, ← c.power-in-Sign.ensures)

pub returns-else-b-eq95-3 : goal.returns-else-b-eq95-3
unfolding next_of next_phase
returns-else-b-eq95-3 c =
    simp
    (c.in-Power.is, ne_eqb _ _ c.if-b-eq95-3.false, ← c.power-in-Power.ensures)
