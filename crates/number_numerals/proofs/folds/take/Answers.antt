-- Phase by phase; the class of a digit is its value.
use borrow.Author.Tests.{eq-eqb, ne_eqb}
use Rattle.number_numerals.specs.Numerals.{taken_in, pushed_in}
use Rattle.number_numerals.proofs.folds.take.Goals as goal

pub returns-then-b-eq95 : goal.returns-then-b-eq95
unfolding taken_in pushed_in
returns-then-b-eq95 c = simp (eq-eqb _ _ c.if-b-eq95.true)

pub returns-in-Start : goal.returns-in-Start
unfolding taken_in pushed_in
returns-in-Start c = simp (ne_eqb _ _ c.if-b-eq95.false, c.in-Start.is)

pub returns-in-Front : goal.returns-in-Front
unfolding taken_in pushed_in
returns-in-Front c =
    simp
    (ne_eqb _ _ c.if-b-eq95.false, c.in-Front.is, ← c.pass_sign.ensures)

pub returns-in-Whole : goal.returns-in-Whole
unfolding taken_in pushed_in
returns-in-Whole c =
    simp
    (← c.requires, ne_eqb _ _ c.if-b-eq95.false, c.in-Whole.is, ← c.whole_digit.ensures)

pub returns-in-Point : goal.returns-in-Point
unfolding taken_in pushed_in
returns-in-Point c =
    simp
    (ne_eqb _ _ c.if-b-eq95.false, c.in-Point.is, ← c.in_phase.ensures)

pub returns-in-Behind : goal.returns-in-Behind
unfolding taken_in pushed_in
returns-in-Behind c =
    simp
    (← c.requires, ne_eqb _ _ c.if-b-eq95.false, c.in-Behind.is, ← c.part_digit.ensures)

pub returns-in-Letter : goal.returns-in-Letter
unfolding taken_in pushed_in
returns-in-Letter c =
    simp
    (ne_eqb _ _ c.if-b-eq95.false, c.in-Letter.is, ← c.in_phase-in-Letter.ensures)

pub returns-in-Sign : goal.returns-in-Sign
unfolding taken_in pushed_in
returns-in-Sign c =
    simp
    (ne_eqb _ _ c.if-b-eq95.false, c.in-Sign.is, ← c.power_sign.ensures)

pub returns-in-Power : goal.returns-in-Power
unfolding taken_in pushed_in
returns-in-Power c =
    simp
    (← c.requires, ne_eqb _ _ c.if-b-eq95.false, c.in-Power.is, ← c.power_digit.ensures)
