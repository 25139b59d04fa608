-- A zero is kept back; another digit takes the zeros before it along.
-- Assumes nothing.
use borrow.Author.Tests.{eq-eqb, ne_eqb}
use Rattle.number_decimals.specs.Decimals.{digit_pushed}
use Rattle.number_decimals.proofs.mantissa.digit.Goals as goal

pub returns-in_err-m : goal.returns-in_err-m
unfolding digit_pushed
returns-in_err-m c = simp (c.from_residual.ensures, c.in_err-m.was)

pub returns-then-d-ne0 : goal.returns-then-d-ne0
unfolding digit_pushed
returns-then-d-ne0 c = simp (c.in_ok-m.was, ne_eqb _ 0 c.if-d-ne0.true, c.significant.ensures)

pub returns-then-m-eq0 : goal.returns-then-m-eq0
unfolding digit_pushed
returns-then-m-eq0 c = simp (c.in_ok-m.was, eq-eqb _ 0 c.if-d-ne0.false, eq-eqb _ 0 c.if-m-eq0.true)

pub returns : goal.returns
unfolding digit_pushed
returns c =
    simp
    (c.in_ok-m.was, eq-eqb _ 0 c.if-d-ne0.false, ne_eqb _ 0 c.if-m-eq0.false, c.count_on.ensures)
