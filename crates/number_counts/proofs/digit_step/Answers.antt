-- The tests of `digit_step` in their order.
use borrow.Author.Tests.{eq-eqb, ne_eqb, lt-ltb, le-ltb}
use Rattle.program.specs.Class.{is_digit}
use Rattle.grammar.specs.Numbers.{digit_step}
use Rattle.number_counts.proofs.digit_step.Goals as goal

pub returns-then-class-lt-DIGIT : goal.returns-then-class-lt-DIGIT
unfolding digit_step is_digit
returns-then-class-lt-DIGIT c = rw (← c.class.ensures, lt-ltb _ _ c.if-class-lt-DIGIT.true)

pub returns-then-q-eq0 : goal.returns-then-q-eq0
unfolding digit_step is_digit
returns-then-q-eq0 c =
    rw
    (← c.class.ensures, le-ltb _ _ c.if-class-lt-DIGIT.false, eq-eqb _ _ c.if-b-eq95.true, eq-eqb _ _ c.if-q-eq0.true)

pub returns-then-b-eq95 : goal.returns-then-b-eq95
unfolding digit_step is_digit
returns-then-b-eq95 c =
    rw
    (← c.class.ensures, le-ltb _ _ c.if-class-lt-DIGIT.false, eq-eqb _ _ c.if-b-eq95.true, ne_eqb _ _ c.if-q-eq0.false)

pub returns : goal.returns
unfolding digit_step is_digit
returns c =
    rw
    (← c.class.ensures, le-ltb _ _ c.if-class-lt-DIGIT.false, ne_eqb _ _ c.if-b-eq95.false)
