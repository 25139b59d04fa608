-- The tests of `whole_next` in their order; the class of a byte says whether it is a digit.
use borrow.Author.Tests.{eq-eqb, ne_eqb, lt-ltb, le-ltb}
use Rattle.program.specs.Class.{is_digit}
use Rattle.number_numerals.specs.Steps.{next_of}
use Rattle.number_numerals.specs.Numerals.{whole_next}
use Rattle.number_numerals.proofs.steps.whole.Goals as goal

pub returns-then-d-lt-DIGIT : goal.returns-then-d-lt-DIGIT
unfolding next_of whole_next is_digit
returns-then-d-lt-DIGIT c = simp (← c.requires, lt-ltb _ _ c.if-d-lt-DIGIT.true)

pub returns-then-b-eq46 : goal.returns-then-b-eq46
unfolding next_of whole_next is_digit
returns-then-b-eq46 c = simp (← c.requires, le-ltb _ _ c.if-d-lt-DIGIT.false, eq-eqb _ _ c.if-b-eq46.true)

pub returns : goal.returns
unfolding next_of whole_next is_digit
returns c =
    simp
    (← c.requires, le-ltb _ _ c.if-d-lt-DIGIT.false, ne_eqb _ _ c.if-b-eq46.false, ← c.letter.ensures)
