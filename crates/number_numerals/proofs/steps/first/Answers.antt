-- The sign or a digit, in the order of `first_next`.
use borrow.Author.Tests.{lt-ltb, le-ltb}
use Rattle.program.specs.Class.{is_digit}
use Rattle.number_numerals.specs.Steps.{next_of}
use Rattle.number_numerals.specs.Numerals.{first_next}
use Rattle.number_numerals.proofs.steps.first.Goals as goal

pub returns-then-is_sign : goal.returns-then-is_sign
unfolding next_of first_next is_digit
returns-then-is_sign c = simp (← c.is_sign.ensures, c.if-is_sign.true)

pub returns-then-d-lt-DIGIT : goal.returns-then-d-lt-DIGIT
unfolding next_of first_next is_digit
returns-then-d-lt-DIGIT c =
    simp
    (← c.requires, ← c.is_sign.ensures, c.if-is_sign.false, lt-ltb _ _ c.if-d-lt-DIGIT.true)

pub returns : goal.returns
unfolding next_of first_next is_digit
returns c =
    simp
    (← c.requires, ← c.is_sign.ensures, c.if-is_sign.false, le-ltb _ _ c.if-d-lt-DIGIT.false)
