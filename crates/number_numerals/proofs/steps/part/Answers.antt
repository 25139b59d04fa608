-- The tests of `part_next` in their order.
use borrow.Author.Tests.{lt-ltb, le-ltb}
use Rattle.program.specs.Class.{is_digit}
use Rattle.number_numerals.specs.Steps.{next_of}
use Rattle.number_numerals.specs.Numerals.{part_next}
use Rattle.number_numerals.proofs.steps.part.Goals as goal

pub returns-then-d-lt-DIGIT : goal.returns-then-d-lt-DIGIT
unfolding next_of part_next is_digit
returns-then-d-lt-DIGIT c = simp (← c.requires, lt-ltb _ _ c.if-d-lt-DIGIT.true)

pub returns : goal.returns
unfolding next_of part_next is_digit
returns c = simp (← c.requires, le-ltb _ _ c.if-d-lt-DIGIT.false, ← c.letter.ensures)
