-- The byte's class says whether it is a digit.
use borrow.Author.Tests.{lt-ltb, le-ltb}
use Rattle.program.specs.Class.{is_digit}
use Rattle.grammar.specs.Attributes.{group_step}
use Rattle.attributes.proofs.group_step.Goals as goal

pub returns-then-class-lt-DIGIT : goal.returns-then-class-lt-DIGIT
unfolding group_step is_digit
returns-then-class-lt-DIGIT c = rw (← c.class.ensures, lt-ltb _ _ c.if-class-lt-DIGIT.true)

pub returns-else-class-lt-DIGIT : goal.returns-else-class-lt-DIGIT
unfolding group_step is_digit
returns-else-class-lt-DIGIT c = rw (← c.class.ensures, le-ltb _ _ c.if-class-lt-DIGIT.false)
