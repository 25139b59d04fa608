-- The byte's class says whether it is one of a name.
use borrow.Author.Tests.{le-leb, lt-leb}
use Rattle.program.specs.Class.{is_name}
use Rattle.grammar.specs.Lexer.{name_step}
use Rattle.lexer_names.proofs.name_step.Goals as goal

pub returns-then-class-le-NAME : goal.returns-then-class-le-NAME
unfolding name_step is_name
returns-then-class-le-NAME c = rw (← c.class.ensures, le-leb _ _ c.if-class-le-NAME.true)

pub returns-else-class-le-NAME : goal.returns-else-class-le-NAME
unfolding name_step is_name
returns-else-class-le-NAME c = rw (← c.class.ensures, lt-leb _ _ c.if-class-le-NAME.false)
