-- The test is that of `bumped`.
use borrow.Author.Tests.{lt-ltb, le-ltb}
use Rattle.lexer.specs.Step.{bumped}
use Rattle.lexer.proofs.bump.Goals as goal

pub returns-then-w-lt-HALF_LIMIT : goal.returns-then-w-lt-HALF_LIMIT
unfolding bumped
returns-then-w-lt-HALF_LIMIT c = rw (lt-ltb _ _ c.if-w-lt-HALF_LIMIT.true)

pub returns-else-w-lt-HALF_LIMIT : goal.returns-else-w-lt-HALF_LIMIT
unfolding bumped
returns-else-w-lt-HALF_LIMIT c = rw (le-ltb _ _ c.if-w-lt-HALF_LIMIT.false)
