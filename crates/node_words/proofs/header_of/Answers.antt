-- The fields do not overlap, so the sum does not wrap.
use borrow.Author.Tests.{lt-ltb, le-ltb}
use Rattle.node_words.proofs.header_of.Goals as goal

pub returns-then-size-lt-HALF_LIMIT : goal.returns-then-size-lt-HALF_LIMIT
returns-then-size-lt-HALF_LIMIT c = rw (← c.saturating_sub-size.ensures, lt-ltb _ _ c.if-size-lt-HALF_LIMIT.true)

pub returns-else-size-lt-HALF_LIMIT : goal.returns-else-size-lt-HALF_LIMIT
returns-else-size-lt-HALF_LIMIT c = rw (← c.saturating_sub-size.ensures, le-ltb _ _ c.if-size-lt-HALF_LIMIT.false)
