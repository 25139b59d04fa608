-- The definition makes the same test, and below 2^32 a digit more does not overflow.
use borrow.Author.Tests.{lt-ltb, le-ltb}
use Rattle.piece_counter.proofs.add_digit.Goals as goal

pub returns-then-v-lt-COUNTER_LIMIT : goal.returns-then-v-lt-COUNTER_LIMIT
returns-then-v-lt-COUNTER_LIMIT c = rw (lt-ltb _ _ c.if-v-lt-COUNTER_LIMIT.true)

pub returns : goal.returns
returns c = rw (le-ltb _ _ c.if-v-lt-COUNTER_LIMIT.false)
