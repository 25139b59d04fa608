-- The definition makes the same two tests.
use Rattle.piece_counter.proofs.CounterLaws.{takes_yes, takes_low, takes_high}
use Rattle.piece_counter.proofs.take.Goals as goal

pub returns-then-v-c : goal.returns-then-v-c
returns-then-v-c c = λ text. takes_low _ _ _ c.if-v-c.true c.refuse_at-q.ensures

pub returns-then-v-ge-COUNTER_LIMIT : goal.returns-then-v-ge-COUNTER_LIMIT
returns-then-v-ge-COUNTER_LIMIT c = λ text. takes_high _ _ _ c.if-v-ge-COUNTER_LIMIT.true c.refuse_at-q-then-v-ge-COUNTER_LIMIT.ensures

pub returns : goal.returns
returns c = λ text. takes_yes _ _ _ c.if-v-c.false c.if-v-ge-COUNTER_LIMIT.false
