-- The next number is the counter itself.
use Rattle.grammar.specs.Counter.{takes_next}
use Rattle.piece_counter.proofs.take_next.Goals as goal

pub returns : goal.returns
unfolding takes_next
returns c = λ text. c.take.ensures text
