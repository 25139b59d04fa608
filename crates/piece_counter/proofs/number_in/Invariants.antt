-- The invariant `Digits`: what the digits so far write, as far as it is kept, and that the bytes left decide the rest.
use Rattle.piece_counter.proofs.CounterLaws.{Digits}
use Rattle.piece_counter.proofs.number_in.Given as goal

abbrev pub invariant-loop-b : goal.invariant-loop-b
invariant-loop-b l = Digits l.raw l.b-index l.v
