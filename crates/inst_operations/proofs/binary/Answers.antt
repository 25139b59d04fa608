-- The operands, then the end, whatever the destination.
use Rattle.lexer.proofs.Laws.{then}
use Rattle.grammar.specs.Instructions.{binary}
use Rattle.inst_operations.proofs.binary.Goals as goal

pub returns : goal.returns
unfolding binary
returns c = λ dest. then _ c.two_operands-q.ensures (λ x. c.end.ensures _)
