-- The typed value, then the end, whatever the destination.
use Rattle.lexer.proofs.Laws.{then}
use Rattle.grammar.specs.Instructions.{unary}
use Rattle.inst_operations.proofs.unary.Goals as goal

pub returns : goal.returns
unfolding unary
returns c = λ dest. then _ c.parse_typed_val-q.ensures (λ x. c.end.ensures _)
