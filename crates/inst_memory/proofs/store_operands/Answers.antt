-- The calls are the definition's steps in the same order.
use Rattle.lexer.proofs.Laws.{done, then, val}
use Rattle.grammar.specs.Instructions.{store_operands}
use Rattle.inst_memory.proofs.store_operands.Goals as goal

pub returns : goal.returns
unfolding store_operands
returns c =
    then _ c.parse_typed_val-q.ensures
    (λ x. val _ c.expect_token-q1.ensures
    (then _ c.parse_operand.ensures (λ y. done)))
