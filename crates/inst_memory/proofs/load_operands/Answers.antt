-- The calls are the definition's steps in the same order, and no type goes on with the comma that stands behind it.
use native.Mathlib.Omega.{arith}
use Rattle.lexer.proofs.Laws.{done, then, val}
use Rattle.types.proofs.TypeLaws.{type_then, stuck_token}
use Rattle.grammar.specs.Instructions.{load_operands}
use Rattle.inst_memory.proofs.load_operands.Goals as goal

pub returns : goal.returns
unfolding load_operands
returns c =
    type_then 3 _ c.parse_type-q.ensures (stuck_token 44 _ (λ z. omega arith))
    (λ t. val _ c.expect_token-q1.ensures
    (then _ c.parse_operand.ensures (λ x. done)))
