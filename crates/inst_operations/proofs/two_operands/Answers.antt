-- The code's calls are the definition's steps in the same order; at a parenthesis behind the type no value begins, so both refuse there.
use Rattle.lexer.proofs.Laws.{done, then, val}
use Rattle.types.proofs.TypeLaws.{type_then}
use Rattle.values.proofs.ValueLaws.{stuck_value}
use Rattle.records.specs.Limits.{list_depth}
use Rattle.grammar.specs.Instructions.{two_operands}
use Rattle.inst_operations.proofs.two_operands.Goals as goal

pub returns : goal.returns
unfolding two_operands
returns c =
    type_then 6 _ c.parse_type-q.ensures (stuck_value list_depth _)
    (λ t. then _ c.parse_value-q1.ensures
    (λ a. val _ c.expect_token-q2.ensures (then _ c.parse_value.ensures (λ b. done))))
