-- The type's words are dropped, for the cursor goes back to where they began, and at a parenthesis behind the type no value begins.
use native.Mathlib.Omega.{arith}
use Rattle.lexer.proofs.Laws.{call}
use Rattle.inst_operands.proofs.OperandLaws.{dropped, stuck_plain}
use Rattle.records.specs.Limits.{list_depth}
use Rattle.grammar.specs.Instructions.{parse_operand}
use Rattle.inst_operands.proofs.parse_operand.Goals as goal

pub returns : goal.returns
unfolding parse_operand
returns c =
    dropped 6 _ c.parse_type-q.ensures (stuck_plain list_depth) c.join-q1.ensures
    (call 0 (omega arith) c.parse_value.ensures)
