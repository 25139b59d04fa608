-- The word `call`, then a call, as in the definition.
use Rattle.inst_operands.proofs.RichLaws.{call_rich}
use Rattle.grammar.specs.Instructions.{parse_tail_call}
use Rattle.lexer.proofs.Laws.{val}
use native.Mathlib.Omega.{arith}
use Rattle.inst_calls.proofs.parse_tail_call.Goals as goal

pub returns : goal.returns
unfolding parse_tail_call
returns c =
    val _ c.expect_keyword-q.ensures
    (call_rich 3 (omega arith) c.parse_call.ensures)
