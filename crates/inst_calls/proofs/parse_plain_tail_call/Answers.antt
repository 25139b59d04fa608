-- The word `call`, then a call, as in the definition.
use Rattle.inst_operands.proofs.RichLaws.{call_rich}
use Rattle.grammar.specs.Instructions.{parse_plain_tail_call}
use Rattle.lexer.proofs.Laws.{val}
use native.Mathlib.Omega.{arith}
use Rattle.inst_calls.proofs.parse_plain_tail_call.Goals as goal

pub shape_of-words : goal.shape_of-words
shape_of-words c = c.parse_plain_call.auto.words

pub returns : goal.returns
unfolding parse_plain_tail_call
returns c =
    val _ c.expect_keyword-q.ensures
    (call_rich 3 (omega arith) c.parse_plain_call.ensures)
