-- The test of `minus_value`: `inf`, else a numeral with a minus.
use native.Mathlib.Omega.{arith}
use Rattle.lexer.proofs.Laws.{call}
use Rattle.lexer.proofs.TestLaws.{prefix_yes, prefix_no}
use Rattle.number_nodes.proofs.constants.minus_value.Goals as goal

pub returns-then-starts : goal.returns-then-starts
returns-then-starts c =
    prefix_yes _ _ c.starts.ensures c.if-starts.true c.pass_word-q.ensures
    (call 2 (omega arith) (c.float_node.ensures _))

pub returns : goal.returns
returns c = prefix_no _ _ c.starts.ensures c.if-starts.false c.numeral.ensures
