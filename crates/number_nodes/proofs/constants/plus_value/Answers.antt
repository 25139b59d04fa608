-- The tests of `plus_value` in their order.
use native.Mathlib.Omega.{arith}
use Rattle.lexer.proofs.Laws.{call}
use Rattle.lexer.proofs.TestLaws.{prefix_yes, prefix_no}
use Rattle.number_nodes.proofs.constants.plus_value.Goals as goal

pub returns-then-starts : goal.returns-then-starts
returns-then-starts c =
    prefix_yes _ _ c.starts.ensures c.if-starts.true c.pass_word-q.ensures
    (call 2 (omega arith) (c.float_node.ensures _))

pub returns-then-starts-2 : goal.returns-then-starts-2
returns-then-starts-2 c =
    prefix_no _ _ c.starts.ensures c.if-starts.false
    (prefix_yes _ _ c.starts-2.ensures c.if-starts-2.true c.pass_word-q-then-starts-2.ensures
    (call 2 (omega arith) (c.float_node-then-starts-2.ensures _)))

pub returns : goal.returns
returns c =
    prefix_no _ _ c.starts.ensures c.if-starts.false
    (prefix_no _ _ c.starts-2.ensures c.if-starts-2.false c.numeral.ensures)
