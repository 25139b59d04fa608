-- The tests of `digit_value` in their order: behind `0x` or `0X` the bits of a float, else a numeral.
use native.Mathlib.Omega.{arith}
use Rattle.lexer.proofs.Laws.{call}
use Rattle.lexer.proofs.TestLaws.{prefix_yes, prefix_no}
use Rattle.number_nodes.proofs.constants.digit_value.Goals as goal

pub returns-then-starts : goal.returns-then-starts
returns-then-starts c =
    prefix_yes _ _ c.starts.ensures c.if-starts.true c.pass_word-q.ensures (call 0 (omega arith) c.hex_value.ensures)

pub returns-then-starts-2 : goal.returns-then-starts-2
returns-then-starts-2 c =
    prefix_no _ _ c.starts.ensures c.if-starts.false
    (prefix_yes _ _ c.starts-2.ensures c.if-starts-2.true c.pass_word-q-then-starts-2.ensures (call 0 (omega arith) c.hex_value-then-starts-2.ensures))

pub returns : goal.returns
returns c =
    prefix_no _ _ c.starts.ensures c.if-starts.false
    (prefix_no _ _ c.starts-2.ensures c.if-starts-2.false c.numeral.ensures)
