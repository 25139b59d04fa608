-- A digit, `-` or `+` at the cursor begins a number, and no two of them stand there at once, so their order does not matter.
use Rattle.number_nodes.proofs.NodeLaws.{numeric_digit, numeric_minus, numeric_plus, numeric_none}
use Rattle.number_nodes.proofs.constants.numeric.Goals as goal

pub returns-then-digit : goal.returns-then-digit
returns-then-digit c = numeric_digit c.digit.ensures c.if-digit.true c.digit_value.ensures

pub returns-then-looks : goal.returns-then-looks
returns-then-looks c =
    numeric_minus c.looks.ensures c.if-looks.true c.pass-q.ensures c.minus_value.ensures

pub returns-then-looks-2 : goal.returns-then-looks-2
returns-then-looks-2 c =
    numeric_plus c.looks-2.ensures c.if-looks-2.true c.pass-q-then-looks-2.ensures c.plus_value.ensures

pub returns : goal.returns
returns c = numeric_none c.digit.ensures c.if-digit.false c.looks.ensures c.if-looks.false c.looks-2.ensures c.if-looks-2.false
