-- The bits, then their node.
use native.Mathlib.Omega.{arith}
use Rattle.lexer.proofs.Laws.{val_paid, call}
use Rattle.number_nodes.proofs.Passing.{passes_hex}
use Rattle.number_nodes.proofs.nodes.hex_value.Goals as goal

pub returns : goal.returns
returns c =
    val_paid _ 1 passes_hex c.parse_hex_float-x.ensures
    (call 2 (omega arith) (c.float_node.ensures _))
