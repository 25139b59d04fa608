-- The bits, then their node.
use native.Mathlib.Omega.{arith}
use Rattle.lexer.proofs.Laws.{val_paid, call}
use Rattle.number_nodes.proofs.Passing.{passes_f0x}
use Rattle.number_nodes.proofs.nodes.f0x_value.Goals as goal

pub returns : goal.returns
returns c =
    val_paid _ 1 passes_f0x c.parse_f0x-x.ensures
    (call 2 (omega arith) (c.float_node.ensures _))
