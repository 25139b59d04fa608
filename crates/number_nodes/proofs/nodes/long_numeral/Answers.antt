-- By the literal: an integer's node, a float's, or its refusal.
use borrow.Author.Rules.{rules}
use Rattle.number_nodes.proofs.NodeLaws.{node_int, node_float, node_out}
use Rattle.number_nodes.proofs.nodes.long_numeral.Goals as goal

pub returns-in-Int : goal.returns-in-Int
returns-in-Int c = node_int _ _ (rw c.in-Int.is at c.in_ok-x.ensures) (c.int_node.ensures _)

pub returns-in-Float : goal.returns-in-Float
returns-in-Float c = node_float _ _ (rw c.in-Float.is at c.in_ok-x.ensures) (c.float_node.ensures _)

pub returns-in_err-x : goal.returns-in_err-x
returns-in_err-x c = node_out _ c.in_err-x.ensures (search rules)
