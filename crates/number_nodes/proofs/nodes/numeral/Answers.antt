-- Digits that are a numeral by themselves are what `read_numeric` reads there; any other numeral is read part by part.
use native.Mathlib.Omega.{arith}
use borrow.Author.Rules.{rules}
use Rattle.lexer.proofs.Laws.{handed_on}
use Rattle.number_nodes.proofs.NodeLaws.{node_short}
use Rattle.number_nodes.proofs.nodes.numeral.Goals as goal

pub returns-in-Some : goal.returns-in-Some
returns-in-Some c = rw c.in_ok-c.was (node_short _ c.in_ok-c.c c.in-Some.ensures (omega arith) (c.short_node.ensures _))

pub returns-in_err-c : goal.returns-in_err-c
returns-in_err-c c = handed_on c.in_err-c.was (search rules)
