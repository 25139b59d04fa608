-- The invariant: all the clauses lead to those with so many turns to go, behind the alignment so far; a clause takes one turn.
use Rattle.records.specs.Limits.{turns}
use Rattle.lexer.specs.Reads.{Comes}
use mathlib.Core.List.{[]}
use Rattle.inst_operands.specs.Trailing.{align_of, trailing}
use Rattle.inst_operands.proofs.parse_trailing.Given as goal

abbrev pub invariant-loop-left : goal.invariant-loop-left
invariant-loop-left l = Comes (trailing turns []) (trailing l._left (align_of l.align)) l.text l.initial.q l.q
