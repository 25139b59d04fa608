-- The invariant: all the flags lead to those with `left` turns to go, the flag so far kept; a flag takes one turn.
use Rattle.records.specs.Limits.{turns}
use Rattle.grammar.specs.Values.{parse_gep_flags}
use Rattle.lexer.specs.Reads.{Comes}
use Rattle.value_leaves.proofs.parse_gep_flags.Given as goal

abbrev pub invariant-loop-left : goal.invariant-loop-left
invariant-loop-left l = Comes (parse_gep_flags turns 0) (parse_gep_flags l._left l.v) l.text l.initial.q l.q
