-- The invariant: the program comes to itself with `left` turns to go; an attribute takes one of them, and no text has as many.
use Rattle.records.specs.Limits.{turns}
use Rattle.grammar.specs.Attributes.{skip_attrs_in}
use Rattle.lexer.specs.Reads.{Comes}
use Rattle.attributes.proofs.skip_attrs.Given as goal

abbrev pub invariant-loop-left : goal.invariant-loop-left
invariant-loop-left l = Comes (skip_attrs_in turns) (skip_attrs_in l._left) l.text l.initial.q l.q
