-- The invariant: the program comes to itself with `left` turns to go; a keyword takes one of them, and no text has as many.
use Rattle.grammar.specs.Lexer.{skip_all}
use Rattle.records.specs.Limits.{turns}
use Rattle.lexer.specs.Table.{keywords_of}
use Rattle.lexer.specs.Reads.{Comes}
use Rattle.lexer_keywords.proofs.skip_all.Given as goal

abbrev pub invariant-loop-left : goal.invariant-loop-left
invariant-loop-left l = Comes (skip_all turns (keywords_of l.table)) (skip_all l._left (keywords_of l.table)) l.text l.initial.q l.q
