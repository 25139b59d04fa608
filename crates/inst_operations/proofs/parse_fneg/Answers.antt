-- The code's calls are the definition's steps in the same order: slot and destination, fast-math flags, the typed value to the end.
use Rattle.lexer.proofs.Laws.{val}
use Rattle.node_words.proofs.Laws.{begin_then}
use Rattle.grammar.specs.Instructions.{parse_fneg}
use Rattle.inst_operations.proofs.parse_fneg.Goals as goal

pub returns : goal.returns
unfolding parse_fneg
returns c = begin_then _ c.begin-q.ensures
    (val _ c.skip_fast_math_flags-q1.ensures
    (c.unary.ensures _))
