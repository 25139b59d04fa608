-- The code's calls are the definition's steps in the same order: slot and destination, flags, the rest of an operation.
use Rattle.lexer.proofs.Laws.{val}
use Rattle.node_words.proofs.Laws.{begin_then}
use Rattle.grammar.specs.Instructions.{parse_bin}
use Rattle.inst_operations.proofs.parse_bin.Goals as goal

pub returns : goal.returns
unfolding parse_bin
returns c = begin_then _ c.begin-q.ensures
    (val _ c.skip_arith_flags-q1.ensures
    (c.binary.ensures _))
