-- The code's calls are the definition's steps in the same order: slot and destination, the typed value to the end.
use Rattle.node_words.proofs.Laws.{begin_then}
use Rattle.grammar.specs.Instructions.{parse_freeze}
use Rattle.inst_operations.proofs.parse_freeze.Goals as goal

pub returns : goal.returns
unfolding parse_freeze
returns c = begin_then _ c.begin-q.ensures
    (c.unary.ensures _)
