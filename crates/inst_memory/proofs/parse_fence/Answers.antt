-- The calls are the definition's steps in the same order, between the header's slot and the header.
use Rattle.lexer.proofs.Laws.{val}
use Rattle.node_words.proofs.Laws.{begin_then}
use Rattle.grammar.specs.Instructions.{parse_fence}
use Rattle.inst_memory.proofs.parse_fence.Goals as goal

pub returns : goal.returns
unfolding parse_fence
returns c =
    begin_then _ c.begin-q.ensures
    (val _ c.skip_atomic_ordering-q.ensures
    (c.end.ensures _))
