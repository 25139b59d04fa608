-- The code's calls are the definition's steps in the same order.
use Rattle.inst_operands.proofs.RichLaws.{enrich, then_rich}
use Rattle.grammar.specs.Instructions.{parse_cmpxchg}
use native.Mathlib.Omega.{arith}
use Rattle.lexer.proofs.Laws.{then, val, spare}
use Rattle.node_words.proofs.Laws.{begin_then}
use mathlib.Core.Path.{◌∙◌}
use Rattle.inst_memory.proofs.parse_cmpxchg.Goals as goal

pub shape_of-words : goal.shape_of-words
shape_of-words c =
    c.end.auto.words ∙ c.parse_operand-q.auto.words ∙ c.pointer_then_value-q.auto.words ∙ c.begin-q.auto.words

pub returns : goal.returns
unfolding parse_cmpxchg
returns c =
    begin_then _ c.begin-q.ensures
    (val _ c.skip_keyword-q.ensures
    (val _ c.skip_keyword-q-2.ensures
    (then_rich 0 _ {c = 1} c.pointer_then_value-q.ensures
    (λ x. val _ c.expect_token-q.ensures
    (then _ c.parse_operand-q.ensures
    (λ n. val _ c.skip_atomic_ordering-q.ensures
    (val _ c.skip_atomic_ordering-q-2.ensures
    (enrich (spare 0 (omega arith) (c.end.ensures _))))))))))
