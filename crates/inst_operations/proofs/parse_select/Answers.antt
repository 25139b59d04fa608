-- The code's calls are the definition's steps in the same order; the first value alone keeps its type.
use mathlib.Core.Path.{◌∙◌}
use Rattle.lexer.proofs.Laws.{then, val}
use Rattle.node_words.proofs.Laws.{begin_then}
use Rattle.grammar.specs.Instructions.{parse_select}
use Rattle.inst_operations.proofs.parse_select.Goals as goal

pub shape_of-words : goal.shape_of-words
shape_of-words c =
    c.end.auto.words ∙ c.parse_operand-q5.auto.words ∙ c.parse_typed_val-q3.auto.words ∙ c.parse_operand-q1.auto.words ∙ c.begin-q.auto.words

pub returns : goal.returns
unfolding parse_select
returns c =
    begin_then _ c.begin-q.ensures
    (then _ c.parse_operand-q1.ensures
    (λ a. val _ c.expect_token-q2.ensures
    (then _ c.parse_typed_val-q3.ensures
    (λ x. val _ c.expect_token-q4.ensures
    (then _ c.parse_operand-q5.ensures
    (λ y. c.end.ensures _))))))
