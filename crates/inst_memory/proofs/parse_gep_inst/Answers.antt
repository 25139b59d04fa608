-- The calls are the definition's steps in the same order, and no type goes on with the comma that stands behind it.
use mathlib.Core.Path.{◌∙◌}
use native.Mathlib.Omega.{arith}
use Rattle.lexer.proofs.Laws.{then, val}
use Rattle.node_words.proofs.Laws.{begin_then, close_is}
use Rattle.types.proofs.TypeLaws.{type_then, stuck_token}
use Rattle.grammar.specs.Instructions.{parse_gep_inst}
use Rattle.inst_memory.proofs.parse_gep_inst.Goals as goal

pub shape_of-words : goal.shape_of-words
shape_of-words c =
    c.close.auto.words ∙ c.gep_inst_indices-l.auto.words ∙ c.parse_operand-q3.auto.words ∙ c.parse_type-q1.auto.words ∙ c.begin-q.auto.words

pub returns : goal.returns
unfolding parse_gep_inst
returns c =
    begin_then _ c.begin-q.ensures
    (val _ c.parse_gep_flags-f.ensures
    (type_then 3 _ c.parse_type-q1.ensures (stuck_token 44 _ (λ z. omega arith))
    (λ t. val _ c.expect_token-q2.ensures
    (then _ c.parse_operand-q3.ensures
    (λ x. then _ c.gep_inst_indices-l.ensures (λ ws. close_is _ _ _ _ c.close.ensures))))))
