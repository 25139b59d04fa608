-- The calls are the definition's steps in the same order; the number's slot is the word behind the destination and is filled once the number is
-- known.
use mathlib.Core.Path.{refl, ◌∙◌}
use mathlib.Core.List.{[], ◌∷◌}
use Rattle.lexer.proofs.Laws.{then, val}
use Rattle.node_words.proofs.Laws.{begin_then, push_then, patch_then}
use Rattle.grammar.specs.Instructions.{parse_extractvalue}
use Rattle.inst_memory.proofs.parse_extractvalue.Goals as goal

pub shape_of-words : goal.shape_of-words
shape_of-words c =
    c.end.auto.words ∙ c.patch-q.auto.words ∙ c.parse_operand-q.auto.words ∙ c.push-q.auto.words ∙ c.begin-q.auto.words

pub returns : goal.returns
unfolding parse_extractvalue
returns c =
    begin_then _ c.begin-q.ensures
    (push_then _ c.push-q.ensures
    (then _ c.parse_operand-q.ensures
    (λ a. val _ c.expect_token-q.ensures
    (val _ c.eat_ws-q.ensures
    (val _ c.parse_int-n.ensures
    (patch_then 2 _ (0 ∷ _ ∷ []) _ _ refl c.patch-q.ensures (c.end.ensures _)))))))
