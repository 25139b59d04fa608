-- The code's calls are the definition's steps in the same order; the name's slot is patched once the name is read, and stays 0 where none stands.
use mathlib.Core.Path.{refl, ◌∙◌}
use mathlib.Core.List.{[], ◌∷◌}
use Rattle.grammar.specs.Body.{param_of, parse_param}
use Rattle.lexer.proofs.Laws.{val, byte_yes, byte_no, place_at, done}
use Rattle.node_words.proofs.Laws.{push_then, patch_then, close_then}
use Rattle.piece_head.proofs.HeadLaws.{param_type, still_param}
use Rattle.piece_head.proofs.parse_param.Goals as goal

pub shape_of-words-then-looks : goal.shape_of-words-then-looks
shape_of-words-then-looks c =
    c.close-q8.auto.words ∙ c.patch-q7.auto.words ∙ c.parse_type-q2.auto.words ∙ c.push-q1.auto.words ∙ c.push-q.auto.words

pub returns-then-looks : goal.returns-then-looks
unfolding parse_param param_of
returns-then-looks c =
    λ q. push_then _ c.push-q.ensures
    (push_then _ c.push-q1.ensures
    (param_type q _ _ _ c.parse_type-q2.ensures (still_param _)
    (λ t. val _ c.skip_attrs-q3.ensures
    (val _ c.eat_ws-q4.ensures
    (byte_yes _ _ c.looks.ensures c.if-looks.true c.pass-q5.ensures
    (val _ c.counted_name-n.ensures
    (patch_then 1 _ (0 ∷ []) 0 t refl c.patch-q7.ensures (close_then _ _ _ _ c.close-q8.ensures done))))))))

pub returns : goal.returns
unfolding parse_param param_of
returns c =
    λ q. push_then _ c.push-q.ensures
    (push_then _ c.push-q1.ensures
    (param_type q _ _ _ c.parse_type-q2.ensures (still_param _)
    (λ t. val _ c.skip_attrs-q3.ensures
    (val _ c.eat_ws-q4.ensures
    (byte_no _ _ c.looks.ensures c.if-looks.false (place_at _ _ c.place-at.ensures (λ m. val _ (c.take_next-d.ensures _) (close_then _ _ _ _ c.close-q10.ensures done))))))))
