-- The code's calls are the definition's steps in their order; the name's slot is patched behind the type, and the rank stays below the bit of `...`.
use mathlib.Core.Path.{refl, ◌∙◌}
use mathlib.Core.List.{[], ◌∷◌}
use native.Mathlib.Omega.{arith}
use Rattle.grammar.specs.Body.{head_node, parse_head}
use Rattle.lexer.proofs.Laws.{val, val_paid, fail_is}
use Rattle.node_words.proofs.Laws.{push_then, patch_then}
use Rattle.lexer_names.proofs.Passed.{passes_token}
use Rattle.types.proofs.TypeLaws.{type_then}
use Rattle.piece_head.proofs.HeadLaws.{then_paid, linkage_as, stuck_name, shut_is, open_is}
use Rattle.piece_head.proofs.head_node.Goals as goal

pub overflow_add-detail : goal.overflow_add-detail
overflow_add-detail c =
    omega (arith, c.rank_byte-linkage.ensures.1, c.parse_param_list-l.ensures.1)

pub shape_of-words-then-looks : goal.shape_of-words-then-looks
shape_of-words-then-looks c =
    c.close-q.auto.words ∙ c.parse_param_list-l.auto.words ∙ c.patch-q.auto.words ∙ c.parse_type-q.auto.words ∙ c.push-q-2.auto.words ∙ c.push-q.auto.words

pub returns-then-looks : goal.returns-then-looks
unfolding parse_head head_node
returns-then-looks c =
    push_then _ c.push-q.ensures
    (push_then _ c.push-q-2.ensures
    (val _ (linkage_as c.rank_byte-linkage.ensures.0 c.parse_linkage-k.ensures)
    (val _ c.skip_attrs-q.ensures
    (val _ c.skip_call_cconv-q.ensures
    (val _ c.skip_attrs-q-2.ensures
    (type_then 3 _ c.parse_type-q.ensures (stuck_name _)
    (λ t. val _ c.parse_global_name-name.ensures
    (patch_then 1 _ (0 ∷ []) 0 t refl c.patch-q.ensures
    (val_paid _ 1 (passes_token 40) c.expect_token-q.ensures
    (then_paid 2 _ {c = 1} c.parse_param_list-l.ensures.0
    (λ ws. val _ c.skip_attrs-q-3.ensures
    (val _ c.eat_ws-q.ensures
    (shut_is _ _ _ _ _ c.looks.ensures c.if-looks.true c.pass-q.ensures c.close-q.ensures)))))))))))))

pub shape_of-words : goal.shape_of-words
shape_of-words c =
    c.parse_param_list-l.auto.words ∙ c.patch-q.auto.words ∙ c.parse_type-q.auto.words ∙ c.push-q-2.auto.words ∙ c.push-q.auto.words

pub returns : goal.returns
unfolding parse_head head_node
returns c =
    push_then _ c.push-q.ensures
    (push_then _ c.push-q-2.ensures
    (val _ (linkage_as c.rank_byte-linkage.ensures.0 c.parse_linkage-k.ensures)
    (val _ c.skip_attrs-q.ensures
    (val _ c.skip_call_cconv-q.ensures
    (val _ c.skip_attrs-q-2.ensures
    (type_then 3 _ c.parse_type-q.ensures (stuck_name _)
    (λ t. val _ c.parse_global_name-name.ensures
    (patch_then 1 _ (0 ∷ []) 0 t refl c.patch-q.ensures
    (val_paid _ 1 (passes_token 40) c.expect_token-q.ensures
    (then_paid 2 _ {c = 1} c.parse_param_list-l.ensures.0
    (λ ws. val _ c.skip_attrs-q-3.ensures
    (val _ c.eat_ws-q.ensures
    (open_is _ c.looks.ensures c.if-looks.false (fail_is _ c.refuse-q.ensures))))))))))))))
