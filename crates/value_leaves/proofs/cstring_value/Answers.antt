-- The definition's one test is the code's: behind the `c` a quote, and then the string is written behind its slot; else the refusal is at the `c`.
use mathlib.Core.Path.{refl}
use mathlib.Core.List.{[]}
use Rattle.lexer.proofs.Laws.{val, byte_yes, byte_no, fail_at, place_at}
use Rattle.node_words.proofs.Laws.{push_then, close_is}
use Rattle.grammar.specs.Values.{cstring}
use Rattle.value_leaves.proofs.LeafLaws.{eat_then}
use Rattle.value_leaves.proofs.cstring_value.Goals as goal

pub returns-then-looks : goal.returns-then-looks
unfolding cstring
returns-then-looks c =
    λ h. place_at _ _ c.place-at.ensures
    (λ _. eat_then 99 [] refl h c.pass-q.ensures
    (place_at _ _ c.place-from.ensures
    (λ l. byte_yes _ _ c.looks.ensures c.if-looks.true c.pass-r.ensures
    (push_then _ c.push-r1.ensures
    (val _ (c.cstring-n.ensures l)
    (push_then _ c.push-r3.ensures (close_is _ _ _ _ c.close.ensures)))))))

pub returns : goal.returns
unfolding cstring
returns c =
    λ h. place_at _ _ c.place-at.ensures
    (λ _. eat_then 99 [] refl h c.pass-q.ensures
    (place_at _ _ c.place-from.ensures
    (λ l. byte_no _ _ c.looks.ensures c.if-looks.false (fail_at _ _ c.refuse_at.ensures))))
