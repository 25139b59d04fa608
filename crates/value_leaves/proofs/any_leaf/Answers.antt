-- The tests of `leaf_values` in their order, each call's answer going on to the next test where it is no hit.
use mathlib.Core.Path.{sym, ◌∙◌}
use native.Mathlib.Omega.{arith}
use Rattle.lexer.proofs.Laws.{byte_yes, byte_no, call}
use Rattle.grammar.specs.Values.{leaf_values}
use Rattle.lexer.proofs.TestLaws.{prefix_yes, prefix_no}
use Rattle.value_leaves.specs.Leaf.{key_values}
use Rattle.value_leaves.proofs.LeafLaws.{word_at_yes, word_at_no}
use Rattle.value_leaves.proofs.any_leaf.Goals as goal

pub returns-then-looks : goal.returns-then-looks
unfolding leaf_values key_values
returns-then-looks c =
    λ g. byte_yes _ _ c.looks.ensures c.if-looks.true c.pass-q.ensures (call 2 (omega arith) c.name_node-r.ensures)

pub returns-then-looks-2 : goal.returns-then-looks-2
unfolding leaf_values key_values
returns-then-looks-2 c =
    λ g. byte_no _ _ c.looks.ensures c.if-looks.false
    (byte_yes _ _ c.looks-2.ensures c.if-looks-2.true c.pass-q-then-looks-2.ensures (call 2 (omega arith) c.name_node-r-then-looks-2.ensures))

pub returns-in-Some : goal.returns-in-Some
unfolding leaf_values key_values
returns-in-Some c =
    λ g. byte_no _ _ c.looks.ensures c.if-looks.false
    (byte_no _ _ c.looks-2.ensures c.if-looks-2.false (c.in-Some.ensures _))

pub returns-in-Some-key_value : goal.returns-in-Some-key_value
unfolding leaf_values key_values
returns-in-Some-key_value c =
    λ g. byte_no _ _ c.looks.ensures c.if-looks.false
    (byte_no _ _ c.looks-2.ensures c.if-looks-2.false
    (c.in_default.ensures.on _ (c.in-Some-key_value.ensures _)))

pub returns-then-word : goal.returns-then-word
unfolding leaf_values key_values
returns-then-word c =
    λ g. byte_no _ _ c.looks.ensures c.if-looks.false
    (byte_no _ _ c.looks-2.ensures c.if-looks-2.false
    (c.in_default.ensures.on _
    (c.in_default-key_value.ensures.on _
    (word_at_yes _ _ c.word.ensures c.if-word.true
    (c.cstring_value-r.ensures (sym c.word.ensures ∙ c.if-word.true))))))

pub returns-then-starts : goal.returns-then-starts
unfolding leaf_values key_values
returns-then-starts c =
    λ g. byte_no _ _ c.looks.ensures c.if-looks.false
    (byte_no _ _ c.looks-2.ensures c.if-looks-2.false
    (c.in_default.ensures.on _
    (c.in_default-key_value.ensures.on _
    (word_at_no _ _ c.word.ensures c.if-word.false
    (prefix_yes _ _ c.starts.ensures c.if-starts.true c.pass_word-t.ensures (call 0 (omega arith) c.f0x_value-r.ensures))))))

pub returns : goal.returns
unfolding leaf_values key_values
returns c =
    record {
      on = λ g r. byte_no _ _ c.looks.ensures c.if-looks.false
          (byte_no _ _ c.looks-2.ensures c.if-looks-2.false
          (c.in_default.ensures.on _
          (c.in_default-key_value.ensures.on _
          (word_at_no _ _ c.word.ensures c.if-word.false
          (prefix_no _ _ c.starts.ensures c.if-starts.false r)))));
    }
