-- Two words do not stand at one place, so the word that is found answers the definition's other tests with no, in whatever order they come.
use mathlib.Core.Path.{refl}
use native.Mathlib.Omega.{arith}
use Rattle.program.specs.Bytes.{bytes}
use Rattle.grammar.specs.Lexer.{same_word}
use Rattle.lexer.proofs.Laws.{word_yes, word_no, call}
use Rattle.type_leaves.proofs.LeafLaws.{word_alone}
use Rattle.value_leaves.specs.Leaf.{key_values}
use Rattle.value_leaves.proofs.key_value.Goals as goal

pub returns-then-word : goal.returns-then-word
unfolding key_values same_word
returns-then-word c =
    λ g. (word_no _ _ refl (word_alone c.args.text.now (bytes "null") (bytes "true") c.args.p c.word.ensures c.if-word.true refl)
    (word_no _ _ refl (word_alone c.args.text.now (bytes "null") (bytes "false") c.args.p c.word.ensures c.if-word.true refl)
    (word_yes _ _ c.word.ensures c.if-word.true c.pass_word-q.ensures (call 1 (omega arith) (c.leaf-r.ensures _)))))

pub returns-then-word-2 : goal.returns-then-word-2
unfolding key_values same_word
returns-then-word-2 c =
    λ g. (word_yes _ _ c.word-2.ensures c.if-word-2.true c.pass_word-q-then-word-2.ensures (call 3 (omega arith) (c.bool_node-r.ensures _)))

pub returns-then-word-3 : goal.returns-then-word-3
unfolding key_values same_word
returns-then-word-3 c =
    λ g. (word_no _ _ c.word-2.ensures c.if-word-2.false
    (word_yes _ _ c.word-3.ensures c.if-word-3.true c.pass_word-q-then-word-3.ensures
    (call 3 (omega arith) (c.bool_node-r-then-word-3.ensures _))))

pub returns-then-word-4 : goal.returns-then-word-4
unfolding key_values same_word
returns-then-word-4 c =
    λ g. (word_no _ _ c.word-2.ensures c.if-word-2.false
    (word_no _ _ c.word-3.ensures c.if-word-3.false
    (word_no _ _ c.word.ensures c.if-word.false
    (word_yes _ _ c.word-4.ensures c.if-word-4.true c.pass_word-q-then-word-4.ensures (call 1 (omega arith) (c.leaf-r-then-word-4.ensures _))))))

pub returns-then-word-5 : goal.returns-then-word-5
unfolding key_values same_word
returns-then-word-5 c =
    λ g. (word_no _ _ c.word-2.ensures c.if-word-2.false
    (word_no _ _ c.word-3.ensures c.if-word-3.false
    (word_no _ _ c.word.ensures c.if-word.false
    (word_no _ _ c.word-4.ensures c.if-word-4.false
    (word_yes _ _ c.word-5.ensures c.if-word-5.true c.pass_word-q-then-word-5.ensures (call 1 (omega arith) (c.leaf-r-then-word-5.ensures _)))))))

pub returns-then-word-6 : goal.returns-then-word-6
unfolding key_values same_word
returns-then-word-6 c =
    λ g. (word_no _ _ c.word-2.ensures c.if-word-2.false
    (word_no _ _ c.word-3.ensures c.if-word-3.false
    (word_no _ _ c.word.ensures c.if-word.false
    (word_no _ _ c.word-4.ensures c.if-word-4.false
    (word_no _ _ c.word-5.ensures c.if-word-5.false
    (word_yes _ _ c.word-6.ensures c.if-word-6.true c.pass_word-q-then-word-6.ensures (call 1 (omega arith) (c.leaf-r-then-word-6.ensures _))))))))

pub returns : goal.returns
unfolding key_values same_word
returns c =
    record {
      on = λ g r. (word_no _ _ c.word-2.ensures c.if-word-2.false
          (word_no _ _ c.word-3.ensures c.if-word-3.false
          (word_no _ _ c.word.ensures c.if-word.false
          (word_no _ _ c.word-4.ensures c.if-word-4.false
          (word_no _ _ c.word-5.ensures c.if-word-5.false
          (word_no _ _ c.word-6.ensures c.if-word-6.false (r)))))));
    }
