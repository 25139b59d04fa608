-- The definition asks for the same word; each way the calls are its steps in the same order, and a label's node is written when its name is known.
use mathlib.Core.Path.{◌∙◌}
use native.Mathlib.Omega.{arith}
use Rattle.lexer.proofs.Laws.{then, val, val_paid, word_yes, word_no, wrote}
use Rattle.node_words.proofs.Laws.{push_then}
use Rattle.lexer_names.proofs.Passed.{passes_local}
use Rattle.inst_operands.proofs.LabelLaws.{passes_target}
use Rattle.grammar.specs.Instructions.{parse_br}
use Rattle.inst_terminators.proofs.parse_br.Goals as goal

pub returns-then-word : goal.returns-then-word
unfolding parse_br
returns-then-word c =
    push_then _ c.push-q.ensures
    (val _ c.eat_ws-q1.ensures
    (word_yes _ _ c.word.ensures c.if-word.true c.pass_word-q2.ensures
    (val_paid _ 2 passes_local c.parse_local_name-l.ensures
    (wrote 2 (omega arith) (c.label_node-q4.ensures _)
    (c.end.ensures _)))))

pub shape_of-words : goal.shape_of-words
shape_of-words c =
    c.end-2.auto.words ∙ c.label_node-q9.auto.words ∙ c.label_node-q7.auto.words ∙ c.parse_operand-q5.auto.words ∙ c.push-q.auto.words

pub returns : goal.returns
unfolding parse_br
returns c =
    push_then _ c.push-q.ensures
    (val _ c.eat_ws-q1.ensures
    (word_no _ _ c.word.ensures c.if-word.false
    (then _ c.parse_operand-q5.ensures
    (λ x. val_paid _ 1 passes_target c.target-a.ensures
    (wrote 2 (omega arith) (c.label_node-q7.ensures _)
    (val_paid _ 1 passes_target c.target-b.ensures
    (wrote 2 (omega arith) (c.label_node-q9.ensures _)
    (c.end-2.ensures _))))))))
