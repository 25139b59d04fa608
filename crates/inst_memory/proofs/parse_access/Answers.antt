-- The calls are the definition's steps in the same order; where there is no alignment the operands are read again one word earlier, and they are
-- the same.
use mathlib.Core.Path.{refl, ◌∙◌}
use mathlib.Core.List.{[], ◌∷◌}
use native.Mathlib.Omega.{arith}
use Rattle.lexer.proofs.Laws.{then, val, spare, word_yes, word_no}
use Rattle.node_words.proofs.Laws.{begin_then, push_then, patch_then, close_is}
use Rattle.inst_operands.proofs.OperandLaws.{again}
use Rattle.inst_memory.proofs.MemoryLaws.{align_none, align_some}
use Rattle.grammar.specs.Instructions.{access}
use Rattle.inst_memory.proofs.parse_access.Goals as goal

pub shape_of-words-then-word : goal.shape_of-words-then-word
shape_of-words-then-word c =
    c.end.auto.words ∙ c.access_operands-q4.auto.words ∙ c.begin-q.auto.words

pub returns-then-word : goal.returns-then-word
unfolding access
returns-then-word c =
    begin_then _ c.begin-q.ensures
    (val _ c.eat_ws-q1.ensures
    (word_yes _ _ c.word.ensures c.if-word.true c.pass_word-q2.ensures
    (val _ c.skip_keyword-q3.ensures
    (then _ c.access_operands-q4.ensures
    (λ x. val _ c.skip_atomic_ordering-q5.ensures
    (spare 0 (omega arith) (c.end.ensures _)))))))

pub shape_of-words-in-None : goal.shape_of-words-in-None
shape_of-words-in-None c =
    c.close.auto.words ∙ c.access_operands-z.auto.words ∙ c.access_operands-q7.auto.words ∙ c.push-q6.auto.words ∙ c.begin-q.auto.words

pub returns-in-None : goal.returns-in-None
unfolding access
returns-in-None c =
    begin_then _ c.begin-q.ensures
    (val _ c.eat_ws-q1.ensures
    (word_no _ _ c.word.ensures c.if-word.false
    (val _ c.skip_keyword-p1.ensures
    (again _ c.push-q6.ensures c.access_operands-q7.ensures (align_none c.in-None.is c.parse_trailing-t.ensures) c.access_operands-z.ensures c.resume-q9.ensures (λ x. close_is _ _ _ _ c.close.ensures)))))

pub shape_of-words-in-Some : goal.shape_of-words-in-Some
shape_of-words-in-Some c =
    c.close-in-Some.auto.words ∙ c.patch-q10.auto.words ∙ c.access_operands-q7.auto.words ∙ c.push-q6.auto.words ∙ c.begin-q.auto.words

pub returns-in-Some : goal.returns-in-Some
unfolding access
returns-in-Some c =
    begin_then _ c.begin-q.ensures
    (val _ c.eat_ws-q1.ensures
    (word_no _ _ c.word.ensures c.if-word.false
    (val _ c.skip_keyword-p1.ensures
    (push_then _ c.push-q6.ensures
    (then _ c.access_operands-q7.ensures
    (λ x. val _ (align_some _ c.in-Some.is c.parse_trailing-t.ensures)
    (patch_then 2 _ (0 ∷ _ ∷ []) _ _ refl c.patch-q10.ensures (close_is _ _ _ _ c.close-in-Some.ensures))))))))
