-- The definition asks for the same word; behind `void` only what trails is passed, and else the value is written before the header.
use native.Mathlib.Omega.{arith}
use Rattle.lexer.proofs.Laws.{then, val, spare, word_yes, word_no}
use Rattle.node_words.proofs.Laws.{push_then}
use Rattle.grammar.specs.Instructions.{parse_ret}
use Rattle.inst_terminators.proofs.parse_ret.Goals as goal

pub returns-then-word : goal.returns-then-word
unfolding parse_ret
returns-then-word c =
    push_then _ c.push-q.ensures
    (val _ c.eat_ws-q1.ensures
    (word_yes _ _ c.word.ensures c.if-word.true c.pass_word-q2.ensures
    (spare 0 (omega arith) (c.end.ensures _))))

pub returns : goal.returns
unfolding parse_ret
returns c =
    push_then _ c.push-q.ensures
    (val _ c.eat_ws-q1.ensures
    (word_no _ _ c.word.ensures c.if-word.false
    (then _ c.parse_typed_val-q3.ensures
    (λ x. c.end-2.ensures _))))
