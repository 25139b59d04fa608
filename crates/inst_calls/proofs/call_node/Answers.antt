-- Behind the return type the definition asks for the same byte; where it opens a function type the return type's words, held since they were read,
-- stand in it too.
use Rattle.inst_calls.proofs.CallLaws.{made_then, call_opened}
use Rattle.inst_calls.proofs.VoidLaws.{void_is}
use Rattle.inst_calls.proofs.CopyLaws.{since, held}
use Rattle.inst_operands.proofs.Twice.{found_on, type_twice}
use Rattle.inst_calls.specs.Func.{func_type}
use Rattle.inst_operands.proofs.RichLaws.{enrich, then_rich}
use Rattle.inst_operands.specs.Found.{type_of}
use Rattle.grammar.specs.Instructions.{func_node, call_rest, call_of, parse_call}
use Rattle.lexer.proofs.Laws.{val, token_yes, token_no, spare}
use Rattle.node_words.proofs.Laws.{begin_then}
use Rattle.lexer.specs.Step.{passed}
use lib.ListN.{length}
use Prim.Native.Nat.{◌+◌}
use mathlib.Core.List.{[], ◌∷◌, ◌++◌}
use mathlib.Core.Path.{ap, ◌∙◌}
use native.Mathlib.Omega.{arith}
use Rattle.inst_calls.proofs.call_node.Goals as goal

pub shape_of-words-then-looks : goal.shape_of-words-then-looks
shape_of-words-then-looks c =
    c.call_rest-q6.auto.words ∙ c.func_type-q5.auto.words ∙ c.parse_type-q2.auto.words ∙ c.begin-q.auto.words

pub returns-then-looks : goal.returns-then-looks
unfolding parse_call call_of func_type
returns-then-looks c = (
  begin_then _ c.begin-q.ensures
      (val _ c.skip_call_cconv-q1.ensures
      (val _ c.skip_attrs-s.ensures
      (since
      (λ S. type_twice _ c.parse_type-q2.ensures (call_opened _ _)
      (λ a F. token_yes _ _ c.eat_ws-q3.ensures c.looks.ensures c.if-looks.true c.pass-q4.ensures
      (held (0 ∷ c.args.dest ∷ []) (type_of a) S (found_on (found_on F c.eat_ws-q3.ensures.hands)
      (λ e x i. c.pass-q4.ensures ∙ ap (passed c.args.text.now 1) i))
      (λ H. made_then _ (func_node (type_of a)) (λ x. call_rest c.args.dest 1 3 (type_of a ++ x))
      (spare (length (type_of a) + 1 + 0) (omega arith)
      (then_rich (length (type_of a) + 1) _ (enrich (c.func_type-q5.ensures (type_of a) H)) (λ ws. enrich (c.call_rest-q6.ensures _ _))))))))))),
  λ z. void_is c.begin-q.ensures.0 c.skip_call_cconv-q1.ensures c.skip_attrs-s.ensures (c.void_type-void.ensures z),
)

pub shape_of-words : goal.shape_of-words
shape_of-words c =
    c.call_rest-q7.auto.words ∙ c.parse_type-q2.auto.words ∙ c.begin-q.auto.words

pub returns : goal.returns
unfolding parse_call call_of
returns c = (
  begin_then _ c.begin-q.ensures
      (val _ c.skip_call_cconv-q1.ensures
      (val _ c.skip_attrs-s.ensures
      (type_twice _ c.parse_type-q2.ensures (call_opened _ _)
      (λ a F. token_no _ _ c.eat_ws-q3.ensures c.looks.ensures c.if-looks.false
      (spare 0 (omega arith) (enrich (c.call_rest-q7.ensures _ _))))))),
  λ z. void_is c.begin-q.ensures.0 c.skip_call_cconv-q1.ensures c.skip_attrs-s.ensures (c.void_type-void.ensures z),
)
