use Rattle.std.proofs.lemmas.Bool.{not-false, not-true}
use Rattle.inst_calls.proofs.CallLaws.{args_of, args_more, args_end}
use Rattle.grammar.specs.Instructions.{parse_arg_list}
use Rattle.types.proofs.TypeLaws.{dots_here, dots_out}
use Rattle.lexer.proofs.Laws.{done, stay, go_on, val, byte_yes, byte_no, call}
use mathlib.Core.Path.{refl, ◌∙◌}
use native.Mathlib.Omega.{arith}
use Rattle.inst_calls.proofs.parse_arg_list.Goals as goal

pub returns-then-looks : goal.returns-then-looks
unfolding parse_arg_list
returns-then-looks c =
    val _ c.eat_ws-q.ensures
    (byte_yes _ _ c.looks.ensures c.if-looks.true c.pass-q.ensures done)

pub loop-left-init : goal.loop-left-init
loop-left-init c = (stay (args_of 65536 _), refl)

pub shape_of-words-then-looks-2 : goal.shape_of-words-then-looks-2
shape_of-words-then-looks-2 c = c.loop-left.invariant.1

pub returns-then-looks-2 : goal.returns-then-looks-2
unfolding parse_arg_list
returns-then-looks-2 c =
    val _ c.eat_ws-q.ensures
    (byte_no _ _ c.looks.ensures c.if-looks.false
    (call 0 (omega arith)
    (go_on c.loop-left.invariant.0
    (λ ws. dots_here c.loop-left._left 2 0 5 c.loop-left.m _ ws c.loop-left-test.true c.eat_ws-q-in-loop-left.ensures c.looks-in-loop-left.ensures c.if-looks-2.true c.three_dots-q.ensures c.expect_token-q.ensures))))

pub loop-left-preserved : goal.loop-left-preserved
loop-left-preserved c = (
  go_on c.loop-left.invariant.0
      (λ ws. args_more c.loop-left._left c.loop-left.m _ c.loop-left-test.true c.eat_ws-q-in-loop-left.ensures c.looks-in-loop-left.ensures c.if-looks-2.false c.arg_item-x.ensures ws c.comma_or-e.ensures (not-false _ c.if-not-e.false)),
  c.arg_item-x.auto.words ∙ c.loop-left.invariant.1,
)

pub shape_of-words-then-not-e : goal.shape_of-words-then-not-e
shape_of-words-then-not-e c = c.arg_item-x.auto.words ∙ c.loop-left.invariant.1

pub returns-then-not-e : goal.returns-then-not-e
unfolding parse_arg_list
returns-then-not-e c =
    val _ c.eat_ws-q.ensures
    (byte_no _ _ c.looks.ensures c.if-looks.false
    (call 0 (omega arith)
    (go_on c.loop-left.invariant.0
    (λ ws. args_end c.loop-left._left c.loop-left.m _ c.loop-left-test.true c.eat_ws-q-in-loop-left.ensures c.looks-in-loop-left.ensures c.if-looks-2.false c.arg_item-x.ensures ws c.comma_or-e.ensures (not-true _ c.if-not-e.true)))))

pub shape_of-words : goal.shape_of-words
shape_of-words c = c.loop-left.invariant.1

pub returns : goal.returns
unfolding parse_arg_list
returns c =
    val _ c.eat_ws-q.ensures
    (byte_no _ _ c.looks.ensures c.if-looks.false
    (call 0 (omega arith)
    (go_on c.loop-left.invariant.0
    (λ ws. dots_out c.loop-left._left 2 0 5 c.loop-left.m _ ws c.loop-left-test.false c.refuse-q.ensures))))
