use Rattle.std.proofs.lemmas.Bool.{not-false, not-true}
use mathlib.Core.Path.{refl, ◌∙◌}
use native.Mathlib.Omega.{arith}
use Rattle.grammar.specs.Body.{parse_params, parse_param_list}
use Rattle.lexer.proofs.Laws.{done, val, byte_yes, byte_no, call}
use Rattle.piece_head.proofs.HeadLaws.{stay_paid, go_on_paid, params_dots, params_out, params_more, params_end}
use Rattle.piece_head.proofs.parse_param_list.Goals as goal

pub returns-then-looks : goal.returns-then-looks
unfolding parse_param_list
returns-then-looks c = (
  val _ c.eat_ws-q.ensures
      (byte_yes _ _ c.looks.ensures c.if-looks.true c.pass-q1.ensures done),
  omega arith,
)

pub loop-left-init : goal.loop-left-init
loop-left-init c = (stay_paid 2 (parse_params 65536 0 1) (omega arith), refl)

pub shape_of-words-then-looks-2 : goal.shape_of-words-then-looks-2
shape_of-words-then-looks-2 c = c.loop-left.invariant.1

pub returns-then-looks-2 : goal.returns-then-looks-2
unfolding parse_param_list
returns-then-looks-2 c = (
  val _ c.eat_ws-q.ensures
      (byte_no _ _ c.looks.ensures c.if-looks.false
      (call 2 (omega arith)
      (go_on_paid 2 c.loop-left.invariant.0
      (λ ws. params_dots c.loop-left._left c.loop-left.c c.loop-left.n ws c.loop-left-test.true c.eat_ws-r.ensures c.looks-in-loop-left.ensures c.if-looks-2.true c.three_dots-r1.ensures c.expect_token-r2.ensures)))),
  omega arith,
)

pub loop-left-preserved : goal.loop-left-preserved
loop-left-preserved c = (
  go_on_paid 2 c.loop-left.invariant.0
      (λ ws. params_more c.loop-left._left c.loop-left.c c.loop-left.n _ _ c.loop-left-test.true c.eat_ws-r.ensures c.looks-in-loop-left.ensures c.if-looks-2.false c.parse_param-x.ensures c.count_child-r4.ensures c.one_more-n.ensures ws c.comma_or-e.ensures (not-false _ c.if-not-e.false)),
  c.parse_param-x.auto.words ∙ c.loop-left.invariant.1,
)

pub shape_of-words-then-not-e : goal.shape_of-words-then-not-e
shape_of-words-then-not-e c =
    c.parse_param-x.auto.words ∙ c.loop-left.invariant.1

pub returns-then-not-e : goal.returns-then-not-e
unfolding parse_param_list
returns-then-not-e c = (
  val _ c.eat_ws-q.ensures
      (byte_no _ _ c.looks.ensures c.if-looks.false
      (call 2 (omega arith)
      (go_on_paid 2 c.loop-left.invariant.0
      (λ ws. params_end c.loop-left._left c.loop-left.c c.loop-left.n _ _ c.loop-left-test.true c.eat_ws-r.ensures c.looks-in-loop-left.ensures c.if-looks-2.false c.parse_param-x.ensures c.count_child-r4.ensures c.one_more-n.ensures ws c.comma_or-e.ensures (not-true _ c.if-not-e.true))))),
  omega arith,
)

pub shape_of-words : goal.shape_of-words
shape_of-words c = c.loop-left.invariant.1

pub returns : goal.returns
unfolding parse_param_list
returns c = (
  val _ c.eat_ws-q.ensures
      (byte_no _ _ c.looks.ensures c.if-looks.false
      (call 2 (omega arith)
      (go_on_paid 2 c.loop-left.invariant.0
      (λ ws. params_out c.loop-left._left c.loop-left.c c.loop-left.n ws c.loop-left-test.false c.refuse-q1.ensures)))),
  omega arith,
)
