use Rattle.std.proofs.lemmas.Bool.{not-false, not-true}
use mathlib.Core.Path.{refl, ◌∙◌}
use native.Mathlib.Omega.{arith}
use borrow.Author.Rules.{rules}
use Rattle.lexer.proofs.Laws.{done, stay, go_on, then, val, byte_yes, byte_no, word_yes, word_no, fail_is, fail_at, call}
use Rattle.node_words.proofs.Laws.{push_then, close_is}
use Rattle.types.proofs.TypeLaws.{type_then, stuck_token, comma_out}
use Rattle.lexer.proofs.Children.{two_counted}
use Rattle.grammar.specs.Values.{conv_ops, bin_ops, pair_list, aggregate, packed_const, parse_ce_gep, parse_ce_conv, parse_ce_bin, const_exprs, parse_typed_val}
use Rattle.lexer_keywords.proofs.Ranks.{rank_paid, rank_no}
use Rattle.values.proofs.ValueLaws.{child_none, none_counted, child_some, pairs_of, pairs_more, pairs_end, indices_of, indices_more, indices_end, indices_out, holding, value_none, value_some, packed_as, pair_none, pair_some}
use Rattle.values.proofs.+value_readers.Goals as goal

pub aggregate-returns : goal.aggregate-returns
unfolding aggregate
aggregate-returns bound c =
    push_then _ c.push-q.ensures
    (then _ c.pair_list-l.ensures (λ ws. close_is _ _ _ _ c.close.ensures))

pub const_exprs-returns-then-word : goal.const_exprs-returns-then-word
unfolding const_exprs conv_ops bin_ops
const_exprs-returns-then-word bound c =
    word_yes _ _ c.word.ensures c.if-word.true c.pass_word-q.ensures
    (call 1 (omega arith) c.parse_ce_gep.ensures)

pub const_exprs-returns-in-Some : goal.const_exprs-returns-in-Some
unfolding const_exprs conv_ops bin_ops
const_exprs-returns-in-Some bound c =
    word_no _ _ c.word.ensures c.if-word.false
    (rank_paid _ _ _ (c.match_op-c.ensures.yes _ c.in-Some.is).1 tt (c.match_op-c.ensures.yes _ c.in-Some.is).0
    (call 1 (omega arith) c.parse_ce_conv.ensures))

pub const_exprs-returns-in-Some-rank : goal.const_exprs-returns-in-Some-rank
unfolding const_exprs conv_ops bin_ops
const_exprs-returns-in-Some-rank bound c =
    word_no _ _ c.word.ensures c.if-word.false
    (rank_no _ _ _ (c.match_op-c.ensures.no (search rules)).2 (c.match_op-c.ensures.no (search rules)).1
    (rank_paid _ _ _ (c.match_op-b.ensures.yes _ c.in-Some-rank.is).1 tt (c.match_op-b.ensures.yes _ c.in-Some-rank.is).0
    (call 1 (omega arith) c.parse_ce_bin.ensures)))

pub const_exprs-returns : goal.const_exprs-returns
unfolding const_exprs conv_ops bin_ops
const_exprs-returns bound c =
    word_no _ _ c.word.ensures c.if-word.false
    (rank_no _ _ _ (c.match_op-c.ensures.no (search rules)).2 (c.match_op-c.ensures.no (search rules)).1
    (rank_no _ _ _ (c.match_op-b.ensures.no (search rules)).2 (c.match_op-b.ensures.no (search rules)).1 (fail_is _ c.refuse.ensures)))

pub gep_indices-loop-left-init : goal.gep_indices-loop-left-init
gep_indices-loop-left-init bound c =
    (stay (indices_of _ 65536 3), refl)

pub gep_indices-loop-left-preserved : goal.gep_indices-loop-left-preserved
gep_indices-loop-left-preserved bound c = (
  go_on c.loop-left.invariant.0
      (λ ws. indices_more _ c.loop-left._left c.loop-left.n ws c.loop-left-test.true c.comma_or-e.ensures _ (not-false _ c.if-not-e.false) c.skip_keyword-q2.ensures c.pair_child-x.ensures),
  c.pair_child-x.auto.words ∙ c.loop-left.invariant.1,
)

pub gep_indices-returns-then-not-e : goal.gep_indices-returns-then-not-e
gep_indices-returns-then-not-e bound c =
    go_on c.loop-left.invariant.0
    (λ ws. indices_end _ c.loop-left._left c.loop-left.n ws c.loop-left-test.true c.comma_or-e.ensures (not-true _ c.if-not-e.true))

pub gep_indices-returns : goal.gep_indices-returns
gep_indices-returns bound c =
    go_on c.loop-left.invariant.0
    (λ ws. indices_out _ c.loop-left._left c.loop-left.n ws c.loop-left-test.false c.refuse-q1.ensures)

pub packed_const-returns-then-looks : goal.packed_const-returns-then-looks
unfolding packed_const
packed_const-returns-then-looks bound c =
    byte_yes _ _ c.looks.ensures c.if-looks.true c.pass-q.ensures
    (push_then _ c.push-q1.ensures
    (then _ c.pair_list-l.ensures
    (λ ws. val _ c.expect_token-q3.ensures (close_is _ _ _ _ c.close.ensures))))

pub packed_const-returns : goal.packed_const-returns
unfolding packed_const
packed_const-returns bound c =
    byte_no _ _ c.looks.ensures c.if-looks.false (fail_at _ _ c.refuse_at.ensures)

pub pair_child-returns-then-depth-eq0 : goal.pair_child-returns-then-depth-eq0
pair_child-returns-then-depth-eq0 bound c =
    (child_none _ c.if-depth-eq0.true c.eat_ws-q.ensures c.refuse-q1.ensures, none_counted 16 c.eat_ws-q.result c.refuse-q1.ensures)

pub pair_child-returns : goal.pair_child-returns
pair_child-returns bound c = (
  child_some _ _ c.count_child-r1.ensures c.one_more-k.ensures c.count_child-r3.ensures _ c.if-depth-eq0.false c.parse_type-r.ensures
      c.parse_value-r2.ensures,
  two_counted _ _ _ _ _ _ c.count_child-r1.ensures c.one_more-k.ensures c.parse_value-r2.ensures.hands c.count_child-r3.ensures c.one_more-m.ensures,
)

pub pair_list-returns-then-looks : goal.pair_list-returns-then-looks
unfolding pair_list
pair_list-returns-then-looks bound c =
    val _ c.eat_ws-q.ensures
    (byte_yes _ _ c.looks.ensures c.if-looks.true c.pass-q1.ensures done)

pub pair_list-loop-left-init : goal.pair_list-loop-left-init
unfolding pair_list
pair_list-loop-left-init bound c =
    (stay (pairs_of _ 65536 _ 0), refl)

pub pair_list-loop-left-preserved : goal.pair_list-loop-left-preserved
unfolding pair_list
pair_list-loop-left-preserved bound c = (
  go_on c.loop-left.invariant.0
      (λ ws. pairs_more _ c.loop-left._left _ c.loop-left.n _ c.loop-left-test.true c.pair_child-x.ensures ws c.comma_or-e.ensures (not-false _ c.if-not-e.false)),
  c.pair_child-x.auto.words ∙ c.loop-left.invariant.1,
)

pub pair_list-returns-then-not-e : goal.pair_list-returns-then-not-e
unfolding pair_list
pair_list-returns-then-not-e bound c =
    val _ c.eat_ws-q.ensures
    (byte_no _ _ c.looks.ensures c.if-looks.false
    (call 0 (omega arith)
    (go_on c.loop-left.invariant.0
    (λ ws. pairs_end _ c.loop-left._left _ c.loop-left.n _ c.loop-left-test.true c.pair_child-x.ensures ws c.comma_or-e.ensures (not-true _ c.if-not-e.true)))))

pub pair_list-returns : goal.pair_list-returns
unfolding pair_list
pair_list-returns bound c =
    val _ c.eat_ws-q.ensures
    (byte_no _ _ c.looks.ensures c.if-looks.false
    (call 0 (omega arith)
    (go_on c.loop-left.invariant.0
    (λ ws. comma_out c.loop-left._left 2 _ c.loop-left.n _ ws c.loop-left-test.false c.refuse-q1.ensures))))

pub parse_ce_bin-returns : goal.parse_ce_bin-returns
unfolding parse_ce_bin parse_typed_val
parse_ce_bin-returns bound c =
    push_then _ c.push-q.ensures
    (val _ c.skip_arith_flags-q1.ensures
    (val _ c.expect_token-q2.ensures
    (then _ c.parse_typed_val-q3.ensures
    (λ x. val _ c.expect_token-q4.ensures
    (then _ c.parse_typed_val-q5.ensures
    (λ y. val _ c.expect_token-q6.ensures (close_is _ _ _ _ c.close.ensures)))))))

pub parse_ce_conv-returns : goal.parse_ce_conv-returns
unfolding parse_ce_conv parse_typed_val
parse_ce_conv-returns bound c =
    push_then _ c.push-q.ensures
    (val _ c.expect_token-q1.ensures
    (then _ c.parse_typed_val-q2.ensures
    (λ x. val _ c.expect_keyword-q3.ensures
    (type_then 3 _ c.parse_type-q4.ensures (stuck_token _ _ (λ e. omega arith))
    (λ t. val _ c.expect_token-q5.ensures (close_is _ _ _ _ c.close.ensures))))))

pub parse_ce_gep-returns : goal.parse_ce_gep-returns
unfolding parse_ce_gep parse_typed_val
parse_ce_gep-returns bound c =
    val _ c.parse_gep_flags-f.ensures
    (push_then _ c.push-q1.ensures
    (val _ c.expect_token-q2.ensures
    (type_then 3 _ c.parse_type-q3.ensures (stuck_token _ _ (λ e. omega arith))
    (λ t. val _ c.expect_token-q4.ensures
    (then _ c.parse_typed_val-q5.ensures
    (λ x. then _ c.gep_indices-l.ensures (λ ws. close_is _ _ _ _ c.close.ensures)))))))

pub parse_typed_val-returns-then-depth-eq0 : goal.parse_typed_val-returns-then-depth-eq0
parse_typed_val-returns-then-depth-eq0 bound c =
    pair_none c.if-depth-eq0.true c.eat_ws-q.ensures c.refuse.ensures

pub parse_typed_val-returns : goal.parse_typed_val-returns
parse_typed_val-returns bound c =
    pair_some _ c.if-depth-eq0.false c.parse_type-q.ensures c.parse_value.ensures

pub parse_value-returns-then-depth-eq0 : goal.parse_value-returns-then-depth-eq0
unfolding holding
parse_value-returns-then-depth-eq0 bound c =
    value_none c.if-depth-eq0.true c.eat_ws-q.ensures c.refuse.ensures

pub parse_value-returns-in-Some : goal.parse_value-returns-in-Some
unfolding holding
parse_value-returns-in-Some bound c =
    value_some _ c.if-depth-eq0.false c.eat_ws-q.ensures (c.in-Some.ensures _)

pub parse_value-returns-then-looks : goal.parse_value-returns-then-looks
unfolding holding
parse_value-returns-then-looks bound c =
    value_some _ c.if-depth-eq0.false c.eat_ws-q.ensures
    (c.in_default.ensures.on _
    (byte_yes _ _ c.looks.ensures c.if-looks.true c.pass-q1.ensures (call 1 (omega arith) c.aggregate.ensures)))

pub parse_value-returns-then-looks-2 : goal.parse_value-returns-then-looks-2
unfolding holding
parse_value-returns-then-looks-2 bound c =
    value_some _ c.if-depth-eq0.false c.eat_ws-q.ensures
    (c.in_default.ensures.on _
    (byte_no _ _ c.looks.ensures c.if-looks.false
    (byte_yes _ _ c.looks-2.ensures c.if-looks-2.true c.pass-q1-then-looks-2.ensures (call 1 (omega arith) c.aggregate-then-looks-2.ensures))))

pub parse_value-returns-then-looks-3 : goal.parse_value-returns-then-looks-3
unfolding holding
parse_value-returns-then-looks-3 bound c =
    value_some _ c.if-depth-eq0.false c.eat_ws-q.ensures
    (c.in_default.ensures.on _
    (byte_no _ _ c.looks.ensures c.if-looks.false
    (byte_no _ _ c.looks-2.ensures c.if-looks-2.false
    (byte_yes _ _ c.looks-3.ensures c.if-looks-3.true c.pass-q1-then-looks-3.ensures
    (call 1 (omega arith)
    (packed_as _ _ c.place-at.ensures c.packed_const.ensures))))))

pub parse_value-returns : goal.parse_value-returns
unfolding holding
parse_value-returns bound c =
    value_some _ c.if-depth-eq0.false c.eat_ws-q.ensures
    (c.in_default.ensures.on _
    (byte_no _ _ c.looks.ensures c.if-looks.false
    (byte_no _ _ c.looks-2.ensures c.if-looks-2.false
    (byte_no _ _ c.looks-3.ensures c.if-looks-3.false c.const_exprs.ensures))))
