use Rattle.std.proofs.lemmas.Bool.{not-false, not-true}
use mathlib.Core.Path.{refl, ◌∙◌}
use native.Mathlib.Omega.{arith}
use Rattle.grammar.specs.Types.{struct_fields, parse_type_list, array_type, struct_type, packed_type, suffixes}
use Rattle.lexer.proofs.Laws.{done, stay, go_on, then, val, byte_yes, byte_no, call}
use Rattle.node_words.proofs.Laws.{push_then, close_is}
use Rattle.types.proofs.TypeLaws.{type_then, stuck_token, comma_out, dots_here, dots_out, fields_of, items_more, items_end, types_of, list_more, list_end, dots_as, suffix_fun, suffix_back, suffix_star, suffix_none, suffix_out, type_none, type_some, byte_types, base_bytes, base_words}
use Rattle.types.proofs.+type_readers.Goals as goal

pub array_type-returns : goal.array_type-returns
unfolding array_type
array_type-returns bound c =
    λ n. push_then _ c.push-q.ensures
    (val _ c.eat_ws-q1.ensures
    (val _ c.parse_int-n.ensures
    (push_then _ c.push-q3.ensures
    (val _ c.expect_keyword-q4.ensures
    (type_then 3 _ c.parse_type-q5.ensures (stuck_token _ _ n)
    (λ ws. val _ c.expect_token-q6.ensures (close_is _ _ _ _ c.close.ensures)))))))

pub packed_type-returns-then-looks : goal.packed_type-returns-then-looks
unfolding packed_type
packed_type-returns-then-looks bound c =
    byte_yes _ _ c.looks.ensures c.if-looks.true c.pass-q.ensures
    (push_then _ c.push-q1.ensures
    (then _ c.parse_struct_fields-l.ensures
    (λ ws. val _ c.expect_token-q3.ensures (close_is _ _ _ _ c.close.ensures))))

pub packed_type-returns : goal.packed_type-returns
unfolding packed_type
packed_type-returns bound c =
    byte_no _ _ c.looks.ensures c.if-looks.false
    (c.array_type.ensures (λ e. omega arith))

pub parse_base_type-returns-then-looks : goal.parse_base_type-returns-then-looks
unfolding byte_types
parse_base_type-returns-then-looks bound c =
    base_bytes _ 105 c.looks.ensures c.if-looks.true (refl, refl, refl, refl, refl, refl)
    (byte_yes _ _ c.looks.ensures c.if-looks.true c.pass-q.ensures (call 2 (omega arith) c.int_type.ensures))

pub parse_base_type-returns-then-looks-2 : goal.parse_base_type-returns-then-looks-2
unfolding byte_types
parse_base_type-returns-then-looks-2 bound c =
    base_bytes _ 37 c.looks-2.ensures c.if-looks-2.true (refl, refl, refl, refl, refl, refl)
    (byte_no _ _ c.looks.ensures c.if-looks.false
    (byte_yes _ _ c.looks-2.ensures c.if-looks-2.true c.pass-q-then-looks-2.ensures (call 2 (omega arith) c.name_node.ensures)))

pub parse_base_type-returns-then-looks-3 : goal.parse_base_type-returns-then-looks-3
unfolding byte_types
parse_base_type-returns-then-looks-3 bound c =
    base_bytes _ 91 c.looks-3.ensures c.if-looks-3.true (refl, refl, refl, refl, refl, refl)
    (byte_no _ _ c.looks.ensures c.if-looks.false
    (byte_no _ _ c.looks-2.ensures c.if-looks-2.false
    (byte_yes _ _ c.looks-3.ensures c.if-looks-3.true c.pass-q-then-looks-3.ensures
    (call 2 (omega arith) (c.array_type.ensures (λ e. omega arith))))))

pub parse_base_type-returns-then-looks-4 : goal.parse_base_type-returns-then-looks-4
unfolding byte_types
parse_base_type-returns-then-looks-4 bound c =
    base_bytes _ 123 c.looks-4.ensures c.if-looks-4.true (refl, refl, refl, refl, refl, refl)
    (byte_no _ _ c.looks.ensures c.if-looks.false
    (byte_no _ _ c.looks-2.ensures c.if-looks-2.false
    (byte_no _ _ c.looks-3.ensures c.if-looks-3.false
    (byte_yes _ _ c.looks-4.ensures c.if-looks-4.true c.pass-q-then-looks-4.ensures (call 1 (omega arith) c.struct_type.ensures)))))

pub parse_base_type-returns-then-looks-5 : goal.parse_base_type-returns-then-looks-5
unfolding byte_types
parse_base_type-returns-then-looks-5 bound c =
    base_bytes _ 60 c.looks-5.ensures c.if-looks-5.true (refl, refl, refl, refl, refl, refl)
    (byte_no _ _ c.looks.ensures c.if-looks.false
    (byte_no _ _ c.looks-2.ensures c.if-looks-2.false
    (byte_no _ _ c.looks-3.ensures c.if-looks-3.false
    (byte_no _ _ c.looks-4.ensures c.if-looks-4.false
    (byte_yes _ _ c.looks-5.ensures c.if-looks-5.true c.pass-q-then-looks-5.ensures (call 2 (omega arith) c.packed_type.ensures))))))

pub parse_base_type-returns : goal.parse_base_type-returns
unfolding byte_types
parse_base_type-returns bound c =
    base_words _ c.looks.ensures c.if-looks.false c.looks-2.ensures c.if-looks-2.false c.looks-3.ensures c.if-looks-3.false
    c.looks-4.ensures c.if-looks-4.false c.looks-5.ensures c.if-looks-5.false c.keyword_type.ensures

pub parse_struct_fields-returns-then-looks : goal.parse_struct_fields-returns-then-looks
unfolding struct_fields
parse_struct_fields-returns-then-looks bound c =
    val _ c.eat_ws-q.ensures
    (byte_yes _ _ c.looks.ensures c.if-looks.true c.pass-q1.ensures done)

pub parse_struct_fields-loop-left-init : goal.parse_struct_fields-loop-left-init
unfolding struct_fields
parse_struct_fields-loop-left-init bound c =
    (stay (fields_of 65536 125 _ 0), refl)

pub parse_struct_fields-loop-left-preserved : goal.parse_struct_fields-loop-left-preserved
unfolding struct_fields
parse_struct_fields-loop-left-preserved bound c = (
  go_on c.loop-left.invariant.0
      (λ ws. items_more _ c.loop-left._left 125 c.loop-left.n _ (λ e. omega arith) c.loop-left-test.true c.parse_type-r.ensures c.count_child-r1.ensures
      c.one_more-n.ensures ws c.comma_or-e.ensures (not-false _ c.if-not-e.false)),
  c.parse_type-r.auto.words ∙ c.loop-left.invariant.1,
)

pub parse_struct_fields-returns-then-not-e : goal.parse_struct_fields-returns-then-not-e
unfolding struct_fields
parse_struct_fields-returns-then-not-e bound c =
    val _ c.eat_ws-q.ensures
    (byte_no _ _ c.looks.ensures c.if-looks.false
    (call 0 (omega arith)
    (go_on c.loop-left.invariant.0
    (λ ws. items_end _ c.loop-left._left 125 c.loop-left.n _ (λ e. omega arith) c.loop-left-test.true c.parse_type-r.ensures c.count_child-r1.ensures
    c.one_more-n.ensures ws c.comma_or-e.ensures (not-true _ c.if-not-e.true)))))

pub parse_struct_fields-returns : goal.parse_struct_fields-returns
unfolding struct_fields
parse_struct_fields-returns bound c =
    val _ c.eat_ws-q.ensures
    (byte_no _ _ c.looks.ensures c.if-looks.false
    (call 0 (omega arith)
    (go_on c.loop-left.invariant.0
    (λ ws. comma_out c.loop-left._left 1 125 c.loop-left.n _ ws c.loop-left-test.false c.refuse-q1.ensures))))

pub parse_type-returns-then-depth-eq0 : goal.parse_type-returns-then-depth-eq0
parse_type-returns-then-depth-eq0 bound c =
    type_none c.if-depth-eq0.true c.eat_ws-q.ensures c.refuse.ensures

pub parse_type-returns : goal.parse_type-returns
parse_type-returns bound c =
    type_some _ c.if-depth-eq0.false c.eat_ws-q.ensures c.parse_base_type-r.ensures c.type_suffixes.ensures

pub parse_type_list-returns-then-looks : goal.parse_type_list-returns-then-looks
unfolding parse_type_list
parse_type_list-returns-then-looks bound c =
    val _ c.eat_ws-q.ensures
    (byte_yes _ _ c.looks.ensures c.if-looks.true c.pass-q1.ensures done)

pub parse_type_list-loop-left-init : goal.parse_type_list-loop-left-init
unfolding parse_type_list
parse_type_list-loop-left-init bound c =
    (stay (types_of 65536 _ _ 1), refl, c.no_type-bad.ensures)

pub parse_type_list-returns-then-looks-2 : goal.parse_type_list-returns-then-looks-2
unfolding parse_type_list
parse_type_list-returns-then-looks-2 bound c =
    val _ c.eat_ws-q.ensures
    (byte_no _ _ c.looks.ensures c.if-looks.false
    (call 0 (omega arith)
    (go_on c.loop-left.invariant.0
    (λ ws. dots_here c.loop-left._left 1 1 _ c.loop-left.n _ ws c.loop-left-test.true c.eat_ws-r.ensures c.looks-in-loop-left.ensures c.if-looks-2.true
    (dots_as c.loop-left.invariant.2 c.three_dots-r1.ensures) c.expect_token-r2.ensures))))

pub parse_type_list-loop-left-preserved : goal.parse_type_list-loop-left-preserved
unfolding parse_type_list
parse_type_list-loop-left-preserved bound c = (
  go_on c.loop-left.invariant.0
      (λ ws. list_more _ c.loop-left._left _ c.loop-left.n _ c.loop-left-test.true c.eat_ws-r.ensures c.looks-in-loop-left.ensures c.if-looks-2.false
      c.parse_type-r3.ensures c.count_child-r4.ensures c.skip_attrs-r5.ensures c.one_more-n.ensures ws c.comma_or-e.ensures (not-false _ c.if-not-e.false)),
  c.parse_type-r3.auto.words ∙ c.loop-left.invariant.1,
  c.loop-left.invariant.2,
)

pub parse_type_list-returns-then-not-e : goal.parse_type_list-returns-then-not-e
unfolding parse_type_list
parse_type_list-returns-then-not-e bound c =
    val _ c.eat_ws-q.ensures
    (byte_no _ _ c.looks.ensures c.if-looks.false
    (call 0 (omega arith)
    (go_on c.loop-left.invariant.0
    (λ ws. list_end _ c.loop-left._left _ c.loop-left.n _ c.loop-left-test.true c.eat_ws-r.ensures c.looks-in-loop-left.ensures c.if-looks-2.false
    c.parse_type-r3.ensures c.count_child-r4.ensures c.skip_attrs-r5.ensures c.one_more-n.ensures ws c.comma_or-e.ensures (not-true _ c.if-not-e.true)))))

pub parse_type_list-returns : goal.parse_type_list-returns
unfolding parse_type_list
parse_type_list-returns bound c =
    val _ c.eat_ws-q.ensures
    (byte_no _ _ c.looks.ensures c.if-looks.false
    (call 0 (omega arith)
    (go_on c.loop-left.invariant.0
    (λ ws. dots_out c.loop-left._left 1 1 _ c.loop-left.n _ ws c.loop-left-test.false c.refuse-q1.ensures))))

pub struct_type-returns : goal.struct_type-returns
unfolding struct_type
struct_type-returns bound c =
    push_then _ c.push-q.ensures
    (then _ c.parse_struct_fields-l.ensures (λ ws. close_is _ _ _ _ c.close.ensures))

pub type_suffixes-loop-left-init : goal.type_suffixes-loop-left-init
type_suffixes-loop-left-init bound c =
    (λ t. stay (suffixes 16777217 _ _), refl)

pub type_suffixes-loop-left-preserved-then-looks-2 : goal.type_suffixes-loop-left-preserved-then-looks-2
type_suffixes-loop-left-preserved-then-looks-2 bound c = (
  λ t. go_on (c.loop-left.invariant.0 t)
      (λ ws. suffix_fun _ _ c.loop-left._left c.loop-left-test.true c.eat_ws-r.ensures ws _ _ c.looks.ensures c.if-looks.true c.pass-s.ensures
      c.parse_type_list-l.ensures c.eat_ws-s2.ensures c.looks-then-looks.ensures c.if-looks-2.true c.pass-t.ensures c.replace-q.ensures),
  c.replace-q.auto.words ∙ c.parse_type_list-l.auto.words ∙ c.loop-left.invariant.1,
)

pub type_suffixes-returns-else-looks-2 : goal.type_suffixes-returns-else-looks-2
type_suffixes-returns-else-looks-2 bound c =
    λ t. go_on (c.loop-left.invariant.0 t)
    (λ ws. suffix_back _ _ c.loop-left._left c.loop-left-test.true c.eat_ws-r.ensures ws _ _ c.looks.ensures c.if-looks.true c.pass-s.ensures
    c.parse_type_list-l.ensures c.eat_ws-s2.ensures c.looks-then-looks.ensures c.if-looks-2.false c.back_to.ensures)

pub type_suffixes-loop-left-preserved : goal.type_suffixes-loop-left-preserved
type_suffixes-loop-left-preserved bound c = (
  λ t. go_on (c.loop-left.invariant.0 t)
      (λ ws. suffix_star _ _ c.loop-left._left c.loop-left-test.true c.eat_ws-r.ensures ws c.looks.ensures c.if-looks.false
      c.opt_addrspace-s.ensures c.looks-else-looks.ensures c.if-looks-3.true c.pass-t-then-looks-3.ensures c.replace-q-then-looks-3.ensures),
  c.replace-q-then-looks-3.auto.words ∙ c.loop-left.invariant.1,
)

pub type_suffixes-returns-else-looks-3 : goal.type_suffixes-returns-else-looks-3
type_suffixes-returns-else-looks-3 bound c =
    λ t. go_on (c.loop-left.invariant.0 t)
    (λ ws. suffix_none _ _ c.loop-left._left c.loop-left-test.true c.eat_ws-r.ensures ws c.looks.ensures c.if-looks.false c.opt_addrspace-s.ensures
    c.looks-else-looks.ensures c.if-looks-3.false)

pub type_suffixes-returns : goal.type_suffixes-returns
type_suffixes-returns bound c t =
    go_on (c.loop-left.invariant.0 t) (λ ws. suffix_out _ _ _ ws c.loop-left-test.false)
