-- The code's calls are the definition's steps in the same order; at a `(` behind the type `no_paren` refuses as the code does.
use Rattle.lexer.proofs.Laws.{then, val, byte_at_yes, byte_at_no, fail_is}
use Rattle.node_words.proofs.Laws.{begin_then}
use Rattle.types.proofs.TypeLaws.{type_then}
use Rattle.inst_operands.proofs.OperandLaws.{stuck_paren}
use Rattle.grammar.specs.Instructions.{no_paren, parse_conv}
use Rattle.inst_operations.proofs.parse_conv.Goals as goal

pub returns-then-looks : goal.returns-then-looks
unfolding parse_conv no_paren
returns-then-looks c =
    begin_then _ c.begin-q.ensures
    (val _ c.skip_conv_flags-q1.ensures
    (then _ c.parse_typed_val-q2.ensures
    (λ x. val _ c.expect_keyword-q3.ensures
    (type_then 8 _ c.parse_type-q4.ensures (stuck_paren _)
    (λ t. byte_at_yes _ _ c.looks.ensures c.if-looks.true (fail_is _ c.refuse.ensures))))))

pub returns : goal.returns
unfolding parse_conv no_paren
returns c =
    begin_then _ c.begin-q.ensures
    (val _ c.skip_conv_flags-q1.ensures
    (then _ c.parse_typed_val-q2.ensures
    (λ x. val _ c.expect_keyword-q3.ensures
    (type_then 8 _ c.parse_type-q4.ensures (stuck_paren _)
    (λ t. byte_at_no _ _ c.looks.ensures c.if-looks.false
    (c.end.ensures _))))))
