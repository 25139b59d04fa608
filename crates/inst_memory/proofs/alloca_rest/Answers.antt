use borrow.Author.Rules.{rules}
use Rattle.lexer.specs.Parsed.{Err}
use Rattle.lexer.proofs.Laws.{done, handed_on, stay, go_on, then, val, byte_yes, byte_no, word_yes, word_no, token_yes, token_no, more, no_more}
use Rattle.inst_operands.proofs.Twice.{rewind}
use Rattle.inst_memory.specs.Alloca.{counting, counted}
use Rattle.inst_operands.specs.Trailing.{align_of}
use Rattle.grammar.specs.Instructions.{clauses_in}
use Prim.Native.Nat.{◌-◌}
use mathlib.Core.Path.{◌≡◌, refl, ◌∙◌}
use mathlib.Core.Bool.{true, false}
use Rattle.std.specs.Prelude.{Some, None}
use Rattle.inst_memory.proofs.alloca_rest.Goals as goal

pub loop-left-init : goal.loop-left-init
unfolding counted align_of
loop-left-init c = (stay (λ ws. counting 16777217 (counted false ws) (align_of None)), refl)

pub loop-left-preserved-then-word : goal.loop-left-preserved-then-word
unfolding clauses_in align_of
loop-left-preserved-then-word c = (
  go_on c.loop-left.invariant.0
      (λ ws. more (λ u. counting u (counted c.loop-left.counted ws) (align_of c.loop-left.align)) c.loop-left._left c.loop-left-test.true
      (token_yes _ _ c.eat_ws-q.ensures c.looks.ensures c.if-looks.true c.pass-q.ensures
      (val _ c.eat_ws-q-then-looks.ensures
      (word_yes _ _ c.word.ensures c.if-word.true c.pass_word-q.ensures
      (val _ c.eat_ws-q-then-word.ensures
      (val _ c.parse_int-k.ensures
      (stay
      (λ ws. counting (c.loop-left._left - 1) (counted c.loop-left.counted ws) (align_of (Some _)))))))))),
  c.loop-left.invariant.1,
)

pub loop-left-preserved-then-looks-2 : goal.loop-left-preserved-then-looks-2
unfolding clauses_in
loop-left-preserved-then-looks-2 c = (
  go_on c.loop-left.invariant.0
      (λ ws. more (λ u. counting u (counted c.loop-left.counted ws) (align_of c.loop-left.align)) c.loop-left._left c.loop-left-test.true
      (token_yes _ _ c.eat_ws-q.ensures c.looks.ensures c.if-looks.true c.pass-q.ensures
      (val _ c.eat_ws-q-then-looks.ensures
      (word_no _ _ c.word.ensures c.if-word.false
      (byte_yes _ _ c.looks-else-word.ensures c.if-looks-2.true c.pass-q-then-looks-2.ensures
      (val _ c.skip_metadata_ref-q.ensures
      (stay
      (λ ws. counting (c.loop-left._left - 1) (counted c.loop-left.counted ws) (align_of c.loop-left.align))))))))),
  c.loop-left.invariant.1,
)

pub loop-left-preserved : goal.loop-left-preserved
unfolding clauses_in counted
loop-left-preserved c = (
  go_on c.loop-left.invariant.0
      (λ ws. more (λ u. counting u (counted c.loop-left.counted ws) (align_of c.loop-left.align)) c.loop-left._left c.loop-left-test.true
      (token_yes _ _ c.eat_ws-q.ensures c.looks.ensures c.if-looks.true c.pass-q.ensures
      (val _ c.eat_ws-q-then-looks.ensures
      (word_no _ _ c.word.ensures c.if-word.false
      (byte_no _ _ c.looks-else-word.ensures c.if-looks-2.false
      (rewind c.resume-q.ensures
      (then _ c.parse_typed_val-q.ensures
      (λ x. stay
      (λ ws. counting (c.loop-left._left - 1) (counted true ws) (align_of c.loop-left.align)))))))))),
  c.parse_typed_val-q.auto.words ∙ c.loop-left.invariant.1,
)

pub shape_of-words-else-looks : goal.shape_of-words-else-looks
shape_of-words-else-looks c = c.loop-left.invariant.1

pub shape_of-words-in_err-c : goal.shape_of-words-in_err-c
shape_of-words-in_err-c c = c.loop-left.invariant.1

pub returns-in_err-c : goal.returns-in_err-c
unfolding clauses_in
returns-in_err-c c =
    let e : c.from_residual.result ≡ Err (c.in_err-c.field-0.0) = search rules in
    rw e (λ n al. go_on c.loop-left.invariant.0
    (λ ws. more (λ u. counting u (counted c.loop-left.counted ws) (align_of c.loop-left.align)) c.loop-left._left c.loop-left-test.true
    (token_no _ _ c.eat_ws-q.ensures c.looks.ensures c.if-looks.false (handed_on c.in_err-c.was refl))))

pub returns-else-looks : goal.returns-else-looks
unfolding clauses_in
returns-else-looks c =
    go_on c.loop-left.invariant.0
    (λ ws. more (λ u. counting u (counted c.loop-left.counted ws) (align_of c.loop-left.align)) c.loop-left._left c.loop-left-test.true
    (token_no _ _ c.eat_ws-q.ensures c.looks.ensures c.if-looks.false (rw c.in_ok-c.was done)))

pub shape_of-words : goal.shape_of-words
shape_of-words c = c.loop-left.invariant.1

pub returns : goal.returns
unfolding clauses_in
returns c =
    go_on c.loop-left.invariant.0
    (λ ws. no_more (λ u. counting u (counted c.loop-left.counted ws)
    (align_of c.loop-left.align)) c.loop-left._left c.loop-left-test.false (rw c.in_ok-c-2.was done))

pub shape_of-words-in_err-c-2 : goal.shape_of-words-in_err-c-2
shape_of-words-in_err-c-2 c = c.loop-left.invariant.1

pub returns-in_err-c-2 : goal.returns-in_err-c-2
unfolding clauses_in
returns-in_err-c-2 c =
    let e : c.from_residual-in_err-c-2.result ≡ Err (c.in_err-c-2.field-0.0) = search rules in
    rw e (λ n al. go_on c.loop-left.invariant.0
    (λ ws. no_more (λ u. counting u (counted c.loop-left.counted ws)
    (align_of c.loop-left.align)) c.loop-left._left c.loop-left-test.false (handed_on c.in_err-c-2.was refl)))
