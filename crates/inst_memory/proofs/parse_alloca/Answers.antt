-- The type and the rest are read without being written first, so that the alignment can stand before them; read again from the same places they
-- are the same, and the count is written where there is one.
use borrow.Author.Rules.{rules}
use Rattle.inst_operands.specs.Trailing.{align_of}
use Rattle.inst_memory.proofs.AllocaLaws.{align_then, dry_out, again_out, joined_out, align_out, shows_count, alloca_none, alloca_some}
use Rattle.inst_operands.proofs.Twice.{found_on, dry_type, dry_then, shows_typed, resume_out, again_then}
use Rattle.inst_operands.specs.Found.{type_of}
use Rattle.inst_operands.proofs.OperandLaws.{stuck_paren}
use Rattle.grammar.specs.Instructions.{parse_alloca, no_paren}
use lib.ListN.{length}
use Prim.Native.Nat.{suc, ◌+◌}
use Rattle.inst_operands.proofs.RichLaws.{enrich}
use Rattle.lexer.proofs.Laws.{val, byte_at_yes, byte_at_no, fail_is, spare}
use Rattle.node_words.proofs.Laws.{begin_then}
use mathlib.Core.Path.{◌∙◌}
use mathlib.Core.List.{[]}
use mathlib.Core.Bool.{true, false}
use native.Mathlib.Omega.{arith}
use Rattle.std.proofs.lemmas.Bool.{not-false, not-true}
use Rattle.inst_memory.proofs.parse_alloca.Goals as goal

pub returns-then-looks : goal.returns-then-looks
unfolding parse_alloca no_paren
returns-then-looks c =
    begin_then _ c.begin-q.ensures
    (val _ c.skip_keyword-p1.ensures
    (dry_type 8 _ c.pass_type-q1.ensures.reads (stuck_paren _) c.join-p2.ensures
    (λ a F. byte_at_yes _ _ c.looks.ensures c.if-looks.true (fail_is _ c.refuse.ensures))))

pub returns-in_err-s : goal.returns-in_err-s
unfolding parse_alloca no_paren
returns-in_err-s c =
    begin_then _ c.begin-q.ensures
    (val _ c.skip_keyword-p1.ensures
    (dry_type 8 _ c.pass_type-q1.ensures.reads (stuck_paren _) c.join-p2.ensures
    (λ a F. byte_at_no _ _ c.looks.ensures c.if-looks.false
    (dry_out _ (c.in_err-s.ensures false []).reads (search rules)))))

pub shape_of-words-then-not-s : goal.shape_of-words-then-not-s
shape_of-words-then-not-s c =
    c.close.auto.words ∙ c.parse_type-z1.auto.words ∙ c.push_align-q4.auto.words ∙ c.begin-q.auto.words

pub returns-then-not-s : goal.returns-then-not-s
unfolding parse_alloca no_paren
returns-then-not-s c =
    begin_then _ c.begin-q.ensures
    (val _ c.skip_keyword-p1.ensures
    (dry_type 8 _ c.pass_type-q1.ensures.reads (stuck_paren _) c.join-p2.ensures
    (λ a F. byte_at_no _ _ c.looks.ensures c.if-looks.false
    (dry_then _ c.in_ok-s.ensures.reads c.join-q3.ensures
    (λ ws G. spare (suc (length (type_of a) + (length ws + 0))) (omega arith)
    (align_then _ c.push_align-q4.ensures
    (again_then (found_on (found_on F (joined_out _ _ c.join-q3.ensures)) (align_out _ _ _ c.push_align-q4.ensures)) (shows_typed a) c.resume-z.ensures c.parse_type-z1.ensures c.resume-q5.ensures
    (enrich
    (alloca_none _ _ _ _ ws _ (not-true _ c.if-not-s.true) c.align_bit-d.ensures c.close.ensures)))))))))

pub shape_of-words-in_err-s2 : goal.shape_of-words-in_err-s2
shape_of-words-in_err-s2 c =
    c.alloca_rest.auto.words ∙ c.parse_type-z1.auto.words ∙ c.push_align-q4.auto.words ∙ c.begin-q.auto.words

pub returns-in_err-s2 : goal.returns-in_err-s2
unfolding parse_alloca no_paren
returns-in_err-s2 c =
    begin_then _ c.begin-q.ensures
    (val _ c.skip_keyword-p1.ensures
    (dry_type 8 _ c.pass_type-q1.ensures.reads (stuck_paren _) c.join-p2.ensures
    (λ a F. byte_at_no _ _ c.looks.ensures c.if-looks.false
    (dry_then _ c.in_ok-s.ensures.reads c.join-q3.ensures
    (λ ws G. spare (suc (length (type_of a) + (length ws + 0))) (omega arith)
    (align_then _ c.push_align-q4.ensures
    (again_then (found_on (found_on F (joined_out _ _ c.join-q3.ensures)) (align_out _ _ _ c.push_align-q4.ensures)) (shows_typed a) c.resume-z.ensures c.parse_type-z1.ensures c.resume-q5.ensures
    (again_out 0 (found_on (found_on G (align_out _ _ _ c.push_align-q4.ensures))
    (resume_out c.parse_type-z1.result c.push_align-q4.result c.resume-q5.ensures)) (shows_count c.in_ok-s.s.counted true ws (align_of c.in_ok-s.s.align) [] (not-false _ c.if-not-s.false))
    (λ e x i. resume_out c.parse_type-z1.result c.push_align-q4.result c.resume-q5.ensures e x (align_out _ _ _ c.push_align-q4.ensures e x (joined_out _ _ c.join-q3.ensures e x i)))
    c.resume-z2.ensures (c.in_err-s2.ensures true []) (search rules)))))))))

pub shape_of-words : goal.shape_of-words
shape_of-words c =
    c.close-2.auto.words ∙ c.alloca_rest.auto.words ∙ c.parse_type-z1.auto.words ∙ c.push_align-q4.auto.words ∙ c.begin-q.auto.words

pub returns : goal.returns
unfolding parse_alloca no_paren
returns c =
    begin_then _ c.begin-q.ensures
    (val _ c.skip_keyword-p1.ensures
    (dry_type 8 _ c.pass_type-q1.ensures.reads (stuck_paren _) c.join-p2.ensures
    (λ a F. byte_at_no _ _ c.looks.ensures c.if-looks.false
    (dry_then _ c.in_ok-s.ensures.reads c.join-q3.ensures
    (λ ws G. spare (suc (length (type_of a) + (length ws + 0))) (omega arith)
    (align_then _ c.push_align-q4.ensures
    (again_then (found_on (found_on F (joined_out _ _ c.join-q3.ensures)) (align_out _ _ _ c.push_align-q4.ensures)) (shows_typed a) c.resume-z.ensures c.parse_type-z1.ensures c.resume-q5.ensures
    (again_then (found_on (found_on G (align_out _ _ _ c.push_align-q4.ensures))
    (resume_out c.parse_type-z1.result c.push_align-q4.result c.resume-q5.ensures)) (shows_count c.in_ok-s.s.counted c.in_ok-s2.s2.counted ws (align_of c.in_ok-s.s.align) (align_of c.in_ok-s2.s2.align) (not-false _ c.if-not-s.false)) c.resume-z2.ensures c.in_ok-s2.ensures c.resume-q6.ensures
    (enrich
    (alloca_some _ _ _ _ ws _ (not-false _ c.if-not-s.false) c.align_bit-d.ensures c.close-2.ensures))))))))))
