-- The operand and the labels are read twice from the same places and are the same both times: first for where they end, then to stand behind the
-- integers. The byte `[` pays for the count's word, which is filled in at the end.
use Rattle.inst_terminators.proofs.SwitchLaws.{shows_labels, switch_close}
use Rattle.inst_operands.proofs.Twice.{found_on, dry_then, kept_then, shows_made, resume_out, again_then}
use Rattle.grammar.specs.Instructions.{cases, parse_switch}
use lib.ListN.{length}
use Prim.Native.Nat.{◌+◌}
use Rattle.inst_operands.proofs.RichLaws.{enrich}
use Rattle.lexer.proofs.Laws.{val, val_paid, spare, write_then}
use Rattle.lexer_names.proofs.Passed.{passes_token}
use Rattle.node_words.proofs.Laws.{push_then}
use Rattle.std.proofs.Common.{rules}
use mathlib.Core.Bool.{true, false}
use mathlib.Core.Path.{◌∙◌}
use native.Mathlib.Omega.{arith}
use Rattle.inst_terminators.proofs.switch.parse_switch.Goals as goal

pub shape_of-words : goal.shape_of-words
shape_of-words c =
    c.close.auto.words ∙ c.patch-q8.auto.words ∙ c.switch_cases-l.auto.words ∙ c.label_node-q6.auto.words ∙ c.parse_typed_val-z1.auto.words ∙ c.switch_cases-c.auto.words ∙ c.push-p2.auto.words ∙ c.push-p1.auto.words

pub returns : goal.returns
unfolding parse_switch
returns c =
    let ints-first = c.switch_cases-c.ensures false (λ a p k l q b e. search rules) in
    push_then _ c.push-p1.ensures
    (push_then _ c.push-p2.ensures
    (dry_then _ c.pass_typed_val-q.ensures.reads c.join-q1.ensures
    (λ x F. val _ c.target-d.ensures
    (val_paid _ 1 (passes_token 91) c.expect_token-p3.ensures
    (kept_then _ (λ labels ints. cases c.switch_cases-c.result.n ints labels) ints-first
    (λ labels ints G. val _ c.parse_trailing-t.ensures
    (spare (length x + (2 + (length labels + 0))) (omega arith)
    (again_then (found_on (found_on (found_on (found_on F c.target-d.ensures.hands) c.expect_token-p3.ensures.hands) ints-first.hands) c.parse_trailing-t.ensures.hands) shows_made c.resume-z.ensures c.parse_typed_val-z1.ensures c.resume-q5.ensures
    (write_then _ 2 (c.label_node-q6.ensures _)
    (again_then (found_on (found_on (found_on G c.parse_trailing-t.ensures.hands)
    (resume_out c.parse_typed_val-z1.result c.parse_trailing-t.result.p c.resume-q5.ensures))
    (c.label_node-q6.ensures c.args.text.now).hands) (shows_labels _ _ ints labels) c.resume-z2.ensures (c.switch_cases-l.ensures true (λ a p k l q b e text. search rules)) c.resume-q7.ensures
    (enrich
    (switch_close x ints labels _ _ _ c.saturating_sub-count.ensures c.patch-q8.ensures c.close.ensures))))))))))))
