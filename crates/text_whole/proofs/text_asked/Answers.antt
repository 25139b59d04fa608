-- Where no byte exceeds 127 nothing is left to ask; else the first that does is question 2's place.
use mathlib.Core.Path.{sym}
use native.Mathlib.Nat.{zero-add, le_trans}
use Rattle.records.specs.Questions.{q_ascii}
use Rattle.records.specs.Pieces.{fine, refused}
use Rattle.text_whole.proofs.Texts.{too_long, asked_is, all_low, high_at}
use Rattle.text_whole.proofs.text_asked.Goals as goal

pub returns-then-text-gt-TEXT_LIMIT : goal.returns-then-text-gt-TEXT_LIMIT
returns-then-text-gt-TEXT_LIMIT c = sym (too_long c.args.text.now c.if-text-gt-TEXT_LIMIT.true)

pub returns-then-most-le-BYTE_LIMIT : goal.returns-then-most-le-BYTE_LIMIT
returns-then-most-le-BYTE_LIMIT c =
    sym
    (asked_is c.args.text.now fine c.if-text-gt-TEXT_LIMIT.false
    (all_low 0 c.args.text.now
    (λ k h. le_trans (c.most.ensures k h) c.if-most-le-BYTE_LIMIT.true)))

pub returns-in-Some : goal.returns-in-Some
returns-in-Some c =
    sym
    (asked_is c.args.text.now (refused q_ascii c.in-Some.place) c.if-text-gt-TEXT_LIMIT.false
    (rw zero-add at (high_at 0 c.in-Some.place c.args.text.now c.in-Some.ensures.0 c.in-Some.ensures.1 c.in-Some.ensures.2)))

pub returns : goal.returns
returns c = sym (asked_is c.args.text.now fine c.if-text-gt-TEXT_LIMIT.false (all_low 0 c.args.text.now c.in_default.ensures))
