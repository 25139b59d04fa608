-- Without a header or children there is no step; else the payload's length, counted by its kind, gives the place behind it.
use mathlib.Core.Path.{sym, ◌∙◌}
use native.Mathlib.Omega.{arith}
use Rattle.trees.specs.Steps.{child_of}
use Rattle.record_steps.proofs.StepLaws.{within, by_length}
use Rattle.record_steps.proofs.child.Goals as goal

pub returns-then-not-is_header : goal.returns-then-not-is_header
unfolding child_of
returns-then-not-is_header c =
    simp
    (child_of, ← c.word_at-header.ensures, ← c.is_header.ensures, c.if-not-is_header.true)

pub returns-then-not-has_children : goal.returns-then-not-has_children
unfolding child_of
returns-then-not-has_children c =
    simp
    (child_of, ← c.word_at-header.ensures, ← c.is_header.ensures, c.if-not-is_header.false, ← c.has_children.ensures, c.if-not-has_children.true)

pub overflow_add-at : goal.overflow_add-at
overflow_add-at c =
    record {
      fits = omega (
        arith,
        within c.args.words.now c.args.at _ c.word_at-header.ensures
            (sym c.is_header.ensures ∙ c.if-not-is_header.false),
      );
    }

pub returns : goal.returns
returns c =
    c.step_behind.ensures ∙ by_length c.args.words.now c.args.at _ _ _ _ _ c.word_at-header.ensures (sym c.is_header.ensures ∙ c.if-not-is_header.false) (sym c.has_children.ensures ∙ c.if-not-has_children.false) c.kind_in.ensures c.detail_in.ensures c.word_at.ensures c.payload_length-payload.ensures
