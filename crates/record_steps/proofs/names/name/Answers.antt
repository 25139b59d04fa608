-- The tests of the code are those of the definition, in its order; where a header stands there is room for the next place.
use mathlib.Core.Path.{sym, ◌∙◌}
use native.Mathlib.Omega.{arith}
use Rattle.record_steps.proofs.StepLaws.{within}
use Rattle.trees.specs.Steps.{name_of}
use Rattle.record_steps.proofs.names.name.Goals as goal

pub returns-then-not-is_header : goal.returns-then-not-is_header
unfolding name_of
returns-then-not-is_header c =
    simp
    (name_of, ← c.word_at-header.ensures, ← c.is_header.ensures, c.if-not-is_header.true)

pub returns-then-not-is_named : goal.returns-then-not-is_named
unfolding name_of
returns-then-not-is_named c =
    simp
    (name_of, ← c.word_at-header.ensures, ← c.is_header.ensures, c.if-not-is_header.false, ← c.kind_in.ensures, ← c.is_named.ensures, c.if-not-is_named.true)

pub overflow_add-at : goal.overflow_add-at
overflow_add-at c =
    record {
      fits = omega (
        arith,
        within c.args.words.now c.args.at _ c.word_at-header.ensures
            (sym c.is_header.ensures ∙ c.if-not-is_header.false),
      );
    }

pub returns : goal.returns
unfolding name_of
returns c =
    simp
    (name_of, ← c.word_at-header.ensures, ← c.is_header.ensures, c.if-not-is_header.false, ← c.kind_in.ensures, ← c.is_named.ensures, c.if-not-is_named.false, ← c.word_at.ensures, ← c.part.ensures)
