-- The test of the code is the definition's; where a constant stands there is room for its words' places.
use mathlib.Core.Path.{ap, ◌∙◌}
use native.Mathlib.Omega.{arith}
use Rattle.trees.specs.Steps.{kind_in}
use Rattle.channel_spec.specs.Fires.{constant_at}
use Rattle.record_blocks.proofs.Inside.{kind_inside}
use Rattle.channel_calls.proofs.Nodes.{constant_there, constant_not}
use Rattle.channel_calls.proofs.constant_at.Goals as goal

pub overflow_add-at : goal.overflow_add-at
overflow_add-at c =
    record {
      fits = omega (arith, kind_inside c.args.node.now c.in-Some.at (omega (arith, ap kind_in c.word_at.ensures, c.kind_in.ensures, c.if-kind_in-eq-K_INT_CONST.true)));
    }

pub overflow_add-at-then-kind_in-eq-K_INT_CONST : goal.overflow_add-at-then-kind_in-eq-K_INT_CONST
overflow_add-at-then-kind_in-eq-K_INT_CONST c =
    record {
      fits = omega (arith, c.well_formed, kind_inside c.args.node.now c.in-Some.at (omega (arith, ap kind_in c.word_at.ensures, c.kind_in.ensures, c.if-kind_in-eq-K_INT_CONST.true)));
    }

pub returns-then-kind_in-eq-K_INT_CONST : goal.returns-then-kind_in-eq-K_INT_CONST
returns-then-kind_in-eq-K_INT_CONST c =
    c.constant.ensures ∙ rw (c.in-Some.is, c.word_at-upper.ensures, c.word_at-then-kind_in-eq-K_INT_CONST.ensures)
    (constant_there c.args.node.now _ _ (c.kind_in.ensures ∙ ap kind_in c.word_at.ensures) c.if-kind_in-eq-K_INT_CONST.true)

pub returns-else-kind_in-eq-K_INT_CONST : goal.returns-else-kind_in-eq-K_INT_CONST
returns-else-kind_in-eq-K_INT_CONST c =
    rw c.in-Some.is
    (constant_not c.args.node.now _ _ (c.kind_in.ensures ∙ ap kind_in c.word_at.ensures) c.if-kind_in-eq-K_INT_CONST.false)

pub returns-in-None : goal.returns-in-None
unfolding constant_at
returns-in-None c = rw c.in-None.is
