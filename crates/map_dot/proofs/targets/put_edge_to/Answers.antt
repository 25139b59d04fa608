-- The test of the code is the definition's; where a name stands there is room for the next place.
use mathlib.Core.Path.{ap, refl, ◌∙◌}
use native.Mathlib.Omega.{arith}
use Rattle.buffer.specs.Stored.{stored, placed}
use Rattle.trees.specs.Steps.{kind_in}
use Rattle.record_blocks.proofs.Inside.{kind_inside}
use Rattle.map_dot.proofs.Edges.{edge_here, no_edge_here}
use Rattle.map_dot.proofs.targets.put_edge_to.Goals as goal

pub overflow_add-place : goal.overflow_add-place
overflow_add-place c =
    record {
      fits = omega (
        arith,
        kind_inside c.args.own.now c.args.place
            (omega (arith, ap kind_in c.word_at.ensures, c.kind_in.ensures, c.if-kind_in-eq-K_NAME.true)),
      );
    }

pub returns-then-kind_in-eq-K_NAME : goal.returns-then-kind_in-eq-K_NAME
returns-then-kind_in-eq-K_NAME c =
    rw (edge_here _ c.args.piece.now c.args.own.now c.args.place (c.kind_in.ensures ∙ ap kind_in c.word_at.ensures) c.if-kind_in-eq-K_NAME.true, ← c.word_at-then-kind_in-eq-K_NAME.ensures) c.put_edge.ensures

pub returns : goal.returns
unfolding placed stored
returns c =
    rw (no_edge_here _ c.args.piece.now c.args.own.now c.args.place (c.kind_in.ensures ∙ ap kind_in c.word_at.ensures) c.if-kind_in-eq-K_NAME.false) (record { place = refl; buffer = refl })
