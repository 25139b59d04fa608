-- The terminator is the last child.
use mathlib.Core.Path.{refl, sym, ap, ◌∙◌}
use Rattle.trees.specs.Steps.{children_in}
use Rattle.record_steps.specs.Views.{reached}
use Rattle.buffer.specs.Stored.{stored, placed}
use Rattle.map_dot.proofs.Edges.{block_there, block_none}
use Rattle.map_dot.proofs.targets.put_edges.Goals as goal

pub returns-in-Some : goal.returns-in-Some
returns-in-Some c =
    rw (block_there _ c.args.piece.now c.args.own.now _ _ _ (sym c.child.ensures ∙ ap reached c.in-Some.is) (c.children_in.ensures ∙ ap children_in c.word_at.ensures) c.last-terminator.ensures) c.put_edges_at.ensures

pub returns-in-None : goal.returns-in-None
unfolding placed stored
returns-in-None c =
    rw (block_none _ c.args.piece.now c.args.own.now
    (sym c.child.ensures ∙ ap reached c.in-None.is)) (record { place = refl; buffer = refl })
