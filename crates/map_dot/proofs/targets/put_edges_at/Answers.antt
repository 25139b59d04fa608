-- The tests of the code are those of the definition, in its order.
use mathlib.Core.Path.{refl, sym, ap, ◌∙◌}
use Rattle.trees.specs.Steps.{kind_in, children_in}
use Rattle.record_steps.specs.Views.{reached}
use Rattle.buffer.specs.Stored.{stored, placed}
use Rattle.map_spec.specs.Blocks.{branches}
use Rattle.map_dot.proofs.Edges.{no_targets, targets_there, targets_none}
use Rattle.map_dot.proofs.targets.put_edges_at.Goals as goal

pub returns-then-not-names_targets : goal.returns-then-not-names_targets
unfolding placed stored
returns-then-not-names_targets c =
    rw (no_targets _ c.args.piece.now c.args.own.now c.args.terminator
    (sym (ap branches
    (c.kind_in.ensures ∙ ap kind_in c.word_at-header.ensures)) ∙ sym c.names_targets.ensures ∙ c.if-not-names_targets.true)) (record { place = refl; buffer = refl })

pub returns-in-Some : goal.returns-in-Some
returns-in-Some c =
    rw (targets_there _ c.args.piece.now c.args.own.now c.args.terminator _ _ (sym (ap branches
    (c.kind_in.ensures ∙ ap kind_in c.word_at-header.ensures)) ∙ sym c.names_targets.ensures ∙ c.if-not-names_targets.false) (sym c.child.ensures ∙ ap reached c.in-Some.is)
    (c.children_in.ensures ∙ ap children_in c.word_at-header.ensures)) c.put_edges_from.ensures

pub returns-in-None : goal.returns-in-None
unfolding placed stored
returns-in-None c =
    rw (targets_none _ c.args.piece.now c.args.own.now c.args.terminator
    (sym c.child.ensures ∙ ap reached c.in-None.is)) (record { place = refl; buffer = refl })
