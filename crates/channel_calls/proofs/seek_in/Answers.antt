-- A block's nodes are its children, the first where the step goes.
use mathlib.Core.Path.{sym, ap, ◌∙◌}
use Rattle.trees.specs.Steps.{children_in}
use Rattle.record_steps.specs.Views.{reached}
use Rattle.channel_calls.proofs.Seeks.{in_there, in_none}
use Rattle.channel_calls.proofs.seek_in.Goals as goal

pub returns-in-Some : goal.returns-in-Some
returns-in-Some c =
    c.seek_from.ensures ∙ in_there c.args.k c.args.piece.now c.args.own.now _ _ (sym c.child.ensures ∙ ap reached c.in-Some.is)
    (c.children_in-n.ensures ∙ ap children_in c.word_at.ensures)

pub returns-in-None : goal.returns-in-None
returns-in-None c =
    in_none c.args.k c.args.piece.now c.args.own.now
    (sym c.child.ensures ∙ ap reached c.in-None.is)
