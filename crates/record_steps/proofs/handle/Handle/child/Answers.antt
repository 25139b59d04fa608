-- A step that is made goes forward, so the comparison of the places says whether one was made.
use Rattle.trees.specs.Steps.{child_of}
use Rattle.record_steps.specs.Bounds.{child_forward}
use Rattle.record_steps.proofs.MoveLaws.{moves}
use Rattle.record_steps.proofs.handle.Handle.child.Goals as goal

pub returns : goal.returns
returns c =
    let h = c.args.self.now in
    moves h (child_of h.words.now h.at) _ c.child_or_stay-to.ensures (λ m i. (child_forward h.words.now h.at m i).0)
