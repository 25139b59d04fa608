-- A step that is made goes forward, so the comparison of the places says whether one was made.
use Rattle.trees.specs.Steps.{next_of}
use Rattle.record_steps.specs.Bounds.{next_forward}
use Rattle.record_steps.proofs.MoveLaws.{moves}
use Rattle.record_steps.proofs.handle.Handle.next.Goals as goal

pub returns : goal.returns
returns c =
    let h = c.args.self.now in
    moves h (next_of h.words.now h.at c.args.end) _ c.next_or_stay-to.ensures (λ m i. (next_forward h.words.now h.at c.args.end m i).0)
