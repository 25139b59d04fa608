-- The step is the one that the definition gives.
use Rattle.zimlokur.proofs.zimlokur_child.Goals as goal

pub returns : goal.returns
returns c = rw c.child.ensures at c.report_step.ensures
