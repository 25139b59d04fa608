-- The step is the one that the definition gives.
use Rattle.zimlokur.proofs.zimlokur_next.Goals as goal

pub returns : goal.returns
returns c = rw c.next.ensures at c.report_step.ensures
