-- Each form of the step is one of the two reports.
use Rattle.zimlokur.specs.Report.{made, stays}
use Rattle.zimlokur.proofs.report_step.Goals as goal

pub returns-in-Some : goal.returns-in-Some
returns-in-Some c = rw c.in-Some.is made

pub returns-in-None : goal.returns-in-None
returns-in-None c = rw c.in-None.is stays
