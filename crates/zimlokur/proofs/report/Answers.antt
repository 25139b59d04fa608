-- Each form of what is told is one of the two reports.
use Rattle.zimlokur.specs.Report.{answered, turned_away}
use Rattle.zimlokur.proofs.report.Goals as goal

pub returns-in-Ok : goal.returns-in-Ok
returns-in-Ok c = rw c.in-Ok.is answered

pub returns-in-Err : goal.returns-in-Err
returns-in-Err c = rw c.in-Err.is turned_away
