-- Each form of the answer is one of the two reports, of the part that the definition gives.
use Rattle.zimlokur.specs.Report.{found, no_part}
use Rattle.zimlokur.proofs.zimlokur_name.Goals as goal

pub returns-in-Some : goal.returns-in-Some
returns-in-Some c = rw (← c.part.ensures, c.in-Some.is) found

pub returns-in-None : goal.returns-in-None
returns-in-None c = rw (← c.part.ensures, c.in-None.is) no_part
