-- Each form of the answer is one of the two reports, of the map that the definition gives.
use Rattle.zimlokur.specs.Report.{mapped, no_map}
use Rattle.zimlokur.proofs.zimlokur_block_map.Goals as goal

pub returns-in-Some : goal.returns-in-Some
returns-in-Some c = rw (← c.block_map.ensures, c.in-Some.is) mapped

pub returns-in-None : goal.returns-in-None
returns-in-None c = rw (← c.block_map.ensures, c.in-None.is) no_map
