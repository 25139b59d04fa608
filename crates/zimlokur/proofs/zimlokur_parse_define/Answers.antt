-- Each form of the answer is one of the two reports, and the arrays are those that the reading left.
use Rattle.records.specs.Pieces.{refused_at, count}
use Rattle.zimlokur.specs.Report.{reports}
use Rattle.zimlokur.proofs.zimlokur_parse_define.Goals as goal

pub returns-in-Ok : goal.returns-in-Ok
returns-in-Ok c = rw (← c.in-Ok.ensures) (reports {a = count c.in-Ok.n})

pub returns-in-Err : goal.returns-in-Err
returns-in-Err c = rw (← c.in-Err.ensures) (reports {a = refused_at c.in-Err.r.question c.in-Err.r.place})
