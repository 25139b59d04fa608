-- Each form of the answer is one of the two reports, and the arrays are those that the re-reading left.
use Rattle.records.specs.Pieces.{refused_at, count}
use Rattle.zimlokur.specs.Report.{reports_again}
use Rattle.zimlokur.proofs.zimlokur_reparse_define.Goals as goal

pub returns-in-Ok : goal.returns-in-Ok
returns-in-Ok c = rw (← c.in-Ok.ensures) (reports_again {a = count c.in-Ok.renewed.entries})

pub returns-in-Err : goal.returns-in-Err
returns-in-Err c = rw (← c.in-Err.ensures) (reports_again {a = refused_at c.in-Err.r.question c.in-Err.r.place})
