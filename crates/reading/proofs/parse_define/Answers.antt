-- What the pieces do not fill is cleared; a refusal leaves zeros.
use native.Mathlib.Omega.{arith}
use lib.ListN.{length}
use Rattle.reading_full.proofs.Whole.{accepted}
use Rattle.reading.proofs.parse_define.Goals as goal

pub overflow_mul-all : goal.overflow_mul-all
overflow_mul-all c = omega (arith, c.in-Ok.ensures.1.in_dir)

pub returns-in-Ok : goal.returns-in-Ok
returns-in-Ok c =
    accepted (length c.args.words.now) (length c.args.directory.now) c.args.text.now c.in-Ok.all.entries c.in-Ok.all.words c.ask_all.new.words c.ask_all.new.directory c.clear.new.words c.clear-in-Ok.new.words c.in-Ok.ensures.0 c.in-Ok.ensures.1 c.clear.ensures c.clear-in-Ok.ensures

pub returns-in-Err : goal.returns-in-Err
returns-in-Err c = rw (c.wipe.ensures.0, c.wipe.ensures.1, c.in-Err.ensures.1, c.in-Err.ensures.2) c.in-Err.ensures.0
