use native.Mathlib.Omega.{arith}
use Rattle.piece_directory.specs.Olds.{olds_of}
use Rattle.reread_older.proofs.Find.{seeking_first, seeking_next, found_here, found_none, found_end}
use Rattle.reread_older.proofs.find_old.Goals as goal

pub loop-j-init : goal.loop-j-init
loop-j-init c =
    seeking_first (olds_of c.args.entries c.args.directory.now) c.args.target c.args.counter c.first_from-first.result c.first_from-first.ensures

pub returns-then-target-old : goal.returns-then-target-old
returns-then-target-old c =
    found_none c.args.entries c.args.directory.now c.requires.joined c.args.target c.args.counter c.loop-j.j c.loop-j.invariant c.first_from-first.result c.first_from-first.ensures (omega arith) (omega arith)

pub returns-then-old-counter : goal.returns-then-old-counter
returns-then-old-counter c =
    found_here c.args.entries c.args.directory.now c.requires.joined c.args.target c.args.counter c.loop-j.j c.loop-j.invariant (omega arith) (omega arith) (rw c.entry-old.ensures.counter at c.if-old-counter.true)

pub loop-j-preserved : goal.loop-j-preserved
loop-j-preserved c =
    seeking_next c.args.entries c.args.directory.now c.requires.joined c.args.target c.args.counter c.loop-j.j c.loop-j.invariant (omega arith) (rw c.entry-old.ensures.counter at c.if-old-counter.false)

pub returns : goal.returns
returns c =
    found_end c.args.entries c.args.directory.now c.requires.joined c.args.target c.args.counter c.loop-j.j c.loop-j.invariant c.first_from-first.result c.first_from-first.ensures (omega arith)
