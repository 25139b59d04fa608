use mathlib.Core.Path.{◌≡◌}
use native.Mathlib.Omega.{arith}
use Rattle.reread_older.proofs.Find.{passed_more, reached_here, reached_end}
use Rattle.reread_older.proofs.first_from.Goals as goal

pub loop-j-init : goal.loop-j-init
loop-j-init c = c.requires.passed

pub returns-then-target-entry : goal.returns-then-target-entry
returns-then-target-entry c =
    reached_here c.args.entries c.args.directory.now c.requires.joined c.args.target c.loop-j.j c.loop-j.invariant (omega arith) (omega arith)

pub loop-j-preserved : goal.loop-j-preserved
loop-j-preserved c =
    passed_more c.args.entries c.args.directory.now c.requires.joined c.args.target c.loop-j.j c.loop-j.invariant (omega arith) (omega arith)

pub returns : goal.returns
returns c =
    let e : c.loop-j.j ≡ c.args.entries = omega arith in
    rw e at (reached_end c.args.entries c.args.directory.now c.requires.joined c.args.target c.loop-j.j c.loop-j.invariant (omega arith) (omega arith))
