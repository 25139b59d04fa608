use mathlib.Core.Path.{◌≡◌}
use native.Mathlib.Omega.{arith}
use Rattle.text_whole.proofs.Compare.{shares_more, shorter_ends, bytes_differ}
use Rattle.text_whole.proofs.common.Goals as goal

pub loop-i-init : goal.loop-i-init
loop-i-init c = c.common_blocks-i.ensures

pub returns-then-older-i : goal.returns-then-older-i
returns-then-older-i c = bytes_differ c.args.older.now c.args.newer.now c.loop-i.i c.loop-i.invariant (omega arith) (omega arith) c.if-older-i.true

pub loop-i-preserved : goal.loop-i-preserved
loop-i-preserved c = shares_more c.args.older.now c.args.newer.now c.loop-i.i (omega arith) (omega arith) c.if-older-i.false c.loop-i.invariant

pub returns : goal.returns
returns c =
    let e : c.loop-i.i ≡ c.min-shorter.result = omega arith in
    rw e at (shorter_ends c.args.older.now c.args.newer.now c.loop-i.i c.loop-i.invariant (omega arith))
