use mathlib.Core.Path.{◌≡◌}
use native.Mathlib.Omega.{arith}
use Rattle.text_whole.proofs.Compare.{same_none, same_more}
use Rattle.text_whole.proofs.differ.Goals as goal

pub loop-k-init : goal.loop-k-init
loop-k-init c = λ z. same_none c.args.p c.args.q c.args.older.now c.args.newer.now

pub loop-k-preserved : goal.loop-k-preserved
loop-k-preserved c = same_more c.loop-k.k c.args.p c.args.q c.loop-k.d c.args.older.now c.args.newer.now c.loop-k.invariant

pub returns : goal.returns
returns c = let e : c.loop-k.k ≡ 64 = omega arith in rw e at c.loop-k.invariant
