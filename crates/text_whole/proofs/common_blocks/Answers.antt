use mathlib.Core.Path.{◌≡◌}
use Prim.Native.Nat.{◌+◌, ◌*◌, ◌/◌}
use native.Mathlib.Omega.{arith}
use Rattle.text_whole.proofs.Compare.{shares_none, shares_block}
use Rattle.text_whole.proofs.common_blocks.Goals as goal

pub loop-k-init : goal.loop-k-init
loop-k-init c = shares_none c.args.older.now c.args.newer.now

pub loop-k-preserved : goal.loop-k-preserved
loop-k-preserved c =
    let e : (c.loop-k.k + 1) * 64 ≡ c.loop-k.k * 64 + 64 = omega arith in
    rw e (shares_block c.args.older.now c.args.newer.now (c.loop-k.k * 64) (omega arith) (omega arith) (c.differ.ensures c.if-differ-ne0.false) c.loop-k.invariant)

pub returns : goal.returns
returns c = let e : c.loop-k.k ≡ c.min-blocks.result / 64 = omega arith in rw e at c.loop-k.invariant
