use mathlib.Core.Path.{◌≡◌}
use Prim.Native.Nat.{◌+◌, ◌-◌, ◌*◌, ◌/◌}
use native.Mathlib.Omega.{arith}
use Rattle.text_whole.proofs.Compare.{ends_none, ends_block}
use Rattle.text_whole.proofs.end_blocks.Goals as goal

pub loop-k-init : goal.loop-k-init
loop-k-init c = ends_none c.args.older.now c.args.newer.now c.args.a

pub loop-k-preserved : goal.loop-k-preserved
loop-k-preserved c =
    let e : (c.loop-k.k + 1) * 64 ≡ c.loop-k.k * 64 + 64 = omega arith in
    rw e (ends_block c.args.older.now c.args.newer.now c.args.a (omega arith) (omega arith) (c.loop-k.k * 64) (omega arith) (omega arith) (c.differ.ensures c.if-differ-ne0.false) c.loop-k.invariant)

pub returns : goal.returns
returns c = let e : c.loop-k.k ≡ (c.min.result - c.args.a) / 64 = omega arith in rw e at c.loop-k.invariant
