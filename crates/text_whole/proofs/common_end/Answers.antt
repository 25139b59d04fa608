use mathlib.Core.Path.{◌≡◌, ◌∙◌}
use Prim.Native.Nat.{◌-◌, ◌≤◌}
use native.Mathlib.Omega.{arith}
use lib.ListN.{length}
use Rattle.text_whole.proofs.Compare.{ends_more, shorter_out, ends_differ, end_is}
use Rattle.theorem_refusals.specs.Common.{common_le_older, common_le_newer}
use Rattle.text_whole.proofs.common_end.Goals as goal

pub end_blocks-c-requires : goal.end_blocks-c-requires
end_blocks-c-requires c =
    (omega (arith, common_le_older c.args.older.now c.args.newer.now), omega (arith, common_le_newer c.args.older.now c.args.newer.now))

pub loop-c-init : goal.loop-c-init
loop-c-init c = c.end_blocks-c.ensures

pub overflow_sub-left : goal.overflow_sub-left
overflow_sub-left c = omega (arith, common_le_older c.args.older.now c.args.newer.now, common_le_newer c.args.older.now c.args.newer.now)

pub returns-then-older-c : goal.returns-then-older-c
returns-then-older-c c =
    let x : c.args.a ≤ length c.args.older.now = omega (arith, common_le_older c.args.older.now c.args.newer.now) in
    let y : c.args.a ≤ length c.args.newer.now = omega (arith, common_le_newer c.args.older.now c.args.newer.now) in
    ends_differ c.args.older.now c.args.newer.now c.args.a x y c.loop-c.c c.loop-c.invariant (omega arith) (omega arith) c.if-older-c.true ∙ end_is c.args.older.now c.args.newer.now c.args.a c.requires

pub loop-c-preserved : goal.loop-c-preserved
loop-c-preserved c =
    let x : c.args.a ≤ length c.args.older.now = omega (arith, common_le_older c.args.older.now c.args.newer.now) in
    let y : c.args.a ≤ length c.args.newer.now = omega (arith, common_le_newer c.args.older.now c.args.newer.now) in
    ends_more c.args.older.now c.args.newer.now c.args.a x y c.loop-c.c c.loop-c.invariant (omega arith) (omega arith) c.if-older-c.false

pub returns : goal.returns
returns c =
    let x : c.args.a ≤ length c.args.older.now = omega (arith, common_le_older c.args.older.now c.args.newer.now) in
    let y : c.args.a ≤ length c.args.newer.now = omega (arith, common_le_newer c.args.older.now c.args.newer.now) in
    let e : c.loop-c.c ≡ c.min.result - c.args.a = omega arith in
    rw e at (shorter_out c.args.older.now c.args.newer.now c.args.a x y c.loop-c.c c.loop-c.invariant (omega arith) ∙ end_is c.args.older.now c.args.newer.now c.args.a c.requires)
