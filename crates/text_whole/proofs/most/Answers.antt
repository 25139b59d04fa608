use Prim.Native.Nat.{◌≤◌}
use native.Mathlib.Nat.{le_trans}
use borrow.Author.Count.{below_more}
use lib.Bits.{bit_or}
use lib.ListN.{get_or}
use Rattle.text_whole.proofs.Texts.{or_left, or_right}
use Rattle.text_whole.proofs.most.Goals as goal

pub loop-b-preserved : goal.loop-b-preserved
loop-b-preserved c =
    let x = get_or c.args.text.now c.loop-b.b-index 0 in
    below_more (λ k. get_or c.args.text.now k 0 ≤ bit_or c.loop-b.m x) c.loop-b.b-index
    (λ k h. le_trans (c.loop-b.invariant k h) (or_left c.loop-b.m x)) (or_right c.loop-b.m x)
