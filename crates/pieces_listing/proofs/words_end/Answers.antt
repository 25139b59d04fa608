use mathlib.Core.Path.{◌≡◌, sym, ◌∙◌}
use Prim.Native.Nat.{◌-◌}
use native.Mathlib.Omega.{arith}
use Rattle.pieces_listing.proofs.Laws.{entry_there, next_end, end_end}
use Rattle.pieces_listing.proofs.words_end.Goals as goal

pub loop-i-init : goal.loop-i-init
loop-i-init c = let z : c.args.n - 0 ≡ c.args.n = omega arith in rw z

pub loop-i-preserved : goal.loop-i-preserved
loop-i-preserved c =
    let there = entry_there c.args.directory.now c.loop-i.i c.args.n (rw c.entries_there-i-end.ensures at c.loop-i-test.true) in
    sym (next_end c.args.directory.now c.loop-i.end c.loop-i.i c.args.n there.0 there.1) ∙ c.loop-i.invariant

pub returns : goal.returns
returns c = sym (end_end c.args.directory.now c.loop-i.i c.args.n (rw c.entries_there-i-end.ensures at c.loop-i-test.false) c.loop-i.end) ∙ c.loop-i.invariant
