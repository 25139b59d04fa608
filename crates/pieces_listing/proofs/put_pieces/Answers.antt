use mathlib.Core.Path.{◌≡◌, refl, ◌∙◌}
use Prim.Native.Nat.{◌+◌, ◌-◌, ◌*◌}
use native.Mathlib.Omega.{arith}
use lib.ListN.{drop}
use Rattle.records.specs.Limits.{entry_words}
use Rattle.buffer.specs.Stored.{stored, placed}
use Rattle.pieces_listing.specs.Lines.{piece_lines}
use Rattle.buffer.specs.Laws.{went_on}
use Rattle.pieces_listing.proofs.Laws.{entry_there, next_line, lines_end}
use Rattle.pieces_listing.proofs.put_pieces.Goals as goal

pub loop-i-init : goal.loop-i-init
loop-i-init c = let z : c.args.n - 0 ≡ c.args.n = omega arith in (rw z, rw z, refl)

pub loop-i-preserved : goal.loop-i-preserved
loop-i-preserved c =
    let there = entry_there c.args.directory.now c.loop-i.i c.args.n (rw c.entries_there-i-end.ensures at c.loop-i-test.true) in
    let e = next_line c.args.directory.now c.loop-i.i c.args.n there.0 there.1 in
    let w = went_on (piece_lines (c.loop-i.i + 1) (c.args.n - (c.loop-i.i + 1)) (drop ((c.loop-i.i + 1) * entry_words) c.args.directory.now)) c.put_piece-k.ensures (rw e at c.loop-i.invariant.0) (rw e at c.loop-i.invariant.1) in
    (w.0, w.1, c.put_piece-k.auto.out ∙ c.loop-i.invariant.2)

pub returns : goal.returns
unfolding placed stored
returns c =
    let e = lines_end c.args.directory.now c.loop-i.i c.args.n (rw c.entries_there-i-end.ensures at c.loop-i-test.false) in
    record { place = rw e at c.loop-i.invariant.0; buffer = rw e at c.loop-i.invariant.1 }
