use mathlib.Core.Path.{◌≡◌}
use mathlib.Core.List.{List}
use Prim.Native.Nat.{ℕ, min}
use lib.ListN.{length, take}
use Rattle.std.proofs.lemmas.List.{take_min}
use Rattle.text_lines.proofs.Columns.{line_start, line_feed, line_more, line_end, line_past}
use Rattle.text_lines.proofs.position_of.Goals as goal
use Rattle.text_lines.proofs.position_of.Goals.{then-b-eq10, else-b-eq10}

pub loop-b-init : goal.loop-b-init
loop-b-init c = line_start _

pub loop-b-preserved : goal.loop-b-preserved
loop-b-preserved c =
    elim c.if-b-eq10.branch [
      | then-b-eq10 w ↦ rw (w.line-is, w.column-is) (line_feed _ _ _ _ c.loop-b-test.true c.loop-b.invariant w.if-b-eq10.true)
      | else-b-eq10 w ↦ rw (w.line-is, w.column-is) (line_more _ _ _ _ c.loop-b-test.true c.loop-b.invariant w.if-b-eq10.false)
    ]

-- the bytes before the place, as far as the text has them
seen : (text : List ℕ) (place m : ℕ) → m ≡ min place (length text) → take m text ≡ take place text
seen text place m e = rw (e, take_min place text)

pub returns-then-text-place : goal.returns-then-text-place
returns-then-text-place c =
    let e = seen c.args.text.now c.args.place c.min.result c.min.ensures in
    line_past c.args.text.now c.args.place _ _ _ (rw e at c.loop-b-test.false) (rw e at c.loop-b.invariant) c.if-text-place.true

pub returns-else-text-place : goal.returns-else-text-place
returns-else-text-place c =
    let e = seen c.args.text.now c.args.place c.min.result c.min.ensures in
    line_end c.args.text.now c.args.place _ _ _ (rw e at c.loop-b-test.false) (rw e at c.loop-b.invariant) c.if-text-place.false
