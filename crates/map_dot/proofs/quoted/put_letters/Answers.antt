-- A letter is stored, and the rest is still to be stored.
use mathlib.Core.Path.{◌≡◌, ◌∙◌}
use mathlib.Core.List.{[]}
use Prim.Native.Nat.{◌+◌, ◌≤◌}
use lib.ListN.{length, drop, drop_of_length-le}
use Rattle.program.specs.Lists.{drop_next}
use Rattle.buffer.specs.Stored.{stored, placed}
use Rattle.buffer.specs.Laws.{went_on}
use Rattle.map_spec.specs.Drawing.{letters}
use Rattle.map_dot.proofs.quoted.put_letters.Goals as goal

pub loop-x-preserved : goal.loop-x-preserved
unfolding letters
loop-x-preserved c =
    let e = drop_next c.args.raw.now c.loop-x.x-index c.loop-x-test.true in
    let w = went_on (letters (drop (c.loop-x.x-index + 1) c.args.raw.now)) (rw c.from.ensures at c.put_letter-k.ensures) (rw e at c.loop-x.invariant.0) (rw e at c.loop-x.invariant.1) in
    (w.0, w.1, c.put_letter-k.auto.out ∙ c.loop-x.invariant.2)

pub returns : goal.returns
unfolding letters placed stored
returns c =
    let l : length c.args.raw.now ≤ c.loop-x.x-index = c.loop-x-test.false in
    let e : drop c.loop-x.x-index c.args.raw.now ≡ [] = drop_of_length-le c.args.raw.now l in
    record { place = rw e at c.loop-x.invariant.0; buffer = rw e at c.loop-x.invariant.1 }
