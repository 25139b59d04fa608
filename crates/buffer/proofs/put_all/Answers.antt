-- A byte is stored, and the rest is still to be stored.
use mathlib.Core.Path.{◌≡◌, ◌∙◌}
use mathlib.Core.List.{[]}
use lib.ListN.{drop, drop_of_length-le}
use Rattle.buffer.specs.Stored.{stored, placed}
use Rattle.program.specs.Lists.{drop_next}
use Rattle.buffer.proofs.put_all.Goals as goal

pub loop-b-preserved : goal.loop-b-preserved
unfolding placed stored
loop-b-preserved c =
    let e = drop_next c.args.bytes.now c.loop-b.b-index c.loop-b-test.true in (
      rw c.put-k.ensures.0 (rw e at c.loop-b.invariant.0),
      rw (c.put-k.ensures.0, c.put-k.ensures.1) (rw e at c.loop-b.invariant.1),
      c.put-k.auto.out ∙ c.loop-b.invariant.2,
    )

pub returns : goal.returns
unfolding placed stored
returns c =
    let e : drop c.loop-b.b-index c.args.bytes.now ≡ [] = drop_of_length-le c.args.bytes.now c.loop-b-test.false in
    record { place = rw e at c.loop-b.invariant.0; buffer = rw e at c.loop-b.invariant.1 }
