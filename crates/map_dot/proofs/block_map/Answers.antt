-- The text's end says whether it fits, and zeros stand behind it.
use Rattle.map_spec.specs.Buffer.{block_map}
use Rattle.map_dot.proofs.Outcomes.{whole, over_limit, over_room}
use Rattle.map_dot.proofs.block_map.Goals as goal
use Rattle.map_dot.proofs.block_map.Goals.{else-within-via-then-within+else-fits, else-within-via-else-within}

pub returns-then-fits : goal.returns-then-fits
unfolding block_map
returns-then-fits c =
    whole _ c.args.out.now _ c.put_map-n.ensures.place _ _ c.put_map-n.ensures.buffer c.put_map-n.auto.out c.if-within.true c.if-fits.true c.clear.ensures

pub returns : goal.returns
unfolding block_map
returns c =
    elim c.else-within.branch [
      | else-within-via-then-within+else-fits w ↦
          over_room _ c.args.out.now _ c.put_map-n.ensures.place c.put_map-n.new.out _ c.put_map-n.auto.out w.if-within.true w.if-fits.false c.clear-2.ensures
      | else-within-via-else-within w ↦
          over_limit _ c.args.out.now _ c.put_map-n.ensures.place c.put_map-n.new.out _ c.put_map-n.auto.out w.if-within.false c.clear-2.ensures
    ]
