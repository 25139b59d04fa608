-- The calls, one behind the other.
use Rattle.buffer.specs.Laws.{and_then}
use Rattle.map_spec.specs.Drawing.{drawing}
use Rattle.map_spec.specs.Blocks.{blocks_in, map_in}
use Rattle.map_dot.proofs.put_map.Goals as goal

pub returns : goal.returns
unfolding map_in blocks_in drawing
returns c =
    let nodes = rw c.saturating_sub-n.ensures at c.put_lines-k1.ensures in
    let edges = rw c.saturating_sub-n.ensures at c.put_lines-k2.ensures in
    and_then c.put_all-k.ensures (and_then nodes (and_then edges c.put_all.ensures))
