-- The calls, one behind the other.
use Rattle.buffer.specs.Laws.{and_then}
use Rattle.map_spec.specs.Drawing.{edge_line}
use Rattle.map_dot.proofs.targets.put_edge.Goals as goal

pub returns : goal.returns
unfolding edge_line
returns c =
    and_then c.put_block-k.ensures
    (and_then c.put_all-k1.ensures
    (and_then c.put_name-k2.ensures c.put_all.ensures))
