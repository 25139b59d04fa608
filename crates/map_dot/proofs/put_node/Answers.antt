-- The calls, one behind the other.
use Rattle.buffer.specs.Laws.{and_then}
use Rattle.map_spec.specs.Drawing.{node_line}
use Rattle.map_dot.proofs.put_node.Goals as goal

pub returns : goal.returns
unfolding node_line
returns c = and_then c.put_block-k.ensures c.put_all.ensures
