-- The calls, one behind the other.
use Rattle.buffer.specs.Laws.{and_then}
use Rattle.map_spec.specs.Drawing.{in_quotes}
use Rattle.map_spec.specs.Blocks.{name_in}
use Rattle.map_dot.proofs.quoted.put_name.Goals as goal

pub returns : goal.returns
unfolding in_quotes name_in
returns c =
    and_then c.put_all-k.ensures
    (and_then (rw c.text_in.ensures at c.put_raw-k1.ensures) c.put_all.ensures)
