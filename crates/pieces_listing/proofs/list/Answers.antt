-- The calls, one behind the other.
use Rattle.pieces_listing.specs.Lines.{listing}
use Rattle.buffer.specs.Laws.{and_then}
use Rattle.pieces_listing.proofs.list.Goals as goal

pub returns : goal.returns
unfolding listing
returns c =
    let end = rw c.words_end-end.ensures at c.put_decimal-k3.ensures in
    and_then c.put_all-k.ensures (and_then c.put_decimal-k1.ensures (and_then c.put_all-k2.ensures (and_then end (and_then c.put_all-k4.ensures c.put_pieces.ensures))))
