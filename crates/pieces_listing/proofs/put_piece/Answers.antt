-- The calls, one behind the other.
use Rattle.pieces_listing.specs.Lines.{piece_line}
use Rattle.buffer.specs.Laws.{and_then}
use Rattle.pieces_listing.proofs.put_piece.Goals as goal

pub returns : goal.returns
unfolding piece_line
returns c =
    and_then c.put_decimal-k.ensures
    (and_then c.put_field-k1.ensures
    (and_then c.put_field-k2.ensures
    (and_then c.put_field-k3.ensures
    (and_then c.put_field-k4.ensures c.put_all.ensures))))
