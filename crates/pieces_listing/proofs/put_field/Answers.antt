-- The two calls, one behind the other.
use Rattle.pieces_listing.specs.Lines.{field}
use Rattle.buffer.specs.Laws.{and_then}
use Rattle.pieces_listing.proofs.put_field.Goals as goal

pub returns : goal.returns
unfolding field
returns c = and_then c.put_all-k.ensures c.put_decimal.ensures
