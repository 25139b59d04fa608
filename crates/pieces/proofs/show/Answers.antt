-- Each form of the answer is printed as the reading that it says.
use Rattle.pieces_listing.specs.Lines.{printed_of}
use Rattle.pieces.proofs.show.Goals as goal

pub returns-in-Ok : goal.returns-in-Ok
unfolding printed_of
returns-in-Ok c = rw (← c.in-Ok.ensures) c.list.ensures

pub returns-in-Err : goal.returns-in-Err
unfolding printed_of
returns-in-Err c = rw (← c.in-Err.ensures) c.refusal.ensures
