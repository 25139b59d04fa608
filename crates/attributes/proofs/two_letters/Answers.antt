-- At a cursor by `letters_at`; a refusal has no letters.
use Rattle.attributes.proofs.two_letters.Goals as goal

pub returns-in-Ok : goal.returns-in-Ok
returns-in-Ok c = rw c.in-Ok.is c.letters_at.ensures
