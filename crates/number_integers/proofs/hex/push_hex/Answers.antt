-- A digit more, or more than 16.
-- Assumes nothing.
use borrow.Author.Tests.{lt-ltb, le-ltb}
use Rattle.number_integers.specs.Hex.{hex_pushed}
use Rattle.number_integers.proofs.hex.push_hex.Goals as goal

pub returns-in_err-h : goal.returns-in_err-h
unfolding hex_pushed
returns-in_err-h c = simp (c.from_residual.ensures, c.in_err-h.was)

pub returns-then-h-lt16 : goal.returns-then-h-lt16
unfolding hex_pushed
returns-then-h-lt16 c = simp (c.in_ok-h.was, lt-ltb _ _ c.if-h-lt16.true, c.from.ensures)

pub returns : goal.returns
unfolding hex_pushed
returns c = simp (c.in_ok-h.was, le-ltb _ _ c.if-h-lt16.false)
