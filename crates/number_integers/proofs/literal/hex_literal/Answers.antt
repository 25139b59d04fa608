-- From 1 to 16 digits; no digits held is question 7 too.
-- Assumes nothing.
use native.Mathlib.Omega.{arith}
use borrow.Author.Tests.{le-leb, lt-leb}
use Rattle.number_integers.specs.Literals.{hex_literal}
use Rattle.number_integers.proofs.literal.hex_literal.Goals as goal

pub returns-in_default : goal.returns-in_default
unfolding hex_literal
returns-in_default c = simp c.in_default.is

pub returns-in-1-to-16 : goal.returns-in-1-to-16
unfolding hex_literal
returns-in-1-to-16 c =
    let low = le-leb 1 c.in-Some.h.count (omega arith) in
    let high = le-leb c.in-Some.h.count 16 (omega arith) in
    simp (c.in-Some.is, low, high)

pub returns-in_default-count : goal.returns-in_default-count
unfolding hex_literal
returns-in_default-count c = let low = lt-leb 1 c.in-Some.h.count (omega arith) in simp (c.in-Some.is, low)

pub returns-in_default-count-2 : goal.returns-in_default-count-2
unfolding hex_literal
returns-in_default-count-2 c =
    let low = le-leb 1 c.in-Some.h.count (omega arith) in
    let high = lt-leb c.in-Some.h.count 16 (omega arith) in
    simp (c.in-Some.is, low, high)
