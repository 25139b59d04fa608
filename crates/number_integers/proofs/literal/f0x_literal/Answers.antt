-- 8 digits, 16, or another count; no digits held is question 7 too.
-- Assumes nothing.
use native.Mathlib.Omega.{arith}
use borrow.Author.Tests.{eq-eqb, ne_eqb}
use Rattle.number_integers.specs.Literals.{f0x_literal}
use Rattle.number_integers.proofs.literal.f0x_literal.Goals as goal

pub returns-in_default : goal.returns-in_default
unfolding f0x_literal
returns-in_default c = simp c.in_default.is

pub returns-in-8 : goal.returns-in-8
unfolding f0x_literal
returns-in-8 c = simp (c.in-Some.is, eq-eqb _ 8 c.in-8.is, c.widen_bits.ensures)

pub returns-in-16 : goal.returns-in-16
unfolding f0x_literal
returns-in-16 c = simp (c.in-Some.is, c.in-16.is)

pub returns-in_default-count : goal.returns-in_default-count
unfolding f0x_literal
returns-in_default-count c =
    let n = ne_eqb c.in-Some.h.count 8 (λ e. omega arith) in
    let m = ne_eqb c.in-Some.h.count 16 (λ e. omega arith) in
    simp (c.in-Some.is, n, m)
