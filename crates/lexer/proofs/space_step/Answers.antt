-- The tests of `space_step` in their order.
use borrow.Author.Tests.{eq-eqb, ne_eqb}
use Rattle.program.specs.Class.{is_space}
use Rattle.grammar.specs.Lexer.{space_step}
use Rattle.lexer.proofs.space_step.Goals as goal

pub returns-then-b-eq10 : goal.returns-then-b-eq10
unfolding space_step
returns-then-b-eq10 c = rw (ne_eqb _ _ c.if-q-ne0.true, eq-eqb _ _ c.if-b-eq10.true)

pub returns-else-b-eq10 : goal.returns-else-b-eq10
unfolding space_step
returns-else-b-eq10 c = rw (ne_eqb _ _ c.if-q-ne0.true, ne_eqb _ _ c.if-b-eq10.false)

pub returns-then-b-eq59 : goal.returns-then-b-eq59
unfolding space_step
returns-then-b-eq59 c = rw (eq-eqb _ _ c.if-q-ne0.false, eq-eqb _ _ c.if-b-eq59.true)

pub returns-then-class-eq-SPACE : goal.returns-then-class-eq-SPACE
unfolding space_step is_space
returns-then-class-eq-SPACE c =
    rw
    (eq-eqb _ _ c.if-q-ne0.false, ne_eqb _ _ c.if-b-eq59.false, ← c.class.ensures, eq-eqb _ _ c.if-class-eq-SPACE.true)

pub returns-else-class-eq-SPACE : goal.returns-else-class-eq-SPACE
unfolding space_step is_space
returns-else-class-eq-SPACE c =
    rw
    (eq-eqb _ _ c.if-q-ne0.false, ne_eqb _ _ c.if-b-eq59.false, ← c.class.ensures, ne_eqb _ _ c.if-class-eq-SPACE.false)
