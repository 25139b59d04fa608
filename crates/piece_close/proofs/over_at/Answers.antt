-- The definition makes the same test.
use borrow.Author.Tests.{eq-eqb, ne_eqb}
use Rattle.grammar.specs.Body.{over_at}
use Rattle.piece_close.proofs.over_at.Goals as goal

pub returns-then-n-eq-CHILDREN : goal.returns-then-n-eq-CHILDREN
unfolding over_at
returns-then-n-eq-CHILDREN c = rw (over_at, eq-eqb _ _ c.if-n-eq-CHILDREN.true)

pub returns-else-n-eq-CHILDREN : goal.returns-else-n-eq-CHILDREN
unfolding over_at
returns-else-n-eq-CHILDREN c = rw (over_at, ne_eqb _ _ c.if-n-eq-CHILDREN.false)
