use mathlib.Core.Path.{sym, ◌∙◌}
use Rattle.lexer_spelling.proofs.Letters.{both_more, both_other, one_more, other_more, neither}
use Rattle.lexer_spelling.proofs.same_spelling.Goals as goal

pub returns-then-x-y : goal.returns-then-x-y
returns-then-x-y c =
    sym (c.loop-x.invariant ∙ both_other _ _ _ _ _ _ c.in-Some-Some.ensures.some c.in-Some-Some.ensures'.some c.if-x-y.true)

pub loop-x-preserved : goal.loop-x-preserved
loop-x-preserved c =
    c.loop-x.invariant ∙ both_more _ _ _ _ _ _ c.in-Some-Some.ensures.some c.in-Some-Some.ensures'.some c.if-x-y.false

pub returns-in-None-None : goal.returns-in-None-None
returns-in-None-None c = sym (c.loop-x.invariant ∙ neither _ _ (rw c.in-None-None.is-0 at c.next_letter.ensures) c.in-None-None.ensures)

pub returns-in-Some-None : goal.returns-in-Some-None
returns-in-Some-None c = sym (c.loop-x.invariant ∙ one_more _ _ _ _ c.in-Some-None.ensures.some c.in-Some-None.ensures')

pub returns-in-Some-None-2 : goal.returns-in-Some-None-2
returns-in-Some-None-2 c =
    sym (c.loop-x.invariant ∙ other_more _ _ _ _ (rw c.in-Some-None.is-0 at c.next_letter.ensures) c.in-Some-None.ensures.some)
