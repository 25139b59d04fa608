use mathlib.Core.Path.{sym, ap, ◌∙◌}
use Rattle.number_numerals.specs.Steps.{next_of}
use Rattle.number_numerals.proofs.Onward.{going_start, going_on, going_stop, going_past}
use Rattle.number_numerals.proofs.reads.fold_on.Goals as goal

pub loop-i-init : goal.loop-i-init
loop-i-init c = going_start _ _ _

pub returns-in-None : goal.returns-in-None
unfolding next_of
returns-in-None c =
    rw c.in_ok-c.was
    (going_stop _ c.loop-i.invariant c.loop-i-test.true (sym c.next_phase.ensures ∙ ap next_of c.in-None.is))

pub loop-i-preserved : goal.loop-i-preserved
unfolding next_of
loop-i-preserved c =
    going_on c.in_ok-c.c c.loop-i.invariant _ c.loop-i-test.true (sym c.next_phase.ensures ∙ ap next_of c.in-Some.is) c.take-s.ensures

pub returns : goal.returns
returns c = rw c.in_ok-c.was (going_past _ c.loop-i.invariant c.loop-i.auto.i c.loop-i-test.false c.max.ensures)
