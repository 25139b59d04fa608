-- A turn of the loop is a step of the definition, whichever of the two it writes; at a refusal any program is refused.
use Rattle.inst_terminators.proofs.SwitchLaws.{cases_start, cases_end, cases_more, cases_stop, cases_out}
use Rattle.inst_operands.proofs.Twice.{kept_on}
use mathlib.Core.Path.{sym, ◌∙◌}
use Rattle.inst_terminators.proofs.switch.switch_cases.Goals as goal

pub loop-left-init : goal.loop-left-init
loop-left-init g c = λ is h. cases_start is

pub returns-then-looks : goal.returns-then-looks
returns-then-looks g c = λ is h.
    kept_on (c.loop-left.invariant is h)
    (λ left written. cases_end _ _ c.loop-left-test.true c.eat_ws-q.ensures is left written c.looks.ensures c.if-looks.true c.pass-q.ensures)

pub returns-then-is_err : goal.returns-then-is_err
returns-then-is_err g c = λ is h.
    kept_on (c.loop-left.invariant is h)
    (λ left written. cases_stop _ _ c.loop-left-test.true c.eat_ws-q.ensures c.looks.ensures c.if-looks.false c.case_int-c.ensures c.target-t.ensures c.count_child-q.ensures is left written (sym c.is_err.ensures.value ∙ c.if-is_err.true))

pub loop-left-preserved : goal.loop-left-preserved
loop-left-preserved g c = λ is h.
    kept_on (c.loop-left.invariant is h)
    (λ left written. cases_more _ _ c.loop-left-test.true c.eat_ws-q.ensures c.looks.ensures c.if-looks.false c.case_int-c.ensures c.target-t.ensures c.count_child-q.ensures is left written _ c.one_more-n.ensures (h _ _ _ _ _ _ c.write-q.ensures))

pub returns : goal.returns
returns g c = λ is h.
    kept_on (c.loop-left.invariant is h)
    (λ left written. cases_out _ _ is left written c.loop-left-test.false c.refuse-q.ensures)
