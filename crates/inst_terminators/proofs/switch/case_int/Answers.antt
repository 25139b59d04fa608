-- The value's first three words are those that the definition takes apart, also where the value has more of them or fewer, and only an integer has
-- the integer's header.
use Rattle.inst_terminators.proofs.SwitchLaws.{case_yes, case_no}
use Rattle.inst_terminators.proofs.switch.case_int.Goals as goal

pub returns-then-h-eq-INT_HEADER : goal.returns-then-h-eq-INT_HEADER
returns-then-h-eq-INT_HEADER c =
    case_yes _ _ _ _ _ _ c.restart-q.ensures c.parse_operand-q1.ensures c.parse_operand-q1.auto.words c.join-q2.ensures _ _ _ c.taken-h.ensures c.taken-hi.ensures c.taken-lo.ensures c.if-h-eq-INT_HEADER.true

pub returns : goal.returns
returns c =
    case_no _ _ _ _ _ _ c.restart-q.ensures c.parse_operand-q1.ensures c.parse_operand-q1.auto.words c.join-q2.ensures _ _ _ c.taken-h.ensures c.taken-hi.ensures c.taken-lo.ensures c.if-h-eq-INT_HEADER.false c.refuse-q3.ensures
