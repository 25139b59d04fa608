-- The table's rule is one computed equation; a number behind the table is no kind's.
use Rattle.record_steps.proofs.PayloadLaws.{alike, beyond}
use Rattle.record_steps.proofs.payloads.alike.Goals as goal

pub returns-then-kind-lt64 : goal.returns-then-kind-lt64
returns-then-kind-lt64 c = alike _ c.if-kind-lt64.true

pub returns-else-kind-lt64 : goal.returns-else-kind-lt64
returns-else-kind-lt64 c = beyond _ c.if-kind-lt64.false
