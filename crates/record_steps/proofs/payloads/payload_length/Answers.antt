-- The kind that is counted alike tells how many words there are, and each way is counted by computation.
use Rattle.record_steps.proofs.PayloadLaws.{none_there, one_there, two_there, aligned, alloca_aligned, cases, counted, uncounted}
use borrow.Author.Rules.{rules}
use Rattle.record_steps.proofs.payloads.payload_length.Goals as goal

pub returns-in-1 : goal.returns-in-1
returns-in-1 c = counted _ _ _ _ _ c.alike.ensures c.in-1.is (none_there _ _)

pub returns-in-2 : goal.returns-in-2
returns-in-2 c = counted _ _ _ _ _ c.alike.ensures c.in-2.is (one_there _ _)

pub returns-in-18 : goal.returns-in-18
returns-in-18 c = counted _ _ _ _ _ c.alike.ensures c.in-18.is (two_there _ _)

pub returns-in-39 : goal.returns-in-39
returns-in-39 c = counted _ _ _ _ _ c.alike.ensures c.in-39.is (aligned _ _)

pub returns-in-41 : goal.returns-in-41
returns-in-41 c = counted _ _ _ _ _ c.alike.ensures c.in-41.is (alloca_aligned _ _)

pub returns-in-54 : goal.returns-in-54
returns-in-54 c = counted _ _ _ _ _ c.alike.ensures c.in-54.is (cases _ _)

pub returns-in_default : goal.returns-in_default
returns-in_default c = uncounted _ _ _ _ c.alike.ensures (search rules)
