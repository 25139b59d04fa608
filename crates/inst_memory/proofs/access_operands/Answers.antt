-- The definition takes the same operands by the same test.
use Rattle.inst_memory.proofs.access_operands.Goals as goal

pub returns-then-store : goal.returns-then-store
returns-then-store c = rw c.if-store.true c.store_operands.ensures

pub returns : goal.returns
returns c = rw c.if-store.false c.load_operands.ensures
