-- The head begins with 0, and behind the last piece none begins; else the third word of the entry is the counter.
use Rattle.piece_directory.specs.Olds.{olds_of}
use Rattle.reread_kept.proofs.Front.{begins_head, begins_end, begins_at}
use Rattle.reread_kept.proofs.counter_at.Goals as goal

pub returns-then-number-eq0 : goal.returns-then-number-eq0
returns-then-number-eq0 c =
    rw c.if-number-eq0.true
    (begins_head
    (olds_of c.args.entries c.args.directory.now))

pub returns-then-entries-number : goal.returns-then-entries-number
returns-then-entries-number c =
    begins_end c.args.entries c.args.number c.args.directory.now c.requires c.if-entries-number.true

pub returns : goal.returns
returns c =
    rw c.entry.ensures.counter
    (begins_at c.args.entries c.args.number c.args.directory.now c.requires c.if-number-eq0.false c.if-entries-number.false)
