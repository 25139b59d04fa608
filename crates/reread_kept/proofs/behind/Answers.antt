-- Entries are joined, so where the last of them ends is the sum of their lengths.
use mathlib.Core.Path.{refl}
use native.Mathlib.Omega.{arith}
use Rattle.piece_directory.specs.Olds.{olds_of}
use Rattle.reread_kept.proofs.Front.{end_size, end_words, no_size, no_words}
use Rattle.reread_kept.proofs.behind.Goals as goal

pub returns-then-number-eq0 : goal.returns-then-number-eq0
returns-then-number-eq0 c = (
  refl,
  rw c.if-number-eq0.true
      (no_size
      (olds_of c.args.entries c.args.directory.now)),
  rw c.if-number-eq0.true
      (no_words
      (olds_of c.args.entries c.args.directory.now)),
  c.counter_at-counter.ensures,
)

pub returns : goal.returns
returns c = (
  refl,
  rw (c.entry-last.ensures.start, c.entry-last.ensures.bytes) (end_size c.args.entries c.args.number c.args.directory.now (omega arith) c.requires.number_le_entries c.requires.joined),
  rw (c.entry-last.ensures.first, c.entry-last.ensures.words) (end_words c.args.entries c.args.number c.args.directory.now (omega arith) c.requires.number_le_entries c.requires.joined),
  c.counter_at-counter.ensures,
)
