use native.Mathlib.Omega.{arith}
use Rattle.reread_older.proofs.Chain.{asks_none, asks_short, asks_first, asks_next, asks_done, start_differs, first_differs, text_ends, words_end_lem, counter_high}
use Rattle.reread_older.proofs.chained.Goals as goal

pub returns-then-entries-lt2 : goal.returns-then-entries-lt2
returns-then-entries-lt2 c = asks_none c.args.text_len c.args.older.words c.args.older.entries c.args.directory.now c.if-entries-lt2.true

pub returns-then-directory-entries : goal.returns-then-directory-entries
returns-then-directory-entries c =
    asks_short c.args.text_len c.args.older.words c.args.older.entries c.args.directory.now (omega arith) (omega arith)

pub loop-i-init : goal.loop-i-init
loop-i-init c =
    asks_first c.args.text_len c.args.older.words c.args.older.entries c.args.directory.now (omega arith) (omega arith)

pub returns-then-old-pos : goal.returns-then-old-pos
returns-then-old-pos c = start_differs c.args.text_len c.args.older.words c.args.older.entries c.args.directory.now c.loop-i.i c.loop-i.pos c.loop-i.word c.loop-i.invariant (omega arith) (rw c.entry-old.ensures.start at c.if-old-pos.true)

pub returns-then-old-word : goal.returns-then-old-word
returns-then-old-word c = first_differs c.args.text_len c.args.older.words c.args.older.entries c.args.directory.now c.loop-i.i c.loop-i.pos c.loop-i.word c.loop-i.invariant (omega arith) (rw c.entry-old.ensures.first at c.if-old-word.true)

pub returns-then-text_len-pos : goal.returns-then-text_len-pos
returns-then-text_len-pos c = text_ends c.args.text_len c.args.older.words c.args.older.entries c.args.directory.now c.loop-i.i c.loop-i.pos c.loop-i.word c.loop-i.invariant (omega arith) (omega arith)

pub returns-then-older-word : goal.returns-then-older-word
returns-then-older-word c = words_end_lem c.args.text_len c.args.older.words c.args.older.entries c.args.directory.now c.loop-i.i c.loop-i.pos c.loop-i.word c.loop-i.invariant (omega arith) (omega arith)

pub returns-then-old-gt-COUNTER_LIMIT : goal.returns-then-old-gt-COUNTER_LIMIT
returns-then-old-gt-COUNTER_LIMIT c = counter_high c.args.text_len c.args.older.words c.args.older.entries c.args.directory.now c.loop-i.i c.loop-i.pos c.loop-i.word c.loop-i.invariant (omega arith) (omega arith)

pub loop-i-preserved : goal.loop-i-preserved
loop-i-preserved c =
    rw (c.entry-old.ensures.bytes, c.entry-old.ensures.words)
    (asks_next c.args.text_len c.args.older.words c.args.older.entries c.args.directory.now c.loop-i.i c.loop-i.pos c.loop-i.word c.loop-i.invariant (omega arith) (rw c.entry-old.ensures.start at c.if-old-pos.false) (rw c.entry-old.ensures.first at c.if-old-word.false) (omega arith) (omega arith) (omega arith))

pub returns : goal.returns
returns c = asks_done c.args.text_len c.args.older.words c.args.older.entries c.args.directory.now c.loop-i.i c.loop-i.pos c.loop-i.word (omega arith) c.loop-i.invariant
