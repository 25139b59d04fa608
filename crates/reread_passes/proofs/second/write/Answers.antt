use mathlib.Core.Path.{◌∙◌}
use native.Mathlib.Omega.{arith}
use Rattle.reread_passes.proofs.Rewrite.{writing_first, at_in, to_in, pos_in, writing_end, lid, entry_in, never_stops, tail_in, writing_tail, piece_in, words_in_lem, writing_next}
use Rattle.reread_passes.proofs.second.write.Goals as goal

pub loop-spot-init : goal.loop-spot-init
loop-spot-init c = writing_first c.args.newer.now c.args.front.number c.args.front.pos c.args.front.word c.args.front.counter c.args.behind.number c.args.behind.word c.args.words.now c.args.directory.now c.requires.fit

pub piece_in-requires : goal.piece_in-requires
piece_in-requires c = record { text_len_bound = (c.requires.newer_len_bound, pos_in c.args.newer.now c.args.front.number c.args.front.pos c.args.front.word c.args.front.counter c.args.behind.number c.args.behind.word c.args.words.now c.args.directory.now c.requires.fit c.loop-spot.spot.number c.loop-spot.spot.pos c.loop-spot.spot.word c.loop-spot.spot.counter c.loop-spot.words c.loop-spot.directory c.loop-spot.invariant); word_le_to = (at_in c.args.newer.now c.args.front.number c.args.front.pos c.args.front.word c.args.front.counter c.args.behind.number c.args.behind.word c.args.words.now c.args.directory.now c.requires.fit c.loop-spot.spot.number c.loop-spot.spot.pos c.loop-spot.spot.word c.loop-spot.spot.counter c.loop-spot.words c.loop-spot.directory c.loop-spot.invariant, to_in c.args.newer.now c.args.front.number c.args.front.pos c.args.front.word c.args.front.counter c.args.behind.number c.args.behind.word c.args.words.now c.args.directory.now c.requires.fit c.loop-spot.spot.number c.loop-spot.spot.pos c.loop-spot.spot.word c.loop-spot.spot.counter c.loop-spot.words c.loop-spot.directory c.loop-spot.invariant) }

pub shape_of-words-in-Err : goal.shape_of-words-in-Err
shape_of-words-in-Err c = c.in-Err.ensures.1 ∙ c.loop-spot.invariant.long

pub shape_of-directory-in-Err : goal.shape_of-directory-in-Err
shape_of-directory-in-Err c = c.loop-spot.invariant.put.long

pub returns-in-Err : goal.returns-in-Err
returns-in-Err c = absurd (never_stops c.args.newer.now c.args.front.number c.args.front.pos c.args.front.word c.args.front.counter c.args.behind.number c.args.behind.word c.args.words.now c.args.directory.now c.requires.fit c.loop-spot.spot.number c.loop-spot.spot.pos c.loop-spot.spot.word c.loop-spot.spot.counter c.loop-spot.words c.loop-spot.directory c.loop-spot.invariant c.loop-spot-test.true c.in-Err.field-0.question c.in-Err.field-0.place c.in-Err.ensures.0)

pub put_entry-requires : goal.put_entry-requires
put_entry-requires c =
    let t = rw c.in-Ok-Tail.field-0-is at c.in-Ok-Tail.ensures in
    record {
      entry_words_in_bounds = entry_in c.args.newer.now c.args.front.number c.args.front.pos c.args.front.word c.args.front.counter c.args.behind.number c.args.behind.word c.args.words.now c.args.directory.now c.requires.fit c.loop-spot.spot.number c.loop-spot.spot.pos c.loop-spot.spot.word c.loop-spot.spot.counter c.loop-spot.words c.loop-spot.directory c.loop-spot.invariant c.loop-spot-test.true;
      pos_lt_half_limit = (omega (arith, pos_in c.args.newer.now c.args.front.number c.args.front.pos c.args.front.word c.args.front.counter c.args.behind.number c.args.behind.word c.args.words.now c.args.directory.now c.requires.fit c.loop-spot.spot.number c.loop-spot.spot.pos c.loop-spot.spot.word c.loop-spot.spot.counter c.loop-spot.words c.loop-spot.directory c.loop-spot.invariant, c.requires.newer_len_bound), omega (arith, tail_in c.args.newer.now c.args.front.number c.args.front.pos c.args.front.word c.args.front.counter c.args.behind.number c.args.behind.word c.args.words.now c.args.directory.now c.requires.fit c.loop-spot.spot.number c.loop-spot.spot.pos c.loop-spot.spot.word c.loop-spot.spot.counter c.loop-spot.words c.loop-spot.directory c.loop-spot.invariant c.loop-spot-test.true c.in-Ok-Tail.bytes t.0, c.requires.newer_len_bound), omega (arith, at_in c.args.newer.now c.args.front.number c.args.front.pos c.args.front.word c.args.front.counter c.args.behind.number c.args.behind.word c.args.words.now c.args.directory.now c.requires.fit c.loop-spot.spot.number c.loop-spot.spot.pos c.loop-spot.spot.word c.loop-spot.spot.counter c.loop-spot.words c.loop-spot.directory c.loop-spot.invariant, lid c.args.newer.now c.args.front.number c.args.front.pos c.args.front.word c.args.front.counter c.args.behind.number c.args.behind.word c.args.words.now c.args.directory.now c.requires.fit c.loop-spot.spot.number c.loop-spot.spot.pos c.loop-spot.spot.word c.loop-spot.spot.counter c.loop-spot.words c.loop-spot.directory c.loop-spot.invariant c.loop-spot-test.true), omega arith);
    }

pub returns-in-Ok-Tail : goal.returns-in-Ok-Tail
returns-in-Ok-Tail c =
    let t = rw c.in-Ok-Tail.field-0-is at c.in-Ok-Tail.ensures in
    writing_tail c.args.newer.now c.args.front.number c.args.front.pos c.args.front.word c.args.front.counter c.args.behind.number c.args.behind.word c.args.words.now c.args.directory.now c.requires.fit c.loop-spot.spot.number c.loop-spot.spot.pos c.loop-spot.spot.word c.loop-spot.spot.counter c.loop-spot.words c.loop-spot.directory c.loop-spot.invariant c.loop-spot-test.true c.in-Ok-Tail.bytes t.0 c.piece_in.new.words c.put_entry.new.directory t.1 c.put_entry.ensures

pub put_entry-requires-in-Ok-Read : goal.put_entry-requires-in-Ok-Read
put_entry-requires-in-Ok-Read c =
    let g = rw c.in-Ok-Read.field-0-is at c.in-Ok-Read.ensures in
    record {
      entry_words_in_bounds = entry_in c.args.newer.now c.args.front.number c.args.front.pos c.args.front.word c.args.front.counter c.args.behind.number c.args.behind.word c.args.words.now c.args.directory.now c.requires.fit c.loop-spot.spot.number c.loop-spot.spot.pos c.loop-spot.spot.word c.loop-spot.spot.counter c.loop-spot.words c.loop-spot.directory c.loop-spot.invariant c.loop-spot-test.true;
      pos_lt_half_limit = (omega (arith, pos_in c.args.newer.now c.args.front.number c.args.front.pos c.args.front.word c.args.front.counter c.args.behind.number c.args.behind.word c.args.words.now c.args.directory.now c.requires.fit c.loop-spot.spot.number c.loop-spot.spot.pos c.loop-spot.spot.word c.loop-spot.spot.counter c.loop-spot.words c.loop-spot.directory c.loop-spot.invariant, c.requires.newer_len_bound), omega (arith, piece_in c.args.newer.now c.args.front.number c.args.front.pos c.args.front.word c.args.front.counter c.args.behind.number c.args.behind.word c.args.words.now c.args.directory.now c.requires.fit c.loop-spot.spot.number c.loop-spot.spot.pos c.loop-spot.spot.word c.loop-spot.spot.counter c.loop-spot.words c.loop-spot.directory c.loop-spot.invariant c.loop-spot-test.true c.in-Ok-Read.size.bytes c.in-Ok-Read.size.words c.in-Ok-Read.counter c.piece_in.new.words g, c.requires.newer_len_bound), omega (arith, at_in c.args.newer.now c.args.front.number c.args.front.pos c.args.front.word c.args.front.counter c.args.behind.number c.args.behind.word c.args.words.now c.args.directory.now c.requires.fit c.loop-spot.spot.number c.loop-spot.spot.pos c.loop-spot.spot.word c.loop-spot.spot.counter c.loop-spot.words c.loop-spot.directory c.loop-spot.invariant, lid c.args.newer.now c.args.front.number c.args.front.pos c.args.front.word c.args.front.counter c.args.behind.number c.args.behind.word c.args.words.now c.args.directory.now c.requires.fit c.loop-spot.spot.number c.loop-spot.spot.pos c.loop-spot.spot.word c.loop-spot.spot.counter c.loop-spot.words c.loop-spot.directory c.loop-spot.invariant c.loop-spot-test.true), omega (arith, words_in_lem c.args.newer.now c.args.front.number c.args.front.pos c.args.front.word c.args.front.counter c.args.behind.number c.args.behind.word c.args.words.now c.args.directory.now c.requires.fit c.loop-spot.spot.number c.loop-spot.spot.pos c.loop-spot.spot.word c.loop-spot.spot.counter c.loop-spot.words c.loop-spot.directory c.loop-spot.invariant c.loop-spot-test.true c.in-Ok-Read.size.bytes c.in-Ok-Read.size.words c.in-Ok-Read.counter c.piece_in.new.words g, lid c.args.newer.now c.args.front.number c.args.front.pos c.args.front.word c.args.front.counter c.args.behind.number c.args.behind.word c.args.words.now c.args.directory.now c.requires.fit c.loop-spot.spot.number c.loop-spot.spot.pos c.loop-spot.spot.word c.loop-spot.spot.counter c.loop-spot.words c.loop-spot.directory c.loop-spot.invariant c.loop-spot-test.true));
    }

pub behind-spot-requires-clause-bytes : goal.behind-spot-requires-clause-bytes
behind-spot-requires-clause-bytes c =
    let g = rw c.in-Ok-Read.field-0-is at c.in-Ok-Read.ensures in
    omega (arith, piece_in c.args.newer.now c.args.front.number c.args.front.pos c.args.front.word c.args.front.counter c.args.behind.number c.args.behind.word c.args.words.now c.args.directory.now c.requires.fit c.loop-spot.spot.number c.loop-spot.spot.pos c.loop-spot.spot.word c.loop-spot.spot.counter c.loop-spot.words c.loop-spot.directory c.loop-spot.invariant c.loop-spot-test.true c.in-Ok-Read.size.bytes c.in-Ok-Read.size.words c.in-Ok-Read.counter c.piece_in.new.words g, c.requires.newer_len_bound)

pub behind-spot-requires-clause-words : goal.behind-spot-requires-clause-words
behind-spot-requires-clause-words c =
    let g = rw c.in-Ok-Read.field-0-is at c.in-Ok-Read.ensures in
    omega (arith, words_in_lem c.args.newer.now c.args.front.number c.args.front.pos c.args.front.word c.args.front.counter c.args.behind.number c.args.behind.word c.args.words.now c.args.directory.now c.requires.fit c.loop-spot.spot.number c.loop-spot.spot.pos c.loop-spot.spot.word c.loop-spot.spot.counter c.loop-spot.words c.loop-spot.directory c.loop-spot.invariant c.loop-spot-test.true c.in-Ok-Read.size.bytes c.in-Ok-Read.size.words c.in-Ok-Read.counter c.piece_in.new.words g, lid c.args.newer.now c.args.front.number c.args.front.pos c.args.front.word c.args.front.counter c.args.behind.number c.args.behind.word c.args.words.now c.args.directory.now c.requires.fit c.loop-spot.spot.number c.loop-spot.spot.pos c.loop-spot.spot.word c.loop-spot.spot.counter c.loop-spot.words c.loop-spot.directory c.loop-spot.invariant c.loop-spot-test.true)

pub loop-spot-smaller : goal.loop-spot-smaller
loop-spot-smaller c = omega (arith, c.loop-spot-test.true, c.behind-spot.ensures.number)

pub loop-spot-preserved : goal.loop-spot-preserved
loop-spot-preserved c =
    let g = rw c.in-Ok-Read.field-0-is at c.in-Ok-Read.ensures in
    rw (c.behind-spot.ensures.number, c.behind-spot.ensures.pos, c.behind-spot.ensures.word, c.behind-spot.ensures.counter)
    (writing_next c.args.newer.now c.args.front.number c.args.front.pos c.args.front.word c.args.front.counter c.args.behind.number c.args.behind.word c.args.words.now c.args.directory.now c.requires.fit c.loop-spot.spot.number c.loop-spot.spot.pos c.loop-spot.spot.word c.loop-spot.spot.counter c.loop-spot.words c.loop-spot.directory c.loop-spot.invariant c.loop-spot-test.true c.in-Ok-Read.size.bytes c.in-Ok-Read.size.words c.in-Ok-Read.counter c.piece_in.new.words g c.put_entry-in-Ok-Read.new.directory c.put_entry-in-Ok-Read.ensures)

pub returns : goal.returns
returns c = writing_end c.args.newer.now c.args.front.number c.args.front.pos c.args.front.word c.args.front.counter c.args.behind.number c.args.behind.word c.args.words.now c.args.directory.now c.requires.fit c.loop-spot.spot.number c.loop-spot.spot.pos c.loop-spot.spot.word c.loop-spot.spot.counter c.loop-spot.words c.loop-spot.directory c.loop-spot.invariant c.loop-spot-test.false
