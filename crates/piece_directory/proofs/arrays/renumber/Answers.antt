use mathlib.Core.Path.{◌≡◌}
use native.Mathlib.Omega.{arith}
use Rattle.piece_directory.proofs.Moved.{renumber_first, place_ends, first_ends, renumber_next}
use Rattle.piece_directory.proofs.arrays.renumber.Goals as goal

pub loop-k-init : goal.loop-k-init
loop-k-init c = renumber_first c.args.directory.now c.args.spot.number c.args.n c.args.spot.pos c.args.spot.word

pub put_entry-requires : goal.put_entry-requires
put_entry-requires c =
    record {
      entry_words_in_bounds = omega (arith, c.loop-k.invariant.long);
      pos_lt_half_limit = (
        omega
            (arith, place_ends c.args.directory.now c.args.spot.number c.args.n c.args.spot.pos c.args.spot.word c.requires.entry_words_in_bounds c.loop-k.k c.loop-k.pos c.loop-k.word c.loop-k.directory c.loop-k.invariant (omega arith)),
        omega arith,
        omega
            (arith, first_ends c.args.directory.now c.args.spot.number c.args.n c.args.spot.pos c.args.spot.word c.requires.entry_words_in_bounds c.loop-k.k c.loop-k.pos c.loop-k.word c.loop-k.directory c.loop-k.invariant (omega arith)),
        omega arith,
      );
    }

pub overflow_add-pos : goal.overflow_add-pos
overflow_add-pos c =
    omega
    (arith, place_ends c.args.directory.now c.args.spot.number c.args.n c.args.spot.pos c.args.spot.word c.requires.entry_words_in_bounds c.loop-k.k c.loop-k.pos c.loop-k.word c.loop-k.directory c.loop-k.invariant (omega arith))

pub overflow_add-word : goal.overflow_add-word
overflow_add-word c =
    omega
    (arith, first_ends c.args.directory.now c.args.spot.number c.args.n c.args.spot.pos c.args.spot.word c.requires.entry_words_in_bounds c.loop-k.k c.loop-k.pos c.loop-k.word c.loop-k.directory c.loop-k.invariant (omega arith))

pub loop-k-preserved : goal.loop-k-preserved
loop-k-preserved c =
    rw (c.entry-old.ensures.bytes, c.entry-old.ensures.words)
    (renumber_next c.args.directory.now c.args.spot.number c.args.n c.args.spot.pos c.args.spot.word c.requires.entry_words_in_bounds c.loop-k.k c.loop-k.pos c.loop-k.word c.loop-k.directory c.loop-k.invariant (omega arith) c.put_entry.new.directory
    (rw (c.entry-old.ensures.bytes, c.entry-old.ensures.words, c.entry-old.ensures.counter) at c.put_entry.ensures))

pub shape_of-directory : goal.shape_of-directory
shape_of-directory c = c.loop-k.invariant.long

pub returns : goal.returns
returns c = let e : c.loop-k.k ≡ c.args.n = omega arith in rw (← e) c.loop-k.invariant.list
