use mathlib.Core.Path.{refl}
use native.Mathlib.Omega.{arith}
use lib.ListN.{length, drop}
use Rattle.std.proofs.lemmas.Result.{err_from_is_err_and}
use Rattle.records.specs.Pieces.{judge}
use Rattle.piece_directory.specs.Olds.{olds_of}
use Rattle.piece_room.proofs.Judge.{sizes_of, fitting, judging_end, judging_refused, judging_next, place_small}
use Rattle.piece_room.proofs.room_kept.Goals as goal

pub loop-k-init : goal.loop-k-init
loop-k-init c = record { small = c.requires.directory_bound; same = refl }

pub ask-requires : goal.ask-requires
ask-requires c = omega (arith, place_small c.args.older.words (length c.args.directory.now) c.args.older.entries c.args.directory.now (judge c.args.older.words (length c.args.directory.now) c.args.spot.number c.args.spot.pos c.args.spot.word (sizes_of (drop c.args.from (olds_of c.args.older.entries c.args.directory.now)))) c.requires.entry_words_in_bounds c.loop-k.k c.loop-k.next.number c.loop-k.next.pos c.loop-k.next.word c.loop-k.invariant (omega arith))

pub returns-in_err-ask : goal.returns-in_err-ask
returns-in_err-ask c =
    let p = err_from_is_err_and c.from_residual.result c.from_residual.ensures.1 in
    rw (p.1, p.2)
    (judging_refused c.args.older.words (length c.args.directory.now) c.args.older.entries c.args.directory.now (judge c.args.older.words (length c.args.directory.now) c.args.spot.number c.args.spot.pos c.args.spot.word (sizes_of (drop c.args.from (olds_of c.args.older.entries c.args.directory.now)))) c.requires.entry_words_in_bounds c.loop-k.k c.loop-k.next.number c.loop-k.next.pos c.loop-k.next.word c.loop-k.invariant (omega arith) c.in_err-ask.field-0.0.question c.in_err-ask.field-0.0.place
    (rw (c.entry-old.ensures.bytes, c.entry-old.ensures.words) at c.in_err-ask.ensures))

pub behind-next-requires-clause-numbers : goal.behind-next-requires-clause-numbers
behind-next-requires-clause-numbers c =
    let f = fitting c.args.older.words (length c.args.directory.now) c.loop-k.next.number c.loop-k.next.word c.entry-old.result.size.words c.in_ok-ask.ensures in omega (arith, f.entry)

pub behind-next-requires-clause-bytes : goal.behind-next-requires-clause-bytes
behind-next-requires-clause-bytes c = omega (arith, place_small c.args.older.words (length c.args.directory.now) c.args.older.entries c.args.directory.now (judge c.args.older.words (length c.args.directory.now) c.args.spot.number c.args.spot.pos c.args.spot.word (sizes_of (drop c.args.from (olds_of c.args.older.entries c.args.directory.now)))) c.requires.entry_words_in_bounds c.loop-k.k c.loop-k.next.number c.loop-k.next.pos c.loop-k.next.word c.loop-k.invariant (omega arith))

pub behind-next-requires-clause-words : goal.behind-next-requires-clause-words
behind-next-requires-clause-words c =
    let f = fitting c.args.older.words (length c.args.directory.now) c.loop-k.next.number c.loop-k.next.word c.entry-old.result.size.words c.in_ok-ask.ensures in omega (arith, f.small)

pub loop-k-preserved : goal.loop-k-preserved
loop-k-preserved c =
    rw (c.behind-next.ensures.number, c.behind-next.ensures.pos, c.behind-next.ensures.word, c.entry-old.ensures.bytes, c.entry-old.ensures.words)
    (judging_next c.args.older.words (length c.args.directory.now) c.args.older.entries c.args.directory.now (judge c.args.older.words (length c.args.directory.now) c.args.spot.number c.args.spot.pos c.args.spot.word (sizes_of (drop c.args.from (olds_of c.args.older.entries c.args.directory.now)))) c.requires.entry_words_in_bounds c.loop-k.k c.loop-k.next.number c.loop-k.next.pos c.loop-k.next.word c.loop-k.invariant (omega arith) (rw c.entry-old.ensures.words at c.in_ok-ask.ensures))

pub returns : goal.returns
returns c =
    judging_end c.args.older.words (length c.args.directory.now) c.args.older.entries c.args.directory.now (judge c.args.older.words (length c.args.directory.now) c.args.spot.number c.args.spot.pos c.args.spot.word (sizes_of (drop c.args.from (olds_of c.args.older.entries c.args.directory.now)))) c.requires.entry_words_in_bounds c.loop-k.k c.loop-k.next.number c.loop-k.next.pos c.loop-k.next.word (omega arith) c.loop-k.invariant
