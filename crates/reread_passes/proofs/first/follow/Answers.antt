-- The piece has room, so the verdict is that on what follows: old pieces that join, asked too, or more to be read.
use native.Mathlib.Omega.{arith}
use lib.ListN.{length}
use Rattle.std.proofs.lemmas.Result.{err_from_is_err_and}
use Rattle.theorem_refusals.specs.Common.{common_end_le}
use Rattle.records.specs.Pieces.{refused}
use Rattle.piece_room.proofs.Judge.{fitting}
use Rattle.reread_passes.proofs.Dry.{took_inside, took_passed, took_size, took_room, took_more, took_refused, took_keep}
use Rattle.reread_passes.proofs.first.follow.Goals as goal

pub ask-requires : goal.ask-requires
ask-requires c = omega (arith, took_inside c.args.older.now c.args.newer.now c.args.known.words c.args.known.entries c.args.directory.now c.requires.given c.args.spot.number c.args.spot.pos c.args.spot.word c.args.spot.counter c.args.from c.args.size.bytes c.args.size.words c.args.behind c.requires.took, c.requires.given.small)

pub returns-in_err-ask : goal.returns-in_err-ask
returns-in_err-ask c =
    let p = err_from_is_err_and c.from_residual.result c.from_residual.ensures.1 in
    rw (p.1, p.2) (took_room c.args.older.now c.args.newer.now c.args.known.words c.args.known.entries c.args.directory.now c.requires.given c.args.spot.number c.args.spot.pos c.args.spot.word c.args.spot.counter c.args.from c.args.size.bytes c.args.size.words c.args.behind c.requires.took c.in_err-ask.field-0.0.question c.in_err-ask.field-0.0.place c.in_err-ask.ensures)

pub behind-next-requires-clause-bytes : goal.behind-next-requires-clause-bytes
behind-next-requires-clause-bytes c = omega (arith, took_inside c.args.older.now c.args.newer.now c.args.known.words c.args.known.entries c.args.directory.now c.requires.given c.args.spot.number c.args.spot.pos c.args.spot.word c.args.spot.counter c.args.from c.args.size.bytes c.args.size.words c.args.behind c.requires.took, c.requires.given.small)

pub behind-next-requires-clause-words : goal.behind-next-requires-clause-words
behind-next-requires-clause-words c =
    let f = fitting c.args.known.words (length c.args.directory.now) c.args.spot.number c.args.spot.word c.args.size.words c.in_ok-ask.ensures in omega (arith, f.small)

pub behind-next-requires-clause-numbers : goal.behind-next-requires-clause-numbers
behind-next-requires-clause-numbers c =
    let f = fitting c.args.known.words (length c.args.directory.now) c.args.spot.number c.args.spot.word c.args.size.words c.in_ok-ask.ensures in omega (arith, f.entry)

pub join_old-requires : goal.join_old-requires
join_old-requires c =
    record {
      from_le_entries = (c.requires.took.dry.from, omega (arith, common_end_le c.args.older.now c.args.newer.now, c.requires.end_value), omega (arith, took_inside c.args.older.now c.args.newer.now c.args.known.words c.args.known.entries c.args.directory.now c.requires.given c.args.spot.number c.args.spot.pos c.args.spot.word c.args.spot.counter c.args.from c.args.size.bytes c.args.size.words c.args.behind c.requires.took));
      joined = c.requires.given.chained.joined;
      passed = rw c.behind-next.ensures.pos (took_passed c.args.older.now c.args.newer.now c.args.known.words c.args.known.entries c.args.directory.now c.requires.given c.args.spot.number c.args.spot.pos c.args.spot.word c.args.spot.counter c.args.from c.args.size.bytes c.args.size.words c.args.behind c.requires.took);
    }

pub room_kept-requires : goal.room_kept-requires
room_kept-requires c =
    let x = rw (c.requires.end_value, c.behind-next.ensures.pos) at c.in-Ok.ensures in
    record {
      entry_words_in_bounds = c.requires.given.chained.joined.inside;
      directory_bound = omega (arith, took_size c.args.older.now c.args.newer.now c.args.known.words c.args.known.entries c.args.directory.now c.requires.given c.args.spot.number c.args.spot.pos c.args.spot.word c.args.spot.counter c.args.from c.args.size.bytes c.args.size.words c.args.behind c.requires.took c.in_ok-ask.ensures c.in-Ok.f x, took_inside c.args.older.now c.args.newer.now c.args.known.words c.args.known.entries c.args.directory.now c.requires.given c.args.spot.number c.args.spot.pos c.args.spot.word c.args.spot.counter c.args.from c.args.size.bytes c.args.size.words c.args.behind c.requires.took, c.requires.given.small);
    }

pub returns-in-Err : goal.returns-in-Err
returns-in-Err c =
    let x = rw (c.requires.end_value, c.behind-next.ensures.pos) at c.in-Err.ensures in
    took_more c.args.older.now c.args.newer.now c.args.known.words c.args.known.entries c.args.directory.now c.requires.given c.args.spot.number c.args.spot.pos c.args.spot.word c.args.spot.counter c.args.from c.args.size.bytes c.args.size.words c.args.behind c.requires.took c.in_ok-ask.ensures c.in-Err.f x

pub returns-in_err-room_kept-in-Ok : goal.returns-in_err-room_kept-in-Ok
returns-in_err-room_kept-in-Ok c =
    let x = rw (c.requires.end_value, c.behind-next.ensures.pos) at c.in-Ok.ensures in
    let p = err_from_is_err_and c.from_residual-in_err-room_kept-in-Ok.result c.from_residual-in_err-room_kept-in-Ok.ensures.1 in
    rw (p.1, p.2)
    (took_refused c.args.older.now c.args.newer.now c.args.known.words c.args.known.entries c.args.directory.now c.requires.given c.args.spot.number c.args.spot.pos c.args.spot.word c.args.spot.counter c.args.from c.args.size.bytes c.args.size.words c.args.behind c.requires.took c.in_ok-ask.ensures c.in-Ok.f x (refused c.in_err-room_kept-in-Ok.field-0.0.question c.in_err-room_kept-in-Ok.field-0.0.place) (rw (c.behind-next.ensures.number, c.behind-next.ensures.pos, c.behind-next.ensures.word) at c.in_err-room_kept-in-Ok.ensures))

pub returns-in_ok-room_kept-in-Ok : goal.returns-in_ok-room_kept-in-Ok
returns-in_ok-room_kept-in-Ok c =
    let x = rw (c.requires.end_value, c.behind-next.ensures.pos) at c.in-Ok.ensures in
    took_keep c.args.older.now c.args.newer.now c.args.known.words c.args.known.entries c.args.directory.now c.requires.given c.args.spot.number c.args.spot.pos c.args.spot.word c.args.spot.counter c.args.from c.args.size.bytes c.args.size.words c.args.behind c.requires.took c.in_ok-ask.ensures c.in-Ok.f x (rw (c.behind-next.ensures.number, c.behind-next.ensures.pos, c.behind-next.ensures.word) at c.in_ok-room_kept-in-Ok.ensures)
