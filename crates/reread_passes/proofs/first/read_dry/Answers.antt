use native.Mathlib.Nat.{add-zero}
use native.Mathlib.Omega.{arith}
use lib.ListN.{length}
use Rattle.std.proofs.lemmas.Result.{err_from_is_err_and}
use Rattle.reread_passes.proofs.Dry.{all_kept, dry_first, dry_bad, dry_tail_inside, dry_tail_room, dry_tail, took_inside, took_on, follows_words, falls}
use Rattle.reread_passes.proofs.first.read_dry.Goals as goal

pub returns-then-front-entries : goal.returns-then-front-entries
returns-then-front-entries c = all_kept c.args.older.now c.args.newer.now c.args.known.words c.args.known.entries c.args.directory.now c.requires.given c.args.front.number c.args.front.pos c.args.front.word c.args.front.counter c.requires.front_is c.if-front-entries.true

pub loop-r-init : goal.loop-r-init
loop-r-init c = dry_first c.args.older.now c.args.newer.now c.args.known.words c.args.known.entries c.args.directory.now c.requires.given c.args.front.number c.args.front.pos c.args.front.word c.args.front.counter c.requires.front_is c.if-front-entries.false

pub piece_dry-requires : goal.piece_dry-requires
piece_dry-requires c = record { text_len_bound = (c.requires.given.small, c.loop-r.invariant.inside); pos_value = c.loop-r.invariant.start }

pub returns-in-Err : goal.returns-in-Err
returns-in-Err c = dry_bad c.args.older.now c.args.newer.now c.args.known.words c.args.known.entries c.args.directory.now c.requires.given c.loop-r.spot.number c.loop-r.spot.pos c.loop-r.spot.word c.loop-r.spot.counter c.loop-r.from c.loop-r.invariant c.in-Err.r.question c.in-Err.r.place c.in-Err.ensures.0

pub ask-requires : goal.ask-requires
ask-requires c =
    let t = rw c.in-Ok-Tail.field-0-is at c.in-Ok-Tail.ensures in
    omega (arith, dry_tail_inside c.args.older.now c.args.newer.now c.args.known.words c.args.known.entries c.args.directory.now c.requires.given c.loop-r.spot.number c.loop-r.spot.pos c.loop-r.spot.word c.loop-r.spot.counter c.loop-r.from c.loop-r.invariant c.in-Ok-Tail.bytes t, c.requires.given.small)

pub returns-in_err-ask-in-Ok-Tail : goal.returns-in_err-ask-in-Ok-Tail
returns-in_err-ask-in-Ok-Tail c =
    let t = rw c.in-Ok-Tail.field-0-is at c.in-Ok-Tail.ensures in
    let p = err_from_is_err_and c.from_residual.result c.from_residual.ensures.1 in
    rw (p.1, p.2) (dry_tail_room c.args.older.now c.args.newer.now c.args.known.words c.args.known.entries c.args.directory.now c.requires.given c.loop-r.spot.number c.loop-r.spot.pos c.loop-r.spot.word c.loop-r.spot.counter c.loop-r.from c.loop-r.invariant c.in-Ok-Tail.bytes t c.in_err-ask-in-Ok-Tail.field-0.0.question c.in_err-ask-in-Ok-Tail.field-0.0.place c.in_err-ask-in-Ok-Tail.ensures)

pub behind-requires-clause-bytes : goal.behind-requires-clause-bytes
behind-requires-clause-bytes c =
    let t = rw c.in-Ok-Tail.field-0-is at c.in-Ok-Tail.ensures in
    omega (arith, dry_tail_inside c.args.older.now c.args.newer.now c.args.known.words c.args.known.entries c.args.directory.now c.requires.given c.loop-r.spot.number c.loop-r.spot.pos c.loop-r.spot.word c.loop-r.spot.counter c.loop-r.from c.loop-r.invariant c.in-Ok-Tail.bytes t, c.requires.given.small)

pub returns-in-Ok-Tail : goal.returns-in-Ok-Tail
returns-in-Ok-Tail c =
    let t = rw c.in-Ok-Tail.field-0-is at c.in-Ok-Tail.ensures in
    rw (c.behind.ensures.number, c.behind.ensures.pos, c.behind.ensures.word, add-zero c.loop-r.spot.word) (dry_tail c.args.older.now c.args.newer.now c.args.known.words c.args.known.entries c.args.directory.now c.requires.given c.loop-r.spot.number c.loop-r.spot.pos c.loop-r.spot.word c.loop-r.spot.counter c.loop-r.from c.loop-r.invariant c.in-Ok-Tail.bytes t c.in_ok-ask-in-Ok-Tail.ensures)

pub follow-requires : goal.follow-requires
follow-requires c =
    let g = rw c.in-Ok-Read.field-0-is at c.in-Ok-Read.ensures in
    record { end_value = c.requires.end_value; given = c.requires.given; took = record { dry = c.loop-r.invariant; ws = g.ws; is = g.is; many = g.many } }

pub returns-in_err-found-in-Ok-Read : goal.returns-in_err-found-in-Ok-Read
returns-in_err-found-in-Ok-Read c =
    let p = err_from_is_err_and c.from_residual-in_err-found-in-Ok-Read.result c.from_residual-in_err-found-in-Ok-Read.ensures.1 in
    rw (p.1, p.2) c.in_err-found-in-Ok-Read.ensures

pub behind-next-requires-clause-bytes : goal.behind-next-requires-clause-bytes
behind-next-requires-clause-bytes c =
    let g = rw c.in-Ok-Read.field-0-is at c.in-Ok-Read.ensures in
    omega (arith, took_inside c.args.older.now c.args.newer.now c.args.known.words c.args.known.entries c.args.directory.now c.requires.given c.loop-r.spot.number c.loop-r.spot.pos c.loop-r.spot.word c.loop-r.spot.counter c.loop-r.from c.in-Ok-Read.size.bytes c.in-Ok-Read.size.words c.in-Ok-Read.counter (record { dry = c.loop-r.invariant; ws = g.ws; is = g.is; many = g.many }), c.requires.given.small)

pub behind-next-requires-clause-words : goal.behind-next-requires-clause-words
behind-next-requires-clause-words c = omega (arith, follows_words _ _ _ _ _ _ _ _ _ _ c.in_ok-found-in-Ok-Read.ensures)

pub returns-in-Ok : goal.returns-in-Ok
returns-in-Ok c = rw (c.behind-next.ensures.number, c.behind-next.ensures.pos, c.behind-next.ensures.word) (rw c.in-Ok.is at c.in_ok-found-in-Ok-Read.ensures)

pub loop-r-smaller : goal.loop-r-smaller
loop-r-smaller c =
    let g = rw c.in-Ok-Read.field-0-is at c.in-Ok-Read.ensures in
    rw (c.behind-next.ensures.number, c.behind-next.ensures.pos)
    (falls (length c.args.newer.now) c.loop-r.spot.pos c.in-Ok-Read.size.bytes c.loop-r.spot.number (took_inside c.args.older.now c.args.newer.now c.args.known.words c.args.known.entries c.args.directory.now c.requires.given c.loop-r.spot.number c.loop-r.spot.pos c.loop-r.spot.word c.loop-r.spot.counter c.loop-r.from c.in-Ok-Read.size.bytes c.in-Ok-Read.size.words c.in-Ok-Read.counter (record { dry = c.loop-r.invariant; ws = g.ws; is = g.is; many = g.many })) (took_on c.args.older.now c.args.newer.now c.args.known.words c.args.known.entries c.args.directory.now c.requires.given c.loop-r.spot.number c.loop-r.spot.pos c.loop-r.spot.word c.loop-r.spot.counter c.loop-r.from c.in-Ok-Read.size.bytes c.in-Ok-Read.size.words c.in-Ok-Read.counter (record { dry = c.loop-r.invariant; ws = g.ws; is = g.is; many = g.many })))

pub loop-r-preserved : goal.loop-r-preserved
loop-r-preserved c = rw (c.behind-next.ensures.number, c.behind-next.ensures.pos, c.behind-next.ensures.word, c.behind-next.ensures.counter) (rw c.in-Err-found.is at c.in_ok-found-in-Ok-Read.ensures)
