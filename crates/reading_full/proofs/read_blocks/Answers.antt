use native.Mathlib.Omega.{arith}
use lib.ListN.{length}
use Rattle.std.proofs.lemmas.Result.{err_from_is_err_and}
use Rattle.piece_room.proofs.Judge.{fitting}
use Rattle.reading_full.proofs.Whole.{block_bad, tail_inside, tail_room, tail_whole, block_inside, block_on, block_room, block_come}
use Rattle.reading_full.proofs.read_blocks.Goals as goal

pub returns-in-Err : goal.returns-in-Err
returns-in-Err c = block_bad c.args.text.now (length c.args.words.now) (length c.args.directory.now) c.loop-r.spot.number c.loop-r.spot.pos c.loop-r.spot.word c.loop-r.spot.counter c.loop-r.words c.loop-r.directory c.loop-r.invariant c.in-Err.r.question c.in-Err.r.place c.block_in.new.words c.in-Err.ensures.0.is c.in-Err.ensures.1

pub enter-requires-clause-in_text : goal.enter-requires-clause-in_text
enter-requires-clause-in_text c =
    let t = rw c.in-Ok-Tail.field-0-is at c.in-Ok-Tail.ensures in
    omega (arith, tail_inside c.args.text.now (length c.args.words.now) (length c.args.directory.now) c.loop-r.spot.number c.loop-r.spot.pos c.loop-r.spot.word c.loop-r.spot.counter c.loop-r.words c.loop-r.directory c.loop-r.invariant c.in-Ok-Tail.bytes c.block_in.new.words t.0 t.1, c.requires.text_len_bound)

pub returns-in_err-enter-in-Ok-Tail : goal.returns-in_err-enter-in-Ok-Tail
returns-in_err-enter-in-Ok-Tail c =
    let t = rw c.in-Ok-Tail.field-0-is at c.in-Ok-Tail.ensures in
    let p = err_from_is_err_and c.from_residual.result c.from_residual.ensures.1 in
    rw (p.1, p.2, c.in_err-enter-in-Ok-Tail.ensures.1)
    (tail_room c.args.text.now (length c.args.words.now) (length c.args.directory.now) c.loop-r.spot.number c.loop-r.spot.pos c.loop-r.spot.word c.loop-r.spot.counter c.loop-r.words c.loop-r.directory c.loop-r.invariant c.in-Ok-Tail.bytes c.block_in.new.words t.0 t.1 c.in_err-enter-in-Ok-Tail.field-0.0.question c.in_err-enter-in-Ok-Tail.field-0.0.place (rw c.loop-r.invariant.long_dir at c.in_err-enter-in-Ok-Tail.ensures.0))

pub returns-in-Ok-Tail : goal.returns-in-Ok-Tail
returns-in-Ok-Tail c =
    let t = rw c.in-Ok-Tail.field-0-is at c.in-Ok-Tail.ensures in
    tail_whole c.args.text.now (length c.args.words.now) (length c.args.directory.now) c.loop-r.spot.number c.loop-r.spot.pos c.loop-r.spot.word c.loop-r.spot.counter c.loop-r.words c.loop-r.directory c.loop-r.invariant c.in-Ok-Tail.bytes c.block_in.new.words t.0 t.1 c.enter.new.directory (rw c.loop-r.invariant.long_dir at c.in_ok-enter-in-Ok-Tail.ensures.0) c.in_ok-enter-in-Ok-Tail.ensures.1

pub enter-requires-in-Ok-Read-clause-in_text : goal.enter-requires-in-Ok-Read-clause-in_text
enter-requires-in-Ok-Read-clause-in_text c =
    let g = rw c.in-Ok-Read.field-0-is at c.in-Ok-Read.ensures in
    omega (arith, block_inside c.args.text.now (length c.args.words.now) (length c.args.directory.now) c.loop-r.spot.number c.loop-r.spot.pos c.loop-r.spot.word c.loop-r.spot.counter c.loop-r.words c.loop-r.directory c.loop-r.invariant c.in-Ok-Read.size.bytes c.in-Ok-Read.size.words c.in-Ok-Read.counter c.block_in.new.words g, c.requires.text_len_bound)

pub returns-in_err-enter-in-Ok-Read : goal.returns-in_err-enter-in-Ok-Read
returns-in_err-enter-in-Ok-Read c =
    let g = rw c.in-Ok-Read.field-0-is at c.in-Ok-Read.ensures in
    let p = err_from_is_err_and c.from_residual-in_err-enter-in-Ok-Read.result c.from_residual-in_err-enter-in-Ok-Read.ensures.1 in
    rw (p.1, p.2, c.in_err-enter-in-Ok-Read.ensures.1)
    (block_room c.args.text.now (length c.args.words.now) (length c.args.directory.now) c.loop-r.spot.number c.loop-r.spot.pos c.loop-r.spot.word c.loop-r.spot.counter c.loop-r.words c.loop-r.directory c.loop-r.invariant c.in-Ok-Read.size.bytes c.in-Ok-Read.size.words c.in-Ok-Read.counter c.block_in.new.words g c.in_err-enter-in-Ok-Read.field-0.0.question c.in_err-enter-in-Ok-Read.field-0.0.place (rw c.loop-r.invariant.long_dir at c.in_err-enter-in-Ok-Read.ensures.0))

pub behind-spot-requires-clause-bytes : goal.behind-spot-requires-clause-bytes
behind-spot-requires-clause-bytes c =
    let g = rw c.in-Ok-Read.field-0-is at c.in-Ok-Read.ensures in
    omega (arith, block_inside c.args.text.now (length c.args.words.now) (length c.args.directory.now) c.loop-r.spot.number c.loop-r.spot.pos c.loop-r.spot.word c.loop-r.spot.counter c.loop-r.words c.loop-r.directory c.loop-r.invariant c.in-Ok-Read.size.bytes c.in-Ok-Read.size.words c.in-Ok-Read.counter c.block_in.new.words g, c.requires.text_len_bound)

pub behind-spot-requires-clause-words : goal.behind-spot-requires-clause-words
behind-spot-requires-clause-words c =
    let f = fitting (length c.args.words.now) (length c.loop-r.directory) c.loop-r.spot.number c.loop-r.spot.word c.in-Ok-Read.size.words c.in_ok-enter-in-Ok-Read.ensures.0 in
    omega (arith, f.small)

pub loop-r-smaller : goal.loop-r-smaller
loop-r-smaller c =
    let g = rw c.in-Ok-Read.field-0-is at c.in-Ok-Read.ensures in
    omega (arith, block_inside c.args.text.now (length c.args.words.now) (length c.args.directory.now) c.loop-r.spot.number c.loop-r.spot.pos c.loop-r.spot.word c.loop-r.spot.counter c.loop-r.words c.loop-r.directory c.loop-r.invariant c.in-Ok-Read.size.bytes c.in-Ok-Read.size.words c.in-Ok-Read.counter c.block_in.new.words g, block_on c.args.text.now (length c.args.words.now) (length c.args.directory.now) c.loop-r.spot.number c.loop-r.spot.pos c.loop-r.spot.word c.loop-r.spot.counter c.loop-r.words c.loop-r.directory c.loop-r.invariant c.in-Ok-Read.size.bytes c.in-Ok-Read.size.words c.in-Ok-Read.counter c.block_in.new.words g, c.behind-spot.ensures.pos)

pub loop-r-preserved : goal.loop-r-preserved
loop-r-preserved c =
    let g = rw c.in-Ok-Read.field-0-is at c.in-Ok-Read.ensures in
    rw (c.behind-spot.ensures.number, c.behind-spot.ensures.pos, c.behind-spot.ensures.word, c.behind-spot.ensures.counter)
    (block_come c.args.text.now (length c.args.words.now) (length c.args.directory.now) c.loop-r.spot.number c.loop-r.spot.pos c.loop-r.spot.word c.loop-r.spot.counter c.loop-r.words c.loop-r.directory c.loop-r.invariant c.in-Ok-Read.size.bytes c.in-Ok-Read.size.words c.in-Ok-Read.counter c.block_in.new.words g c.enter-in-Ok-Read.new.directory (rw c.loop-r.invariant.long_dir at c.in_ok-enter-in-Ok-Read.ensures.0) c.in_ok-enter-in-Ok-Read.ensures.1)
