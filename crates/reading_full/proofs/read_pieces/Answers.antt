-- The head stands in front of both arrays, and then the loop's invariant holds.
use mathlib.Core.Path.{refl}
use native.Mathlib.Omega.{arith}
use native.Mathlib.Nat.{zero-add}
use lib.ListN.{length}
use Rattle.std.proofs.lemmas.Result.{err_from_is_err_and}
use Rattle.reading_full.proofs.Whole.{no_head, head_inside, head_room, head_come, come_own, ended_as}
use Rattle.reading_full.proofs.read_pieces.Goals as goal

pub returns-in_err-size : goal.returns-in_err-size
returns-in_err-size c =
    let p = err_from_is_err_and c.from_residual.result c.from_residual.ensures.1 in
    rw (p.1, p.2)
    (no_head c.args.text.now (length c.args.words.now) (length c.args.directory.now) c.in_err-size.field-0.0.question c.in_err-size.field-0.0.place c.head_in.new.words c.args.directory.now c.in_err-size.ensures.0.is c.in_err-size.ensures.1 refl)

pub enter-requires-clause-in_text : goal.enter-requires-clause-in_text
enter-requires-clause-in_text c =
    let g = rw c.in-Read.is at c.in_ok-size.ensures in
    omega (arith, head_inside c.args.text.now (length c.args.words.now) (length c.args.directory.now) c.in-Read.size.bytes c.in-Read.size.words c.in-Read.counter c.args.words.now c.head_in.new.words c.args.directory.now g refl refl, c.requires.text_len_bound)

pub returns-in_err-enter-in-Read : goal.returns-in_err-enter-in-Read
returns-in_err-enter-in-Read c =
    let g = rw c.in-Read.is at c.in_ok-size.ensures in
    let p = err_from_is_err_and c.from_residual-in_err-enter-in-Read.result c.from_residual-in_err-enter-in-Read.ensures.1 in
    rw (p.1, p.2, c.in_err-enter-in-Read.ensures.1)
    (head_room c.args.text.now (length c.args.words.now) (length c.args.directory.now) c.in-Read.size.bytes c.in-Read.size.words c.in-Read.counter c.args.words.now c.head_in.new.words c.args.directory.now g refl refl c.in_err-enter-in-Read.field-0.0.question c.in_err-enter-in-Read.field-0.0.place c.in_err-enter-in-Read.ensures.0)

pub read_blocks-requires-clause-come : goal.read_blocks-requires-clause-come
read_blocks-requires-clause-come c =
    let g = rw c.in-Read.is at c.in_ok-size.ensures in
    let k = head_come c.args.text.now (length c.args.words.now) (length c.args.directory.now) c.in-Read.size.bytes c.in-Read.size.words c.in-Read.counter c.args.words.now c.head_in.new.words c.args.directory.now g refl refl c.enter.new.directory c.in_ok-enter-in-Read.ensures.0 c.in_ok-enter-in-Read.ensures.1 in
    rw (c.behind.ensures.number, c.behind.ensures.pos, c.behind.ensures.word, c.behind.ensures.counter, zero-add c.in-Read.size.bytes, zero-add c.in-Read.size.words)
    (come_own c.args.text.now (length c.args.words.now) (length c.args.directory.now) 1 c.in-Read.size.bytes c.in-Read.size.words c.in-Read.counter c.head_in.new.words c.enter.new.directory k)

pub returns : goal.returns
returns c =
    let g = rw c.in-Read.is at c.in_ok-size.ensures in
    let k = head_come c.args.text.now (length c.args.words.now) (length c.args.directory.now) c.in-Read.size.bytes c.in-Read.size.words c.in-Read.counter c.args.words.now c.head_in.new.words c.args.directory.now g refl refl c.enter.new.directory c.in_ok-enter-in-Read.ensures.0 c.in_ok-enter-in-Read.ensures.1 in
    ended_as c.args.text.now (length c.args.words.now) (length c.head_in.new.words) (length c.args.directory.now) (length c.enter.new.directory) c.read_blocks.new.words c.read_blocks.new.directory c.read_blocks.result k.long_words k.long_dir c.read_blocks.ensures
