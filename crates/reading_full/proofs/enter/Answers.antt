-- Where questions 20 and 21 grant it the entry stands within the directory, and its halves are below 2^32.
use native.Mathlib.Omega.{arith}
use lib.ListN.{length}
use Rattle.piece_room.proofs.Judge.{fitting}
use Rattle.reading_full.proofs.enter.Goals as goal

pub put_entry-requires-clause-entry_words_in_bounds : goal.put_entry-requires-clause-entry_words_in_bounds
put_entry-requires-clause-entry_words_in_bounds c =
    let f = fitting c.args.words (length c.args.directory.now) c.args.spot.number c.args.spot.word c.args.size.words c.in_ok-ask.ensures in omega (arith, f.entry)

pub put_entry-requires-clause-pos_lt_half_limit : goal.put_entry-requires-clause-pos_lt_half_limit
put_entry-requires-clause-pos_lt_half_limit c =
    let f = fitting c.args.words (length c.args.directory.now) c.args.spot.number c.args.spot.word c.args.size.words c.in_ok-ask.ensures in
    (omega arith, omega arith, c.requires.word, omega (arith, f.small))
