-- Questions 1 and 2 come first, then those of the pieces.
use mathlib.Core.Path.{refl}
use lib.ListN.{length}
use Rattle.std.proofs.lemmas.Result.{err_from_is_err_and}
use Rattle.text_whole.proofs.Texts.{not_long}
use Rattle.reading_full.proofs.Whole.{refused_text}
use Rattle.reading.proofs.Settle.{all_asked}
use Rattle.reading.proofs.ask_all.Goals as goal

pub returns-in_err-text_asked : goal.returns-in_err-text_asked
returns-in_err-text_asked c =
    let p = err_from_is_err_and c.from_residual.result c.from_residual.ensures.1 in
    rw (p.1, p.2)
    (refused_text (length c.args.words.now) (length c.args.directory.now) c.args.text.now c.in_err-text_asked.field-0.0.question c.in_err-text_asked.field-0.0.place c.in_err-text_asked.ensures, refl, refl)

pub read_pieces-requires : goal.read_pieces-requires
read_pieces-requires c = record { text_len_bound = not_long c.args.text.now c.in_ok-text_asked.ensures }

pub returns : goal.returns
returns c =
    all_asked (length c.args.words.now) (length c.args.directory.now) c.args.text.now c.read_pieces.new.words c.read_pieces.new.directory c.read_pieces.result c.in_ok-text_asked.ensures c.read_pieces.ensures
