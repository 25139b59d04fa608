-- Questions 1, 2 and 22 come first, in that order; where none refuses the re-reading proper decides.
use mathlib.Core.Path.{sym, ◌∙◌}
use Rattle.std.proofs.lemmas.Result.{err_from_is_err_and}
use Rattle.reading.proofs.Settle.{again_text, again_unchained, given}
use Rattle.reading.proofs.reparse_define.Goals as goal

pub returns-in_err-text_asked : goal.returns-in_err-text_asked
returns-in_err-text_asked c =
    let p = err_from_is_err_and c.from_residual.result c.from_residual.ensures.1 in
    rw (p.1, p.2)
    (again_text c.args.words.now c.args.directory.now c.args.entries c.args.older.now c.args.newer.now c.in_err-text_asked.field-0.0.question c.in_err-text_asked.field-0.0.place c.in_err-text_asked.ensures)

pub returns-then-not-chained : goal.returns-then-not-chained
returns-then-not-chained c =
    again_unchained c.args.words.now c.args.directory.now c.args.entries c.args.older.now c.args.newer.now c.in_ok-text_asked.ensures (sym c.if-not-chained.true ∙ c.chained.ensures)

pub read_again-requires : goal.read_again-requires
read_again-requires c =
    record {
      newer_value = sym c.in_ok-text_asked.ensures;
      given = given c.args.words.now c.args.directory.now c.args.entries c.args.older.now c.args.newer.now c.in_ok-text_asked.ensures (sym c.if-not-chained.false ∙ c.chained.ensures);
    }
