-- A quoted word by its spelling, any other as it stands.
use mathlib.Core.Path.{sym, ◌∙◌}
use Rattle.lexer_spelling.proofs.Letters.{spelled_quoted, spelled_plain}
use Rattle.lexer_spelling.proofs.spelled_rank.Goals as goal

pub returns-then-is_quoted : goal.returns-then-is_quoted
returns-then-is_quoted c =
    c.rank_quoted.ensures ∙ rw
    (← c.part-raw.ensures, spelled_quoted c.part-raw.result.now (sym c.is_quoted.ensures ∙ c.if-is_quoted.true), c.between.ensures)

pub returns : goal.returns
returns c =
    c.rank_in.ensures ∙ rw (← c.part-raw.ensures, spelled_plain c.part-raw.result.now (sym c.is_quoted.ensures ∙ c.if-is_quoted.false))
