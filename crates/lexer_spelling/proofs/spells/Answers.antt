-- A quoted word by its spelling, any other as it stands.
use mathlib.Core.Path.{sym, ◌∙◌}
use Rattle.lexer_keywords.proofs.Ranks.{same_bytes}
use Rattle.lexer_spelling.proofs.Letters.{spelled_quoted, spelled_plain, as_it_is}
use Rattle.lexer_spelling.proofs.spells.Goals as goal

pub returns-then-is_quoted : goal.returns-then-is_quoted
returns-then-is_quoted c =
    c.same_spelling.ensures ∙ rw
    (← c.part-raw.ensures, spelled_quoted c.part-raw.result.now (sym c.is_quoted.ensures ∙ c.if-is_quoted.true), c.between.ensures, as_it_is c.args.kw.now)

pub returns : goal.returns
returns c =
    c.eq.ensures ∙ same_bytes c.part-raw.result.now c.args.kw.now ∙ rw (← c.part-raw.ensures, spelled_plain c.part-raw.result.now (sym c.is_quoted.ensures ∙ c.if-is_quoted.false))
