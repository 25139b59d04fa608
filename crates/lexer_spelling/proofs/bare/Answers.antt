-- A quoted word by what stands between its quotes, any other as it stands.
use mathlib.Core.Path.{sym, ◌∙◌}
use Rattle.lexer_spelling.proofs.Letters.{spelled_quoted, spelled_plain, as_it_is}
use Rattle.lexer_spelling.proofs.bare.Goals as goal

pub returns-then-is_quoted : goal.returns-then-is_quoted
returns-then-is_quoted c =
    let q = sym c.is_quoted.ensures ∙ c.if-is_quoted.true in
    rw (q, c.between.ensures) (sym (spelled_quoted c.args.raw.now q))

pub returns-else-is_quoted : goal.returns-else-is_quoted
returns-else-is_quoted c =
    let q = sym c.is_quoted.ensures ∙ c.if-is_quoted.false in
    rw (q, as_it_is c.args.raw.now) (sym (spelled_plain c.args.raw.now q))
