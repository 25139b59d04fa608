-- Two names are the same when their spellings are; one without quotes is its own spelling.
use mathlib.Core.Path.{sym, ◌∙◌}
use Rattle.grammar.specs.Lexer.{same_name}
use Rattle.lexer_keywords.proofs.Ranks.{same_bytes}
use Rattle.lexer_spelling.proofs.Letters.{spelled_plain}
use Rattle.lexer_spelling.proofs.same_name.Goals as goal

pub returns-then-qa : goal.returns-then-qa
unfolding same_name
returns-then-qa c =
    c.same_spelling.ensures ∙ rw (c.is_quoted-qa.ensures, c.is_quoted-qb.ensures, c.bare.ensures, c.bare-then-qa.ensures)

pub returns : goal.returns
unfolding same_name
returns c =
    c.eq.ensures ∙ same_bytes c.args.a.now c.args.b.now ∙ rw (
      spelled_plain c.args.a.now (sym c.is_quoted-qa.ensures ∙ c.if-qa.false),
      spelled_plain c.args.b.now (sym c.is_quoted-qb.ensures ∙ c.if-qb.false),
    )
