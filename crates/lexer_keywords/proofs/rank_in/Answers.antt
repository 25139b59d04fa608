-- The test is `==`, which tells whether two words are the same.
use mathlib.Core.Path.{◌≡◌, ap, ◌∙◌}
use lib.Pointwise.{pointwise}
use Rattle.std.specs.Prelude.{nat_eq}
use borrow.Author.Rules.{rules}
use Rattle.grammar.specs.Lexer.{same_word}
use Rattle.lexer_keywords.proofs.Ranks.{same_bytes}
use Rattle.lexer_keywords.proofs.rank_in.Goals as goal

pub returns : goal.returns
returns c =
    c.rank_by.ensures c.args.w.now (λ word r x.
    let e : r ≡ pointwise nat_eq c.args.w.now x.shown.now = search rules in
    e ∙ same_bytes c.args.w.now x.shown.now ∙ ap (same_word c.args.w.now) x.shows)
