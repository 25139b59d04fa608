-- The test is whether the word spells the keyword, which is spelled as it stands.
use mathlib.Core.Path.{◌≡◌, ap, ◌∙◌}
use mathlib.Core.Bool.{true, false}
use borrow.Author.Rules.{rules}
use Rattle.grammar.specs.Lexer.{same_word}
use Rattle.lexer_names.specs.Names.{spelled_of}
use Rattle.lexer_spelling.proofs.Letters.{as_it_is}
use Rattle.lexer_spelling.proofs.rank_quoted.Goals as goal

pub returns : goal.returns
returns c =
    c.rank_by.ensures (spelled_of true c.args.w.now) (λ word r x.
    let e : r ≡ same_word (spelled_of true c.args.w.now) (spelled_of false x.shown.now) = search rules in
    e ∙ ap (same_word (spelled_of true c.args.w.now)) (as_it_is x.shown.now ∙ x.shows))
