-- The rank is the first place whose word passes, and a call of the test tells whether a word is the one that it knows.
use mathlib.Core.Path.{refl, ◌∙◌}
use Rattle.std.proofs.Common.{rules, tests}
use Rattle.std.proofs.lemmas.Iterator.{YieldsList-from_slice}
use Rattle.std.proofs.lemmas.Iterator.Search.{position_from_yields_List}
use Rattle.grammar.specs.Lexer.{same_word}
use Rattle.lexer_keywords.proofs.Ranks.{rank_found}
use Rattle.lexer_keywords.proofs.rank_by.Goals as goal

pub returns : goal.returns
returns g c = λ w h.
    c.unwrap_or.ensures ∙ rank_found w c.args.table.now c.position.result
    (position_from_yields_List (λ word. same_word w word.now) _ _ _ c.position.ensures.ran (YieldsList-from_slice c.args.table.now cc) (λ x b q k. (search (rules, tests), h _ _ (record { shown = x.now; shows = refl; says = record { met = search (rules, tests) } }))))
