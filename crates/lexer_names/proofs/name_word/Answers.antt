-- The calls are the definition's steps in the same order.
use Rattle.grammar.specs.Lexer.{name_word}
use Rattle.lexer.proofs.Laws.{g_place, g_then}
use Rattle.lexer_names.proofs.name_word.Goals as goal

pub returns : goal.returns
unfolding name_word
returns c =
    g_place _ _ c.place-at.ensures
    (λ l. g_then _ c.read_word-x.ensures.gives (c.name_of.ensures _ _ c.read_word-x.ensures l))
