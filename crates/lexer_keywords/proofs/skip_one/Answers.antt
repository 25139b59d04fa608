-- White space, then the keyword of that rank or none.
use Rattle.grammar.specs.Lexer.{skip_one}
use Rattle.lexer.proofs.Laws.{g_then, g_done}
use Rattle.lexer_keywords.proofs.Ranks.{g_rank_any}
use Rattle.lexer_keywords.proofs.skip_one.Goals as goal

pub returns : goal.returns
unfolding skip_one
returns c =
    g_then _ c.eat_ws-q.ensures
    (g_rank_any _ _ _ c.match_rank.ensures (λ h. g_done) (λ h. g_done))
