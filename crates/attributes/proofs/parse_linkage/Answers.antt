-- A rank below the table's length is the linkage's; else it is unwritten.
use Rattle.grammar.specs.Attributes.{linkages, parse_linkage}
use Rattle.lexer.proofs.Laws.{g_then, g_done}
use Rattle.lexer_keywords.proofs.Ranks.{g_rank_yes, g_rank_no}
use Rattle.attributes.proofs.parse_linkage.Goals as goal

pub returns-then-r-lt11 : goal.returns-then-r-lt11
unfolding parse_linkage linkages
returns-then-r-lt11 c =
    g_then _ c.eat_ws-q.ensures
    (g_rank_yes _ _ _ c.linkage-k.ensures c.if-r-lt11.true g_done)

pub returns : goal.returns
unfolding parse_linkage linkages
returns c =
    g_then _ c.eat_ws-q.ensures
    (g_rank_no _ _ _ c.linkage-k.ensures c.if-r-lt11.false g_done)
