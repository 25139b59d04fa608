use native.Mathlib.Omega.{arith}
use Rattle.grammar.specs.Lexer.{skip_all}
use Rattle.lexer.specs.Table.{keywords_of}
use Rattle.lexer.proofs.Laws.{g_then, g_done, g_stay, g_on, g_more, g_no_more}
use Rattle.lexer_keywords.proofs.Ranks.{g_rank_yes, g_rank_no, words_length}
use Rattle.lexer_keywords.proofs.skip_all.Goals as goal

pub loop-left-init : goal.loop-left-init
loop-left-init c = g_stay

pub returns-then-table-k : goal.returns-then-table-k
unfolding skip_all
returns-then-table-k c =
    g_on c.loop-left.invariant
    (g_more (λ u. skip_all u
    (keywords_of c.args.table.now)) c.loop-left._left c.loop-left-test.true
    (g_then _ c.eat_ws.ensures
    (g_rank_no _ _ _ c.match_rank-k.ensures (omega
    (arith, words_length c.args.table.now)) g_done)))

pub loop-left-preserved : goal.loop-left-preserved
unfolding skip_all
loop-left-preserved c =
    g_on c.loop-left.invariant
    (g_more (λ u. skip_all u
    (keywords_of c.args.table.now)) c.loop-left._left c.loop-left-test.true
    (g_then _ c.eat_ws.ensures
    (g_rank_yes _ _ _ c.match_rank-k.ensures (omega
    (arith, words_length c.args.table.now)) g_stay)))

pub returns : goal.returns
unfolding skip_all
returns c =
    g_on c.loop-left.invariant
    (g_no_more (λ u. skip_all u
    (keywords_of c.args.table.now)) c.loop-left._left c.loop-left-test.false g_done)
