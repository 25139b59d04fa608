-- The tests of the definition in their order: a word of the table, else `cc` and a number.
use Rattle.grammar.specs.Attributes.{calling_conventions, skip_call_cconv}
use Rattle.lexer.proofs.Laws.{g_then, g_done, g_word_yes, g_word_no}
use Rattle.lexer_keywords.proofs.Ranks.{g_rank_yes, g_rank_no}
use Rattle.attributes.proofs.skip_call_cconv.Goals as goal

pub returns-then-k-lt10 : goal.returns-then-k-lt10
unfolding skip_call_cconv calling_conventions
returns-then-k-lt10 c =
    g_then _ c.eat_ws-q.ensures
    (g_rank_yes _ _ _ c.cconv-k.ensures c.if-k-lt10.true g_done)

pub returns-then-word : goal.returns-then-word
unfolding skip_call_cconv calling_conventions
returns-then-word c =
    g_then _ c.eat_ws-q.ensures
    (g_rank_no _ _ _ c.cconv-k.ensures c.if-k-lt10.false
    (g_word_yes _ _ c.word.ensures c.if-word.true c.pass_word-q2.ensures
    (g_then _ c.eat_ws-q3.ensures (g_then _ c.parse_int-n.ensures g_done))))

pub returns : goal.returns
unfolding skip_call_cconv calling_conventions
returns c =
    g_then _ c.eat_ws-q.ensures
    (g_rank_no _ _ _ c.cconv-k.ensures c.if-k-lt10.false
    (g_word_no _ _ c.word.ensures c.if-word.false g_done))
