-- The program's steps are the code's: white space, the test, then the keyword passed or the refusal.
use Rattle.grammar.specs.Lexer.{expect_keyword}
use Rattle.lexer.proofs.Laws.{g_then, g_word_yes, g_word_no, g_done, g_fail}
use Rattle.lexer.proofs.expect_keyword.Goals as goal

pub returns-then-word : goal.returns-then-word
unfolding expect_keyword
returns-then-word c =
    g_then _ c.eat_ws-q.ensures
    (g_word_yes _ _ c.word.ensures c.if-word.true c.pass_word.ensures g_done)

pub returns : goal.returns
unfolding expect_keyword
returns c =
    g_then _ c.eat_ws-q.ensures
    (g_word_no _ _ c.word.ensures c.if-word.false (g_fail _ c.refuse.ensures))
