-- The program's steps are the code's: white space, the test, then the keyword passed or nothing.
use Rattle.grammar.specs.Lexer.{skip_keyword}
use Rattle.lexer.proofs.Laws.{g_then, g_word_yes, g_word_no, g_done}
use Rattle.lexer.proofs.skip_keyword.Goals as goal

pub returns-then-word : goal.returns-then-word
unfolding skip_keyword
returns-then-word c =
    g_then _ c.eat_ws-q.ensures
    (g_word_yes _ _ c.word.ensures c.if-word.true c.pass_word.ensures g_done)

pub returns : goal.returns
unfolding skip_keyword
returns c =
    g_then _ c.eat_ws-q.ensures
    (g_word_no _ _ c.word.ensures c.if-word.false g_done)
