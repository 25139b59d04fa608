-- The program's steps are the code's: white space, the test, then the byte passed or the refusal.
use Rattle.grammar.specs.Lexer.{expect_token}
use Rattle.lexer.proofs.Laws.{g_then, g_byte_yes, g_byte_no, g_done, g_fail}
use Rattle.lexer.proofs.expect_token.Goals as goal

pub returns-then-looks : goal.returns-then-looks
unfolding expect_token
returns-then-looks c =
    g_then _ c.eat_ws-q.ensures
    (g_byte_yes _ _ c.looks.ensures c.if-looks.true c.pass.ensures g_done)

pub returns : goal.returns
unfolding expect_token
returns c =
    g_then _ c.eat_ws-q.ensures
    (g_byte_no _ _ c.looks.ensures c.if-looks.false (g_fail _ c.refuse.ensures))
