-- The code asks for a comma and then for the closing byte behind the same white space, as the definition does.
use Rattle.grammar.specs.Types.{comma_or}
use Rattle.lexer.proofs.Laws.{g_token_yes, g_token_no, g_byte_yes, g_byte_no, g_stay, g_fail}
use Rattle.lexer.proofs.lists.comma_or.Goals as goal

pub returns-then-looks : goal.returns-then-looks
unfolding comma_or
returns-then-looks c x y = g_token_yes _ _ c.eat_ws-q.ensures c.looks.ensures c.if-looks.true c.pass-q1.ensures g_stay

pub returns-then-looks-2 : goal.returns-then-looks-2
unfolding comma_or
returns-then-looks-2 c x y = g_token_no _ _ c.eat_ws-q.ensures c.looks.ensures c.if-looks.false (g_byte_yes _ _ c.looks-2.ensures c.if-looks-2.true c.pass-q1-then-looks-2.ensures g_stay)

pub returns : goal.returns
unfolding comma_or
returns c x y = g_token_no _ _ c.eat_ws-q.ensures c.looks.ensures c.if-looks.false (g_byte_no _ _ c.looks-2.ensures c.if-looks-2.false (g_fail _ c.refuse-q1.ensures))
