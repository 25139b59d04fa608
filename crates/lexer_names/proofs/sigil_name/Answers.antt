-- White space and the sigil, then `name_word`; else the refusal.
use Rattle.lexer.proofs.Laws.{g_then, g_byte_yes, g_byte_no, g_fail}
use Rattle.lexer_names.proofs.sigil_name.Goals as goal

pub returns-then-looks : goal.returns-then-looks
returns-then-looks c =
    g_then _ c.eat_ws-q.ensures
    (g_byte_yes _ _ c.looks.ensures c.if-looks.true c.pass-q2.ensures c.name_word.ensures)

pub returns : goal.returns
returns c =
    g_then _ c.eat_ws-q.ensures
    (g_byte_no _ _ c.looks.ensures c.if-looks.false (g_fail _ c.refuse-q3.ensures))
