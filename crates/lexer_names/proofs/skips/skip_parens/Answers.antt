-- White space, the `(`, and what it opens; else the refusal.
use Rattle.grammar.specs.Lexer.{skip_parens}
use Rattle.lexer.proofs.Laws.{g_then, g_byte_yes, g_byte_no, g_fail}
use Rattle.lexer_names.proofs.skips.skip_parens.Goals as goal

pub returns-then-looks : goal.returns-then-looks
unfolding skip_parens
returns-then-looks c =
    g_then _ c.eat_ws-q.ensures
    (g_byte_yes _ _ c.looks.ensures c.if-looks.true c.pass-q2.ensures c.balanced.ensures)

pub returns : goal.returns
unfolding skip_parens
returns c =
    g_then _ c.eat_ws-q.ensures
    (g_byte_no _ _ c.looks.ensures c.if-looks.false (g_fail _ c.refuse.ensures))
