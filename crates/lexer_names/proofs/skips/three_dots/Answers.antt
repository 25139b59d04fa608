-- Three dots one behind the other; where one is missing the refusal is at the first.
use Rattle.grammar.specs.Lexer.{three_dots}
use Rattle.lexer.proofs.Laws.{g_here, g_byte_yes, g_byte_no, g_fail_at, g_done}
use Rattle.lexer_names.proofs.skips.three_dots.Goals as goal

pub returns-then-looks-3 : goal.returns-then-looks-3
unfolding three_dots
returns-then-looks-3 c =
    g_here _ _ c.place-at.ensures
    (λ l. g_byte_yes _ _ c.looks.ensures c.if-looks.true c.pass-q.ensures
    (g_byte_yes _ _ c.looks-then-looks.ensures c.if-looks-2.true c.pass-q1.ensures
    (g_byte_yes _ _ c.looks-then-looks-2.ensures c.if-looks-3.true c.pass.ensures g_done)))

pub returns-then-looks-2 : goal.returns-then-looks-2
unfolding three_dots
returns-then-looks-2 c =
    g_here _ _ c.place-at.ensures
    (λ l. g_byte_yes _ _ c.looks.ensures c.if-looks.true c.pass-q.ensures
    (g_byte_yes _ _ c.looks-then-looks.ensures c.if-looks-2.true c.pass-q1.ensures
    (g_byte_no _ _ c.looks-then-looks-2.ensures c.if-looks-3.false (g_fail_at _ _ c.refuse_at.ensures))))

pub returns-then-looks : goal.returns-then-looks
unfolding three_dots
returns-then-looks c =
    g_here _ _ c.place-at.ensures
    (λ l. g_byte_yes _ _ c.looks.ensures c.if-looks.true c.pass-q.ensures
    (g_byte_no _ _ c.looks-then-looks.ensures c.if-looks-2.false (g_fail_at _ _ c.refuse_at-then-looks.ensures)))

pub returns : goal.returns
unfolding three_dots
returns c =
    g_here _ _ c.place-at.ensures
    (λ l. g_byte_no _ _ c.looks.ensures c.if-looks.false (g_fail_at _ _ c.refuse_at-2.ensures))
