-- The program's steps are the code's.
use Rattle.grammar.specs.Lexer.{skip_metadata_ref}
use Rattle.lexer.proofs.Laws.{g_then, g_byte_yes, g_byte_no, g_done}
use Rattle.lexer_names.proofs.skips.skip_metadata_ref.Goals as goal

pub returns-then-looks-2 : goal.returns-then-looks-2
unfolding skip_metadata_ref
returns-then-looks-2 c =
    g_then _ c.read_word-x.ensures.gives
    (g_then _ c.eat_ws-q1.ensures
    (g_byte_yes _ _ c.looks.ensures c.if-looks.true c.pass-q2.ensures
    (g_byte_yes _ _ c.looks-then-looks.ensures c.if-looks-2.true c.pass-q3.ensures c.balanced.ensures)))

pub returns-then-looks : goal.returns-then-looks
unfolding skip_metadata_ref
returns-then-looks c =
    g_then _ c.read_word-x.ensures.gives
    (g_then _ c.eat_ws-q1.ensures
    (g_byte_yes _ _ c.looks.ensures c.if-looks.true c.pass-q2.ensures
    (g_byte_no _ _ c.looks-then-looks.ensures c.if-looks-2.false (g_then _ c.read_word-y.ensures.gives g_done))))

pub returns : goal.returns
unfolding skip_metadata_ref
returns c =
    g_then _ c.read_word-x.ensures.gives
    (g_then _ c.eat_ws-q1.ensures
    (g_byte_no _ _ c.looks.ensures c.if-looks.false g_done))
