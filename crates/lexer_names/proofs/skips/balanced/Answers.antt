-- The scan stops at the closing byte or at the text's end.
use borrow.Author.Rules.{rules}
use Rattle.grammar.specs.Lexer.{balanced, balance_step}
use Rattle.lexer.proofs.Laws.{g_scan, g_byte_yes, g_byte_no, g_fail, g_done, handed}
use Rattle.lexer_names.proofs.skips.balanced.Goals as goal

pub returns-then-looks : goal.returns-then-looks
unfolding balanced
returns-then-looks c =
    rw c.in_ok-c.was
    (g_scan (balance_step c.args.left c.args.right) 0 _ _ _ c.balance_end.ensures
    (g_byte_yes _ _ c.looks.ensures c.if-looks.true c.pass.ensures g_done))

pub returns : goal.returns
unfolding balanced
returns c =
    rw c.in_ok-c.was
    (g_scan (balance_step c.args.left c.args.right) 0 _ _ _ c.balance_end.ensures
    (g_byte_no _ _ c.looks.ensures c.if-looks.false (g_fail _ c.refuse.ensures)))

pub returns-in_err-c : goal.returns-in_err-c
returns-in_err-c c = handed c.in_err-c.was (search rules)
