-- White space, then the rank: below the table's length it is the predicate's, else no predicate stands there and both refuse; a refusal is handed on.
use borrow.Author.Rules.{rules}
use mathlib.Core.Path.{◌≡◌, refl, sym, ap}
use native.Mathlib.Omega.{arith}
use Rattle.grammar.specs.Instructions.{predicate}
use Rattle.lexer.specs.Parsed.{Err}
use Rattle.lexer.specs.Step.{refused}
use Rattle.lexer.proofs.Laws.{g_then, g_done, g_fail, handed}
use Rattle.lexer_keywords.proofs.Ranks.{g_rank_yes, g_rank_no, g_rank_any, words_length}
use Rattle.inst_operations.proofs.parse_predicate.Goals as goal

pub returns-in_err-c : goal.returns-in_err-c
unfolding predicate
returns-in_err-c c =
    let e : c.from_residual.result ≡ Err (c.in_err-c.field-0.0) = search rules in
    rw e (λ r. g_then _ c.eat_ws.ensures
    (g_rank_any _ _ _ c.match_rank-k.ensures (λ h. handed c.in_err-c.was refl) (λ h. handed c.in_err-c.was refl)))

pub returns-then-k-table : goal.returns-then-k-table
unfolding predicate
returns-then-k-table c =
    g_then _ c.eat_ws.ensures
    (g_rank_yes _ _ _ c.match_rank-k.ensures (omega (arith, words_length c.args.table.now, c.if-k-table.true)) (rw c.in_ok-c.was g_done))

pub returns : goal.returns
unfolding predicate
returns c =
    λ r. g_then _ c.eat_ws.ensures
    (g_rank_no _ _ _ c.match_rank-k.ensures (omega (arith, words_length c.args.table.now, c.if-k-table.false)) (g_fail _ (sym (ap (refused _) c.in_ok-c.was))))
