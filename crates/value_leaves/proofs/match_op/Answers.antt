-- A rank below the table's length is an operator's.
use mathlib.Core.Path.{◌≡◌, sym, ◌∙◌}
use native.Mathlib.Omega.{arith}
use Rattle.lexer_keywords.proofs.Ranks.{words_length}
use Rattle.value_leaves.proofs.match_op.Goals as goal

pub returns-then-k-table : goal.returns-then-k-table
returns-then-k-table c = record {
  yes = λ r e. let t : c.match_rank-k.result.r ≡ r = cc in (omega (arith, words_length c.args.table.now, c.if-k-table.true), (let u = c.match_rank-k.ensures in (sym t ∙ u.0, u.1)));
  no = λ e. cc;
}

pub returns : goal.returns
returns c = record { yes = λ r e. cc; no = λ e. (_, omega (arith, words_length c.args.table.now, c.if-k-table.false), c.match_rank-k.ensures) }
