-- The code's calls are the definition's steps in the same order: the comma, `label`, the name.
use Rattle.grammar.specs.Instructions.{target}
use Rattle.lexer.proofs.Laws.{g_then}
use Rattle.inst_operands.proofs.target.Goals as goal

pub returns : goal.returns
unfolding target
returns c =
    g_then _ c.expect_token-q.ensures
    (g_then _ c.expect_keyword-q1.ensures c.parse_local_name.ensures)
