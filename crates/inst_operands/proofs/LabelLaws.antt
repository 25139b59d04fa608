-- The law of labels: a target passes a byte, for it begins with a comma.
-- Assumes nothing.
use Rattle.grammar.specs.Lexer.{expect_token}
use Rattle.grammar.specs.Instructions.{target}
use Rattle.lexer.proofs.Laws.{Passes}
use Rattle.lexer_names.proofs.Passed.{passes_any, passes_then, passes_token}

pub passes_target : Passes 1 target
unfolding target
passes_target = passes_then (expect_token 44) _ 1 0 (passes_token 44) (λ u. passes_any _)
