-- What trails is passed, then the header is written, whatever the node holds.
use Rattle.grammar.specs.Instructions.{ending}
use Rattle.lexer.proofs.Laws.{val}
use Rattle.node_words.proofs.Laws.{close_is}
use Rattle.inst_operands.proofs.end.Goals as goal

pub returns : goal.returns
unfolding ending
returns c =
    λ body. val _ c.parse_trailing-t.ensures
    (close_is _ _ _ _ c.close.ensures)
