-- The code's calls are the definition's steps in the same order; at a parenthesis behind the type the pairs refuse, for they begin with `[`.
use Rattle.lexer.proofs.Laws.{then}
use Rattle.node_words.proofs.Laws.{begin_then, close_is}
use Rattle.types.proofs.TypeLaws.{type_then}
use Rattle.inst_operations.proofs.PhiLaws.{stuck_items}
use Rattle.grammar.specs.Instructions.{parse_phi}
use Rattle.inst_operations.proofs.parse_phi.Goals as goal

pub returns : goal.returns
unfolding parse_phi
returns c =
    begin_then _ c.begin-q.ensures
    (type_then 3 _ c.parse_type-q1.ensures (stuck_items 65535 1 _)
    (λ t. then _ c.phi_items-l.ensures (λ ws. close_is _ _ _ _ c.close.ensures)))
