-- The calls are the definition's steps in the same order, for whatever words stand before them in the node.
use Rattle.grammar.specs.Instructions.{call_rest}
use Rattle.lexer.proofs.Laws.{then, val}
use Rattle.inst_calls.proofs.call_rest.Goals as goal

pub returns : goal.returns
unfolding call_rest
returns c =
    λ dest types. then _ c.parse_value-q.ensures
    (λ f. val _ c.expect_token-q1.ensures
    (then _ c.parse_arg_list-l.ensures
    (λ ws. val _ c.skip_attrs-q2.ensures
    (c.end.ensures _))))
