-- The type and the value are two children of the list, counted one after the other, and no type goes on with what may stand behind it.
use Rattle.lexer.proofs.Children.{two_counted}
use Rattle.inst_calls.proofs.CallLaws.{arg_is}
use Rattle.inst_calls.proofs.arg_item.Goals as goal

pub returns : goal.returns
returns c =
    (arg_is _ _ c.parse_type-q.ensures c.count_child-q1.ensures c.one_more-k.ensures c.skip_attrs-q2.ensures c.parse_value-q3.ensures c.count_child-q4.ensures, two_counted _ _ _ _ _ _ c.count_child-q1.ensures c.one_more-k.ensures (λ e i z. c.parse_value-q3.ensures.hands e i (c.skip_attrs-q2.ensures.hands e i z)) c.count_child-q4.ensures c.one_more-k1.ensures)
