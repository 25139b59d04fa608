-- The return type's words stand since `s`, so their copy is the return type that the definition puts first in the node.
use Rattle.inst_calls.proofs.CallLaws.{func_close}
use Rattle.inst_calls.proofs.CopyLaws.{held_pushed}
use Rattle.inst_calls.specs.Func.{func_type}
use Rattle.grammar.specs.Types.{no_type}
use Rattle.lexer.proofs.Laws.{then, spare, write_then}
use Rattle.node_words.proofs.Laws.{push_then}
use lib.ListN.{length}
use Prim.Native.Nat.{suc, ◌+◌}
use native.Mathlib.Omega.{arith}
use Rattle.inst_calls.proofs.func_type.Goals as goal

pub returns : goal.returns
unfolding func_type no_type
returns c =
    λ t H. spare (suc (length t + 0)) (omega arith)
    (push_then _ c.push-q.ensures
    (write_then t (length t) (c.again-q1.ensures _ t (held_pushed 0 H c.push-q.ensures))
    (then _ c.parse_type_list-l.ensures (λ ws. func_close t ws _ _ c.close.ensures))))
