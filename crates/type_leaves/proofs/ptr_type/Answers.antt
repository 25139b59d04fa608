-- White space, then `addrspace` where an `a` stands, then the leaf; where none stands `opt_addrspace` reads nothing.
use Rattle.lexer.proofs.Laws.{val, call}
use Rattle.type_leaves.proofs.LeafLaws.{not_addrspace}
use native.Mathlib.Omega.{arith}
use Rattle.grammar.specs.Types.{ptr_type}
use Rattle.type_leaves.proofs.ptr_type.Goals as goal

pub returns-then-looks : goal.returns-then-looks
unfolding ptr_type
returns-then-looks c =
    val _ c.eat_ws-q.ensures
    (val _ c.addrspace-q1.ensures
    (call 1 (omega arith) (c.leaf.ensures _)))

pub returns : goal.returns
unfolding ptr_type
returns c =
    val _ c.eat_ws-q.ensures
    (val _ (not_addrspace c.looks.ensures c.if-looks.false) (call 1 (omega arith) (c.leaf-2.ensures _)))
