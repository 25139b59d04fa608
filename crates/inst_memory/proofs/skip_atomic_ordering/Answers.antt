-- The scope and the ordering are the definition's two steps, and the table's words are its orderings.
use Rattle.grammar.specs.Instructions.{orderings, skip_atomic_ordering}
use Rattle.inst_memory.specs.Ordering.{opt_scope}
use Rattle.lexer.proofs.Laws.{g_then}
use Rattle.inst_memory.proofs.skip_atomic_ordering.Goals as goal

pub returns : goal.returns
unfolding skip_atomic_ordering orderings opt_scope
returns c =
    g_then _ c.eat_ws-q.ensures
    (g_then {f = opt_scope} _ c.opt_scope-q1.ensures c.skip_one.ensures)
