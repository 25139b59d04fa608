-- The calls are the definition's steps in the same order.
use Rattle.grammar.specs.Counter.{counted_name}
use Rattle.lexer.proofs.Laws.{g_place, g_then, g_done}
use Rattle.piece_counter.proofs.counted_name.Goals as goal

pub returns : goal.returns
unfolding counted_name
returns c =
    g_place _ _ c.place-at.ensures
    (λ l. g_then _ c.read_word-x.ensures.gives
    (g_then _ (c.name_of-n.ensures _ _ c.read_word-x.ensures l)
    (g_place _ _ c.place-j.ensures (λ m. g_then _ c.name_counter-d.ensures g_done))))
