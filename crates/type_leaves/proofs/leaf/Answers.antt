-- One word is written, the header, and the node of a kind without a body is that header alone.
use mathlib.Core.Path.{sym, ap}
use mathlib.Core.List.{[], ◌∷◌}
use Prim.Native.Nat.{ℕ}
use Rattle.node_words.proofs.Laws.{push_then}
use Rattle.type_leaves.proofs.LeafLaws.{done_as}
use Rattle.records.specs.Words.{node}
use Rattle.type_leaves.proofs.leaf.Goals as goal

pub returns : goal.returns
unfolding node
returns c =
    λ text. push_then _ c.push.ensures
    (done_as
    (ap (λ (h : ℕ). h ∷ [])
    (sym c.plain_header-h.ensures)))
