-- Nodes are named one behind the other, each by the step from the one before.
-- Assumes nothing.
use mathlib.Core.Path.{◌≡◌, refl, sym, ap, ◌∙◌}
use mathlib.Core.Bool.{Bool, true, false}
use mathlib.Core.List.{List, [], ◌∷◌, ◌++◌, append_assoc, append-nil}
use mathlib.Core.Option.{Option, none, some}
use Prim.Native.Nat.{ℕ, zero, suc, ◌+◌, ◌-◌, ◌≤◌, ◌<◌}
use native.Mathlib.Omega.{arith}
use lib.ListN.{length}
use borrow.Author.Tests.{eq-eqb, ne_eqb}
use Rattle.records.specs.Kinds.{kind, Name}
use Rattle.trees.specs.Steps.{kind_in, children_in, word_at, child_of, next_of}
use Rattle.map_spec.specs.Drawing.{edge_line, edges_to}
use Rattle.map_spec.specs.Blocks.{name_in, branches, name_here, names_from, last_from, targets_at, targets_in}

-- the last node
pub last_next : (m : ℕ) (ws : List ℕ) (at to : ℕ) → 0 < m → next_of ws at (length ws) ≡ some to → last_from m ws at ≡ last_from (m - 1) ws to
unfolding last_from
last_next zero ws at to h e = absurd (omega arith)
last_next (suc m) ws at to h e = let z : suc m - 1 ≡ m = omega arith in rw (e, z, last_from)

pub last_here : (m : ℕ) (ws : List ℕ) (at : ℕ) → next_of ws at (length ws) ≡ none → last_from m ws at ≡ at
unfolding last_from
last_here zero ws at e = refl
last_here (suc m) ws at e = rw (e, last_from)

pub last_done : (m : ℕ) (ws : List ℕ) (at : ℕ) → m ≤ 0 → last_from m ws at ≡ at
unfolding last_from
last_done zero ws at h = refl
last_done (suc m) ws at h = absurd (omega arith)

-- the edge to the node at a place, whose kind is k
pub edge_here : (x piece ws : List ℕ) (at : ℕ) {k : ℕ} → k ≡ kind_in (word_at ws at) → k ≡ kind Name → edges_to x (name_here piece ws at) ≡ edge_line x (name_in piece (word_at ws (at + 1)))
unfolding edges_to name_here
edge_here x piece ws at e f = rw (name_here, eq-eqb _ _ (sym e ∙ f)) (append-nil (edge_line x (name_in piece (word_at ws (at + 1)))))

pub no_edge_here : (x piece ws : List ℕ) (at : ℕ) {k : ℕ} → k ≡ kind_in (word_at ws at) → (k ≡ kind Name → ⊥) → edges_to x (name_here piece ws at) ≡ []
unfolding edges_to name_here
no_edge_here x piece ws at e f = rw (name_here, ne_eqb _ _ (λ z. f (e ∙ z)))

-- edges to some targets, and to the rest
pub edges_append : (x : List ℕ) (ys zs : List (List ℕ)) → edges_to x (ys ++ zs) ≡ edges_to x ys ++ edges_to x zs
unfolding edges_to
edges_append x [] zs = refl
edges_append x (y ∷ ys) zs = ap {B = List ℕ} (λ l. edge_line x y ++ l) (edges_append x ys zs) ∙ sym (append_assoc (edge_line x y) (edges_to x ys) (edges_to x zs))

pub edges_next : (x : List ℕ) (m : ℕ) (piece ws : List ℕ) (at : ℕ) → 0 < m → edges_to x (names_from m piece ws (some at)) ≡ edges_to x (name_here piece ws at) ++ edges_to x (names_from (m - 1) piece ws (next_of ws at (length ws)))
unfolding names_from
edges_next x zero piece ws at h = absurd (omega arith)
edges_next x (suc m) piece ws at h = let z : suc m - 1 ≡ m = omega arith in rw z (edges_append x (name_here piece ws at) (names_from m piece ws (next_of ws at (length ws))))

pub edges_none : (x : List ℕ) (m : ℕ) (piece ws : List ℕ) → edges_to x (names_from m piece ws none) ≡ []
unfolding edges_to names_from
edges_none x zero piece ws = refl
edges_none x (suc m) piece ws = refl

pub edges_done : (x : List ℕ) (m : ℕ) (piece ws : List ℕ) (o : Option ℕ) → m ≤ 0 → edges_to x (names_from m piece ws o) ≡ []
unfolding edges_to names_from
edges_done x zero piece ws o h = refl
edges_done x (suc m) piece ws o h = absurd (omega arith)

-- the edges of the terminator at a place
module _ (x piece ws : List ℕ) (at : ℕ) where
  pub no_targets : branches (kind_in (word_at ws at)) ≡ false → edges_to x (targets_at piece ws at) ≡ []
  unfolding edges_to targets_at
  no_targets e = rw (targets_at, e)

  pub targets_there : (first n : ℕ) → branches (kind_in (word_at ws at)) ≡ true → child_of ws at ≡ some first → n ≡ children_in (word_at ws at) → edges_to x (targets_at piece ws at) ≡ edges_to x (names_from n piece ws (some first))
  unfolding targets_at
  targets_there first n e f g = rw (targets_at, e, f, g)

  pub targets_none : child_of ws at ≡ none → edges_to x (targets_at piece ws at) ≡ []
  unfolding targets_at edges_to
  targets_none f = go (branches (kind_in (word_at ws at))) refl
    where
      go : (t : Bool) → branches (kind_in (word_at ws at)) ≡ t → edges_to x (targets_at piece ws at) ≡ []
      go true e = rw (targets_at, e, f) (edges_none x (children_in (word_at ws at)) piece ws)
      go false e = no_targets e

-- and of a block
pub block_there : (x piece ws : List ℕ) (first n : ℕ) (at : ℕ) → child_of ws 0 ≡ some first → n ≡ children_in (word_at ws 0) → at ≡ last_from n ws first → edges_to x (targets_in piece ws) ≡ edges_to x (targets_at piece ws at)
unfolding targets_in
block_there x piece ws first n at f g h = rw (targets_in, f, h, g)

pub block_none : (x piece ws : List ℕ) → child_of ws 0 ≡ none → edges_to x (targets_in piece ws) ≡ []
unfolding targets_in edges_to
block_none x piece ws f = rw (targets_in, f)
