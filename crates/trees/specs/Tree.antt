-- A node as a tree: kind, detail, payload, children. 01, "Record words": "A node is a header, its payload words, its children in ast.rs order".
-- Assumes nothing.
use Rattle.std.specs.Prelude.{List, [], ◌++◌, ℕ, suc}
use Rattle.records.specs.Words.{node}
use Rattle.records.specs.Kinds.{Kind, kind}

-- Trees, one behind the other: the first one's kind, detail, payload and children, and those behind it. A tree is one with none behind it.
pub data Trees : Type 0 where
  empty : Trees
  tree : Kind → (detail : ℕ) → (payload : List ℕ) → (children behind : Trees) → Trees

unfoldable pub how_many : Trees → ℕ
how_many empty = 0
how_many (tree k d p cs ts) = suc (how_many ts)

-- "its children, each a node, one behind the other"
unfoldable pub tree_words : Trees → List ℕ
tree_words empty = []
tree_words (tree k d p cs ts) = node (kind k) d (how_many cs) (p ++ tree_words cs) ++ tree_words ts

-- the first of some trees, alone; its children; those behind it
unfoldable pub first_tree : Trees → Trees
first_tree empty = empty
first_tree (tree k d p cs ts) = tree k d p cs empty

unfoldable pub below_first : Trees → Trees
below_first empty = empty
below_first (tree k d p cs ts) = cs

unfoldable pub behind_first : Trees → Trees
behind_first empty = empty
behind_first (tree k d p cs ts) = ts
