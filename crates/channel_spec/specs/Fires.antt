-- M-102: the calls to `@fire` of a function, in record order. From its trees and its text, as 02 says it; and from any words, directory, entry count
-- and text whatever, as the call is lent them. On what an accepted reading leaves the two are the same (`theorem_channel`).
-- Assumes nothing.
use Rattle.std.specs.Prelude.{Bool, true, false, ◌&&◌, List, [], ◌∷◌, ◌++◌, ℕ, zero, suc, ◌+◌, ◌-◌, ◌/◌, ◌%◌, leb, eqb, length, get_or, drop}
use Rattle.std.proofs.Math.Option.{Option, none, some}
use Rattle.program.specs.Bytes.{bytes}
use Rattle.records.specs.Limits.{entry_words, channel_limit}
use Rattle.records.specs.Kinds.{kind, Global, IntConst, Call}
use Rattle.records.specs.Details.{d_function_type}
use Rattle.grammar.specs.Lexer.{same_word}
use Rattle.trees.specs.Tree.{Trees, empty, tree, behind_first}
use Rattle.trees.specs.Steps.{kind_in, detail_in, children_in, word_at, child_of, next_of}
use Rattle.channel_spec.specs.declared.Fired.{Fired}
use Rattle.channel_spec.specs.declared.Fired.TheVariants.{Channel, Undecided, Nothing}
use Rattle.map_spec.specs.Blocks.{piece_text, name_in, first_node, behind_node}

-- What an integer constant says, by its upper and its lower word. It is taken as it is written, whatever its type: `i8 300` is channel 300.
-- "undecided is exactly for a first argument that is absent or not an integer constant from 0 to 65,535"
unfoldable pub constant : (upper lower : ℕ) → Fired
constant u l = elim (eqb u 0 && leb l channel_limit) [ true ↦ Channel l | false ↦ Undecided ]

-- "to `@fire`": a global's name, "quotes and escapes undone"
unfoldable pub is_fire : (piece : List ℕ) (k w : ℕ) → Bool
is_fire piece k w = eqb k (kind Global) && same_word (name_in piece w) (bytes "fire")

-- the callee stands behind the returned type and, where the detail says so, the function type
unfoldable pub callee_place : (d : ℕ) → ℕ
callee_place d = suc ((d / d_function_type) % 2)

-- Over trees.
-- those from number j on
unfoldable pub from : (j : ℕ) → Trees → Trees
from zero ts = ts
from (suc j) ts = from j (behind_first ts)

unfoldable pub calls_fire : (piece : List ℕ) → Trees → Bool
calls_fire piece empty = false
calls_fire piece (tree k d p cs ts) = is_fire piece (kind k) (get_or p 0 0)

unfoldable pub constant_of : Trees → Fired
constant_of empty = Undecided
constant_of (tree k d p cs ts) = elim (eqb (kind k) (kind IntConst)) [ true ↦ constant (get_or p 0 0) (get_or p 1 0) | false ↦ Undecided ]

-- a call's children, from the callee on: if it is `@fire`, what its first argument says, whose value is the second behind the callee
unfoldable pub fire_of : (piece : List ℕ) → Trees → List Fired
fire_of piece ts = elim (calls_fire piece ts) [ true ↦ constant_of (from 2 ts) ∷ [] | false ↦ [] ]

-- among the instructions of a block
unfoldable pub fires_of : (piece : List ℕ) → Trees → List Fired
fires_of piece empty = []
fires_of piece (tree k d p cs ts) = elim (eqb (kind k) (kind Call)) [ true ↦ fire_of piece (from (callee_place d) cs) ++ fires_of piece ts | false ↦ fires_of piece ts ]

-- each block with its entry, and those behind it
unfoldable pub block_fires : (text : List ℕ) → Trees → (dir : List ℕ) → List Fired
block_fires text empty dir = []
block_fires text (tree k d p cs ts) [] = []
block_fires text (tree k d p cs ts) (x ∷ []) = []
block_fires text (tree k d p cs ts) (x ∷ y ∷ []) = []
block_fires text (tree k d p cs ts) (x ∷ y ∷ c ∷ dir) = fires_of (piece_text text x) cs ++ block_fires text ts dir

-- The head is the first tree and has the first entry; the blocks are behind it.
unfoldable pub function_fires : (text : List ℕ) → Trees → (dir : List ℕ) → List Fired
function_fires text trees dir = block_fires text (behind_first trees) (drop entry_words dir)

-- Over any words, by the steps.
-- a node's child number j, in the node's own words
unfoldable pub child_at : (j : ℕ) (node : List ℕ) → Option ℕ
child_at zero node = child_of node 0
child_at (suc j) node = elim (child_at j node) [ some at ↦ next_of node at (length node) | none ↦ none ]

unfoldable pub calls_fire_at : (piece node : List ℕ) → Option ℕ → Bool
calls_fire_at piece node none = false
calls_fire_at piece node (some at) = is_fire piece (kind_in (word_at node at)) (word_at node (at + 1))

unfoldable pub constant_at : (node : List ℕ) → Option ℕ → Fired
constant_at node none = Undecided
constant_at node (some at) =
    elim (eqb (kind_in (word_at node at)) (kind IntConst)) [ true ↦ constant (word_at node (at + 1)) (word_at node (at + 2)) | false ↦ Undecided ]

-- the callee is child number j
unfoldable pub fire_in : (piece node : List ℕ) (j : ℕ) → List Fired
fire_in piece node j = elim (calls_fire_at piece node (child_at j node)) [ true ↦ constant_at node (child_at (j + 2) node) ∷ [] | false ↦ [] ]

-- a node, if it is a call
unfoldable pub fire_here : (piece node : List ℕ) → List Fired
fire_here piece node = elim (eqb (kind_in (word_at node 0)) (kind Call)) [ true ↦ fire_in piece node (callee_place (detail_in (word_at node 0))) | false ↦ [] ]

-- among m nodes, the first where the step has gone, each the next one
unfoldable pub fires_from : (m : ℕ) (piece ws : List ℕ) → Option ℕ → List Fired
fires_from zero piece ws o = []
fires_from (suc m) piece ws none = []
fires_from (suc m) piece ws (some at) = fire_here piece (first_node (drop at ws)) ++ fires_from m piece ws (next_of ws at (length ws))

-- of a block, whose words these are
unfoldable pub fires_in : (piece ws : List ℕ) → List Fired
fires_in piece ws = fires_from (children_in (word_at ws 0)) piece ws (child_of ws 0)

-- n blocks, each with its entry, as far as the directory has them
unfoldable pub blocks_in : (n : ℕ) (text ws dir : List ℕ) → List Fired
blocks_in zero text ws dir = []
blocks_in (suc n) text ws [] = []
blocks_in (suc n) text ws (x ∷ []) = []
blocks_in (suc n) text ws (x ∷ y ∷ []) = []
blocks_in (suc n) text ws (x ∷ y ∷ c ∷ dir) = fires_in (piece_text text x) (first_node ws) ++ blocks_in n text (behind_node ws) dir

-- n entries: the first is the head's, the last the tail's, which is no block
unfoldable pub word_fires : (n : ℕ) (text words dir : List ℕ) → List Fired
word_fires n text words dir = blocks_in (n - 2) text (behind_node words) (drop entry_words dir)

-- "the n-th call .., from 0 in record order", "or none past the last"
unfoldable pub nth : (n : ℕ) → List Fired → Fired
nth n [] = Nothing
nth zero (f ∷ fs) = f
nth (suc n) (f ∷ fs) = nth n fs
