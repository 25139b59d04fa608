-- M-109: which blocks a map shows, and what of them. From the trees of a function and its text, as 02 says it; and from any words, directory, entry
-- count and text whatever, as the call is lent them. On what an accepted reading leaves the two are the same (`theorem_map`).
-- Assumes nothing.
use Rattle.std.specs.Prelude.{Bool, true, false, ◌||◌, List, [], ◌∷◌, ◌++◌, ℕ, zero, suc, ◌+◌, ◌-◌, eqb, length, get_or, take, drop}
use Rattle.std.proofs.Math.Option.{Option, none, some}
use Rattle.records.specs.Limits.{entry_words}
use Rattle.records.specs.Words.{hi, lo}
use Rattle.records.specs.Kinds.{kind, Br, Switch, Name}
use Rattle.grammar.specs.Lexer.{spelled}
use Rattle.grammar.specs.Numbered.{block_number}
use Rattle.trees.specs.Tree.{Trees, empty, tree, behind_first}
use Rattle.trees.specs.Steps.{kind_in, children_in, extent_in, word_at, child_of, next_of}
use Rattle.record_steps.specs.Views.{text_of}
use Rattle.lexer_names.specs.Names.{raw_word}
use Rattle.buffer.specs.Decimal.{decimal}
use Rattle.map_spec.specs.Drawing.{Shown, shown, drawing}

-- the text of a piece, as its entry's first word x says, as far as the text reaches
unfoldable pub piece_text : (text : List ℕ) (x : ℕ) → List ℕ
piece_text text x = take (lo x) (drop (hi x) text)

-- "escapes undone": the name that a word gives in a piece; no bytes where no such part is in it
unfoldable pub name_in : (piece : List ℕ) (w : ℕ) → List ℕ
name_in piece w = spelled (raw_word (text_of piece w))

-- "Unlabelled blocks use their M-106 number": c is the counter in the block's entry, l its label's word
unfoldable pub block_name : (piece : List ℕ) (c l : ℕ) → List ℕ
block_name piece c l = elim (block_number c l) [ some n ↦ decimal n | none ↦ name_in piece l ]

-- the terminators that name targets: `br` and `switch`
unfoldable pub branches : ℕ → Bool
branches k = eqb k (kind Br) || eqb k (kind Switch)

-- Over trees.
-- the names among a node's children; of `br` the true target before the false one, of `switch` the default before the cases, as they stand
unfoldable pub names_of : (piece : List ℕ) → Trees → List (List ℕ)
names_of piece empty = []
names_of piece (tree k d p cs ts) = elim (eqb (kind k) (kind Name)) [ true ↦ name_in piece (get_or p 0 0) ∷ names_of piece ts | false ↦ names_of piece ts ]

-- the targets of a terminator, which is the last of a block's children
unfoldable pub targets_of : (piece : List ℕ) → Trees → List (List ℕ)
targets_of piece empty = []
targets_of piece (tree k d p cs empty) = elim (branches (kind k)) [ true ↦ names_of piece cs | false ↦ [] ]
targets_of piece (tree k d p cs (tree l e q ds ts)) = targets_of piece (tree l e q ds ts)

-- each block with its entry, and those behind it
unfoldable pub blocks_of : (text : List ℕ) → Trees → (dir : List ℕ) → List Shown
blocks_of text empty dir = []
blocks_of text (tree k d p cs ts) [] = []
blocks_of text (tree k d p cs ts) (x ∷ []) = []
blocks_of text (tree k d p cs ts) (x ∷ y ∷ []) = []
blocks_of text (tree k d p cs ts) (x ∷ y ∷ c ∷ dir) =
    shown (block_name (piece_text text x) c (get_or p 0 0)) (targets_of (piece_text text x) cs) ∷ blocks_of text ts dir

-- The head is the first tree and has the first entry; the blocks are behind it.
unfoldable pub map_of : (text : List ℕ) → Trees → (dir : List ℕ) → List ℕ
map_of text trees dir = drawing (blocks_of text (behind_first trees) (drop entry_words dir))

-- Over any words, by the steps.
-- the name of the node at a place, if it is one
unfoldable pub name_here : (piece ws : List ℕ) (at : ℕ) → List (List ℕ)
name_here piece ws at = elim (eqb (kind_in (word_at ws at)) (kind Name)) [ true ↦ name_in piece (word_at ws (at + 1)) ∷ [] | false ↦ [] ]

-- the names among m nodes, the first where the step has gone, each the next one
unfoldable pub names_from : (m : ℕ) (piece ws : List ℕ) → Option ℕ → List (List ℕ)
names_from zero piece ws o = []
names_from (suc m) piece ws none = []
names_from (suc m) piece ws (some at) = name_here piece ws at ++ names_from m piece ws (next_of ws at (length ws))

-- the last node, m steps on at most
unfoldable pub last_from : (m : ℕ) (ws : List ℕ) (at : ℕ) → ℕ
last_from zero ws at = at
last_from (suc m) ws at = elim (next_of ws at (length ws)) [ some to ↦ last_from m ws to | none ↦ at ]

-- the targets of the terminator at a place
unfoldable pub targets_at : (piece ws : List ℕ) (at : ℕ) → List (List ℕ)
targets_at piece ws at =
    elim (branches (kind_in (word_at ws at))) [ true ↦ names_from (children_in (word_at ws at)) piece ws (child_of ws at) | false ↦ [] ]

-- of a block, whose words these are
unfoldable pub targets_in : (piece ws : List ℕ) → List (List ℕ)
targets_in piece ws = elim (child_of ws 0) [ some at ↦ targets_at piece ws (last_from (children_in (word_at ws 0)) ws at) | none ↦ [] ]

-- the words of the first node, and those behind it
unfoldable pub first_node : List ℕ → List ℕ
first_node ws = take (extent_in (word_at ws 0)) ws

unfoldable pub behind_node : List ℕ → List ℕ
behind_node ws = drop (extent_in (word_at ws 0)) ws

-- n blocks, each with its entry, as far as the directory has them
unfoldable pub blocks_from : (n : ℕ) (text ws dir : List ℕ) → List Shown
blocks_from zero text ws dir = []
blocks_from (suc n) text ws [] = []
blocks_from (suc n) text ws (x ∷ []) = []
blocks_from (suc n) text ws (x ∷ y ∷ []) = []
blocks_from (suc n) text ws (x ∷ y ∷ c ∷ dir) =
    shown (block_name (piece_text text x) c (word_at (first_node ws) 1)) (targets_in (piece_text text x) (first_node ws)) ∷ blocks_from n text (behind_node ws) dir

-- n entries: the first is the head's, the last the tail's, which is no block
unfoldable pub blocks_in : (n : ℕ) (text words dir : List ℕ) → List Shown
blocks_in n text words dir = blocks_from (n - 2) text (behind_node words) (drop entry_words dir)

unfoldable pub map_in : (n : ℕ) (text words dir : List ℕ) → List ℕ
map_in n text words dir = drawing (blocks_in n text words dir)
