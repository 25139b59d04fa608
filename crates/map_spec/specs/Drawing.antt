-- M-109, "Block map for Graphviz": the text of a map, from the blocks that it shows.
-- Assumes nothing.
use Rattle.std.specs.Prelude.{Bool, ◌&&◌, not, List, [], ◌∷◌, ◌++◌, ℕ, ◌+◌, ◌-◌, ◌/◌, ◌%◌, ltb, eqb}
use Rattle.program.specs.Bytes.{bytes, byte}
use Rattle.program.specs.Choice.{pick}
use Rattle.program.specs.Class.{DIGIT, HEX, inside}

-- What a map shows of a block: its name, and the names of its targets in terminator order, "repeats kept".
pub data Shown : Type 0 where
  shown : (name : List ℕ) (targets : List (List ℕ)) → Shown

-- "capital hex digits"
unfoldable pub hex_digit : ℕ → ℕ
hex_digit d = pick (ltb d DIGIT) (byte "0" + d) (byte "A" + (d - DIGIT))

-- all but "quote, backslash and bytes outside 32 to 126"
unfoldable pub is_plain : ℕ → Bool
is_plain x = inside (byte " ") (byte "~") x && (not (eqb x (byte "\"")) && not (eqb x (byte "\\")))

-- "become `\\` and two capital hex digits"
unfoldable pub escape : ℕ → List ℕ
escape x = byte "\\" ∷ byte "\\" ∷ hex_digit ((x / HEX) % HEX) ∷ hex_digit (x % HEX) ∷ []

unfoldable pub letter : ℕ → List ℕ
letter x = pick (is_plain x) (x ∷ []) (escape x)

unfoldable pub letters : List ℕ → List ℕ
letters [] = []
letters (x ∷ xs) = letter x ++ letters xs

-- "Labels are quoted"
unfoldable pub in_quotes : List ℕ → List ℕ
in_quotes name = bytes "\"" ++ (letters name ++ bytes "\"")

-- the line `"x"`
unfoldable pub node_line : List ℕ → List ℕ
node_line x = in_quotes x ++ bytes "\n"

-- the line `"x" -> "y"`
unfoldable pub edge_line : List ℕ → List ℕ → List ℕ
edge_line x y = in_quotes x ++ (bytes " -> " ++ (in_quotes y ++ bytes "\n"))

-- "one node line per block"
unfoldable pub node_of : Shown → List ℕ
node_of (shown x ys) = node_line x

-- "one edge line per target in terminator order, repeats kept"
unfoldable pub edges_to : List ℕ → List (List ℕ) → List ℕ
edges_to x [] = []
edges_to x (y ∷ ys) = edge_line x y ++ edges_to x ys

unfoldable pub edges_of : Shown → List ℕ
edges_of (shown x ys) = edges_to x ys

-- "in order": those of all blocks
unfoldable pub lines_of : (Shown → List ℕ) → List Shown → List ℕ
lines_of f [] = []
lines_of f (b ∷ bs) = f b ++ lines_of f bs

-- "a DOT digraph in lines ended by a line feed, `digraph {`, `"x"`, `"x" -> "y"` and `}`": the nodes, then the edges
unfoldable pub drawing : List Shown → List ℕ
drawing bs = bytes "digraph {\n" ++ (lines_of node_of bs ++ (lines_of edges_of bs ++ bytes "}\n"))
