-- M-109: the text of a map tells its nodes and its edges, name by name, in order: two maps with one text show the same nodes and edges.
-- A quoted name ends at its first quote, no two bytes have one spelling, and what follows the name tells a node from an edge.
-- Assumes nothing.
use Rattle.std.specs.Prelude.{◌≡◌, refl, Bool, true, false, List, [], ◌∷◌, ◌++◌, map, ℕ, ◌+◌, ◌-◌, ◌/◌, ◌%◌, ◌<◌, ltb}
use Rattle.std.proofs.Common.{sym, ap, ◌∙◌, append_assoc, arith, ltb-true, ltb-false}
use Rattle.program.specs.Bytes.{bytes, byte}
use Rattle.program.specs.Choice.{pick}
use Rattle.program.specs.Class.{DIGIT, HEX}
use Rattle.map_spec.specs.Drawing.{Shown, shown, hex_digit, is_plain, escape, letter, letters, in_quotes, node_line, edge_line, node_of, edges_to, edges_of, lines_of, drawing}

-- an edge, from a block to a target
pub data Edge : Type 0 where
  edge : (x y : List ℕ) → Edge

-- the nodes that a map shows
unfoldable pub nodes_in : List Shown → List (List ℕ)
nodes_in [] = []
nodes_in (shown x ys ∷ bs) = x ∷ nodes_in bs

-- the edges that a map shows: of each block, target by target
unfoldable pub edges_in : List Shown → List Edge
edges_in [] = []
edges_in (shown x ys ∷ bs) = map (edge x) ys ++ edges_in bs

-- letters are bytes
abbrev pub Bytes : List ℕ → Type 0
Bytes [] = Unit {0}
Bytes (x ∷ xs) = (x < 256) × Bytes xs

abbrev pub EachBytes : List (List ℕ) → Type 0
EachBytes [] = Unit {0}
EachBytes (x ∷ xs) = Bytes x × EachBytes xs

-- those of every name and of every target
abbrev pub AllBytes : List Shown → Type 0
AllBytes [] = Unit {0}
AllBytes (shown x ys ∷ bs) = (Bytes x × EachBytes ys) × AllBytes bs

head_own : (a b : ℕ) (r s : List ℕ) → a ∷ r ≡ b ∷ s → a ≡ b
head_own a b r s e = cc

tail_own : (a b : ℕ) (r s : List ℕ) → a ∷ r ≡ b ∷ s → r ≡ s
tail_own a b r s e = cc

-- No two digits have one spelling.
digit_own : (d e : ℕ) → d < HEX → e < HEX → hex_digit d ≡ hex_digit e → d ≡ e
unfolding hex_digit
digit_own d e k l q = go (ltb d DIGIT) (ltb e DIGIT) refl refl q
  where
    go : (a b : Bool) → ltb d DIGIT ≡ a → ltb e DIGIT ≡ b → pick a (byte "0" + d) (byte "A" + (d - DIGIT)) ≡ pick b (byte "0" + e) (byte "A" + (e - DIGIT)) → d ≡ e
    go true true m n q = omega arith
    go true false m n q = absurd (omega (arith, ltb-true d DIGIT m))
    go false true m n q = absurd (omega (arith, ltb-true e DIGIT n))
    go false false m n q = omega (arith, ltb-false d DIGIT m, ltb-false e DIGIT n)

-- No two bytes have one escape.
escape_own : (x y : ℕ) (r s : List ℕ) → x < 256 → y < 256 → escape x ++ r ≡ escape y ++ s → (x ≡ y) × (r ≡ s)
unfolding escape
escape_own x y r s k l e =
    let high : (x / HEX) % HEX ≡ (y / HEX) % HEX = digit_own ((x / HEX) % HEX) ((y / HEX) % HEX) (omega arith) (omega arith) (third e) in
    let low : x % HEX ≡ y % HEX = digit_own (x % HEX) (y % HEX) (omega arith) (omega arith) (fourth e) in
    (omega arith, rest e)
  where
    third : {a b c d f g h i : ℕ} → a ∷ b ∷ c ∷ d ∷ r ≡ f ∷ g ∷ h ∷ i ∷ s → c ≡ h
    third e = cc

    fourth : {a b c d f g h i : ℕ} → a ∷ b ∷ c ∷ d ∷ r ≡ f ∷ g ∷ h ∷ i ∷ s → d ≡ i
    fourth e = cc

    rest : {a b c d f g h i : ℕ} → a ∷ b ∷ c ∷ d ∷ r ≡ f ∷ g ∷ h ∷ i ∷ s → r ≡ s
    rest e = cc

-- A plain byte is neither a quote nor a backslash.
plain_quote : (x : ℕ) → is_plain x ≡ true → x ≡ byte "\"" → ⊥
unfolding is_plain
plain_quote x p e = let z : ◌≡◌ {A = Bool} false true = sym (ap is_plain e) ∙ p in let o : ◌≡◌ {A = ℕ} 0 1 = cc in omega arith

plain_backslash : (x : ℕ) → is_plain x ≡ true → x ≡ byte "\\" → ⊥
unfolding is_plain
plain_backslash x p e = let z : ◌≡◌ {A = Bool} false true = sym (ap is_plain e) ∙ p in let o : ◌≡◌ {A = ℕ} 0 1 = cc in omega arith

-- So no letter begins with a quote,
letter_quote : (x : ℕ) (r s : List ℕ) → letter x ++ r ≡ byte "\"" ∷ s → ⊥
unfolding letter escape
letter_quote x r s e = go (is_plain x) refl e
  where
    go : (a : Bool) → is_plain x ≡ a → pick a (x ∷ []) (escape x) ++ r ≡ byte "\"" ∷ s → ⊥
    go true p e = plain_quote x p (head_own x (byte "\"") r s e)
    go false p e = let z : byte "\\" ≡ byte "\"" = cc in omega arith

-- and a letter is told by its spelling.
letter_own : (x y : ℕ) (r s : List ℕ) → x < 256 → y < 256 → letter x ++ r ≡ letter y ++ s → (x ≡ y) × (r ≡ s)
unfolding letter escape
letter_own x y r s k l e = go (is_plain x) (is_plain y) refl refl e
  where
    go : (a b : Bool) → is_plain x ≡ a → is_plain y ≡ b → pick a (x ∷ []) (escape x) ++ r ≡ pick b (y ∷ []) (escape y) ++ s → (x ≡ y) × (r ≡ s)
    go true true p q e = (cc, cc)
    go true false p q e = absurd (plain_backslash x p cc)
    go false true p q e = absurd (plain_backslash y q cc)
    go false false p q e = escape_own x y r s k l e

-- A name ends at the first quote.
letters_own : (x y r s : List ℕ) → Bytes x → Bytes y → letters x ++ (byte "\"" ∷ r) ≡ letters y ++ (byte "\"" ∷ s) → (x ≡ y) × (r ≡ s)
unfolding letters
letters_own [] [] r s k l e = (refl, tail_own (byte "\"") (byte "\"") r s e)
letters_own [] (b ∷ y) r s k l e = absurd (letter_quote b (letters y ++ (byte "\"" ∷ s)) r (sym (append_assoc (letter b) (letters y) (byte "\"" ∷ s)) ∙ sym e))
letters_own (a ∷ x) [] r s k l e = absurd (letter_quote a (letters x ++ (byte "\"" ∷ r)) s (sym (append_assoc (letter a) (letters x) (byte "\"" ∷ r)) ∙ e))
letters_own (a ∷ x) (b ∷ y) r s k l e =
    let both : (a ≡ b) × (letters x ++ (byte "\"" ∷ r) ≡ letters y ++ (byte "\"" ∷ s)) =
    letter_own a b (letters x ++ (byte "\"" ∷ r)) (letters y ++ (byte "\"" ∷ s)) k.0 l.0
    (sym (append_assoc (letter a) (letters x) (byte "\"" ∷ r)) ∙ e ∙ append_assoc (letter b) (letters y) (byte "\"" ∷ s)) in
    let others : (x ≡ y) × (r ≡ s) = letters_own x y r s k.1 l.1 both.1 in
    (join both.0 others.0, others.1)
  where
    join : a ≡ b → x ≡ y → a ∷ x ≡ b ∷ y
    join d e = cc

quoted_own : (x y r s : List ℕ) → Bytes x → Bytes y → in_quotes x ++ r ≡ in_quotes y ++ s → (x ≡ y) × (r ≡ s)
unfolding in_quotes
quoted_own x y r s k l e =
    letters_own x y r s k l (sym (append_assoc (letters x) (bytes "\"") r) ∙ tail_own (byte "\"") (byte "\"") ((letters x ++ bytes "\"") ++ r) ((letters y ++ bytes "\"") ++ s) e ∙ append_assoc (letters y) (bytes "\"") s)

-- The lines of a map.
data Line : Type 0 where
  node : (x : List ℕ) → Line
  arrow : (e : Edge) → Line

-- their text, with the end behind
unfoldable text_of : List Line → List ℕ
text_of [] = bytes "}\n"
text_of (node x ∷ ls) = node_line x ++ text_of ls
text_of (arrow (edge x y) ∷ ls) = edge_line x y ++ text_of ls

abbrev LineBytes : List Line → Type 0
LineBytes [] = Unit {0}
LineBytes (node x ∷ ls) = Bytes x × LineBytes ls
LineBytes (arrow (edge x y) ∷ ls) = (Bytes x × Bytes y) × LineBytes ls

-- A line is a quoted name, and what follows it.
node_text : (x r : List ℕ) → node_line x ++ r ≡ in_quotes x ++ (byte "\n" ∷ r)
unfolding node_line
node_text x r = append_assoc (in_quotes x) (bytes "\n") r

edge_text : (x y r : List ℕ) → edge_line x y ++ r ≡ in_quotes x ++ (bytes " -> " ++ (in_quotes y ++ (byte "\n" ∷ r)))
unfolding edge_line
edge_text x y r =
    append_assoc (in_quotes x) (bytes " -> " ++ (in_quotes y ++ bytes "\n")) r ∙ ap (λ (l : List ℕ). in_quotes x ++ (bytes " -> " ++ l)) (append_assoc (in_quotes y) (bytes "\n") r)

-- It does not begin as the end does.
end_quoted : (x r : List ℕ) → bytes "}\n" ≡ in_quotes x ++ r → ⊥
unfolding in_quotes
end_quoted x r e = let z : byte "}" ≡ byte "\"" = cc in omega arith

-- What follows the name tells a node from an edge.
node_edge : (x y z r s : List ℕ) → Bytes x → Bytes y → node_line x ++ r ≡ edge_line y z ++ s → ⊥
node_edge x y z r s k l e =
    let q : byte "\n" ∷ r ≡ bytes " -> " ++ (in_quotes z ++ (byte "\n" ∷ s)) =
    (quoted_own x y (byte "\n" ∷ r) (bytes " -> " ++ (in_quotes z ++ (byte "\n" ∷ s))) k l (sym (node_text x r) ∙ e ∙ edge_text y z s)).1 in
    let c : byte "\n" ≡ byte " " = cc in
    omega arith

node_own : (x y r s : List ℕ) → Bytes x → Bytes y → node_line x ++ r ≡ node_line y ++ s → (x ≡ y) × (r ≡ s)
node_own x y r s k l e =
    let q : (x ≡ y) × (byte "\n" ∷ r ≡ byte "\n" ∷ s) = quoted_own x y (byte "\n" ∷ r) (byte "\n" ∷ s) k l (sym (node_text x r) ∙ e ∙ node_text y s) in
    (q.0, tail_own (byte "\n") (byte "\n") r s q.1)

edge_own : (x y v w r s : List ℕ) → Bytes x → Bytes y → Bytes v → Bytes w → edge_line x v ++ r ≡ edge_line y w ++ s → (edge x v ≡ edge y w) × (r ≡ s)
edge_own x y v w r s k l m n e =
    let R : List ℕ = in_quotes v ++ (byte "\n" ∷ r) in
    let S : List ℕ = in_quotes w ++ (byte "\n" ∷ s) in
    let p : (x ≡ y) × (bytes " -> " ++ R ≡ bytes " -> " ++ S) = quoted_own x y (bytes " -> " ++ R) (bytes " -> " ++ S) k l (sym (edge_text x v r) ∙ e ∙ edge_text y w s) in
    let q : (v ≡ w) × (byte "\n" ∷ r ≡ byte "\n" ∷ s) = quoted_own v w (byte "\n" ∷ r) (byte "\n" ∷ s) m n (behind R S p.1) in
    (join p.0 q.0, tail_own (byte "\n") (byte "\n") r s q.1)
  where
    behind : (R S : List ℕ) → bytes " -> " ++ R ≡ bytes " -> " ++ S → R ≡ S
    behind R S e = cc

    join : x ≡ y → v ≡ w → edge x v ≡ edge y w
    join d e = cc

-- So the text tells its lines.
lines_own : (ls ms : List Line) → LineBytes ls → LineBytes ms → text_of ls ≡ text_of ms → ls ≡ ms
unfolding text_of
lines_own [] [] k l e = refl
lines_own [] (node y ∷ ms) k l e = absurd (end_quoted y (byte "\n" ∷ text_of ms) (e ∙ node_text y (text_of ms)))
lines_own [] (arrow (edge y w) ∷ ms) k l e = absurd (end_quoted y (bytes " -> " ++ (in_quotes w ++ (byte "\n" ∷ text_of ms))) (e ∙ edge_text y w (text_of ms)))
lines_own (node x ∷ ls) [] k l e = absurd (end_quoted x (byte "\n" ∷ text_of ls) (sym e ∙ node_text x (text_of ls)))
lines_own (arrow (edge x v) ∷ ls) [] k l e = absurd (end_quoted x (bytes " -> " ++ (in_quotes v ++ (byte "\n" ∷ text_of ls))) (sym e ∙ edge_text x v (text_of ls)))
lines_own (node x ∷ ls) (arrow (edge y w) ∷ ms) k l e = absurd (node_edge x y w (text_of ls) (text_of ms) k.0 l.0.0 e)
lines_own (arrow (edge x v) ∷ ls) (node y ∷ ms) k l e = absurd (node_edge y x v (text_of ms) (text_of ls) l.0 k.0.0 (sym e))
lines_own (node x ∷ ls) (node y ∷ ms) k l e =
    let q : (x ≡ y) × (text_of ls ≡ text_of ms) = node_own x y (text_of ls) (text_of ms) k.0 l.0 e in
    rw (q.0, lines_own ls ms k.1 l.1 q.1)
lines_own (arrow (edge x v) ∷ ls) (arrow (edge y w) ∷ ms) k l e =
    let q : (edge x v ≡ edge y w) × (text_of ls ≡ text_of ms) = edge_own x y v w (text_of ls) (text_of ms) k.0.0 l.0.0 k.0.1 l.0.1 e in
    rw (q.0, lines_own ls ms k.1 l.1 q.1)

-- The lines that a map shows: the nodes, then the edges.
unfoldable lines_in : List Shown → List Line
lines_in bs = map node (nodes_in bs) ++ map arrow (edges_in bs)

to_text : (x : List ℕ) (ys : List (List ℕ)) (es : List Edge) (r : List ℕ) → r ≡ text_of (map arrow es) → edges_to x ys ++ r ≡ text_of (map arrow (map (edge x) ys ++ es))
unfolding edges_to text_of
to_text x [] es r e = e
to_text x (y ∷ ys) es r e = append_assoc (edge_line x y) (edges_to x ys) r ∙ ap (λ (l : List ℕ). edge_line x y ++ l) (to_text x ys es r e)

edges_text : (bs : List Shown) → lines_of edges_of bs ++ bytes "}\n" ≡ text_of (map arrow (edges_in bs))
unfolding lines_of edges_of edges_in text_of
edges_text [] = refl
edges_text (shown x ys ∷ bs) = append_assoc (edges_to x ys) (lines_of edges_of bs) (bytes "}\n") ∙ to_text x ys (edges_in bs) (lines_of edges_of bs ++ bytes "}\n") (edges_text bs)

nodes_text : (bs : List Shown) (ls : List Line) → lines_of node_of bs ++ text_of ls ≡ text_of (map node (nodes_in bs) ++ ls)
unfolding lines_of node_of nodes_in text_of
nodes_text [] ls = refl
nodes_text (shown x ys ∷ bs) ls = append_assoc (node_line x) (lines_of node_of bs) (text_of ls) ∙ ap (λ (l : List ℕ). node_line x ++ l) (nodes_text bs ls)

drawing_text : (bs : List Shown) → drawing bs ≡ bytes "digraph {\n" ++ text_of (lines_in bs)
unfolding drawing lines_in
drawing_text bs = ap (λ (l : List ℕ). bytes "digraph {\n" ++ l) (ap (λ (l : List ℕ). lines_of node_of bs ++ l) (edges_text bs) ∙ nodes_text bs (map arrow (edges_in bs)))

-- Their letters are bytes.
to_bytes : (x : List ℕ) (ys : List (List ℕ)) (es : List Edge) → Bytes x → EachBytes ys → LineBytes (map arrow es) → LineBytes (map arrow (map (edge x) ys ++ es))
to_bytes x [] es k l m = m
to_bytes x (y ∷ ys) es k l m = ((k, l.0), to_bytes x ys es k l.1 m)

edges_bytes : (bs : List Shown) → AllBytes bs → LineBytes (map arrow (edges_in bs))
unfolding edges_in
edges_bytes [] k = tt
edges_bytes (shown x ys ∷ bs) k = to_bytes x ys (edges_in bs) k.0.0 k.0.1 (edges_bytes bs k.1)

nodes_bytes : (bs : List Shown) (ls : List Line) → AllBytes bs → LineBytes ls → LineBytes (map node (nodes_in bs) ++ ls)
unfolding nodes_in
nodes_bytes [] ls k l = l
nodes_bytes (shown x ys ∷ bs) ls k l = (k.0.0, nodes_bytes bs ls k.1 l)

lines_bytes : (bs : List Shown) → AllBytes bs → LineBytes (lines_in bs)
unfolding lines_in
lines_bytes bs k = nodes_bytes bs (map arrow (edges_in bs)) k (edges_bytes bs k)

-- Nodes and edges are told apart.
arrows_own : (es fs : List Edge) → map arrow es ≡ map arrow fs → es ≡ fs
arrows_own [] [] q = refl
arrows_own [] (f ∷ fs) q = let z : ◌≡◌ {A = ℕ} 0 1 = cc in absurd (omega arith)
arrows_own (e ∷ es) [] q = let z : ◌≡◌ {A = ℕ} 0 1 = cc in absurd (omega arith)
arrows_own (e ∷ es) (f ∷ fs) q =
    let rest : es ≡ fs = arrows_own es fs cc in
    cc

apart : (xs ys : List (List ℕ)) (es fs : List Edge) → map node xs ++ map arrow es ≡ map node ys ++ map arrow fs → (xs ≡ ys) × (es ≡ fs)
apart [] [] es fs q = (refl, arrows_own es fs q)
apart [] (y ∷ ys) [] fs q = let z : ◌≡◌ {A = ℕ} 0 1 = cc in absurd (omega arith)
apart [] (y ∷ ys) (e ∷ es) fs q = let z : ◌≡◌ {A = ℕ} 0 1 = cc in absurd (omega arith)
apart (x ∷ xs) [] es [] q = let z : ◌≡◌ {A = ℕ} 0 1 = cc in absurd (omega arith)
apart (x ∷ xs) [] es (f ∷ fs) q = let z : ◌≡◌ {A = ℕ} 0 1 = cc in absurd (omega arith)
apart (x ∷ xs) (y ∷ ys) es fs q =
    let rest : (xs ≡ ys) × (es ≡ fs) = apart xs ys es fs cc in
    let others : xs ≡ ys = rest.0 in
    (cc, rest.1)

-- Maps with one text show the same nodes and the same edges, in order.
pub told : (bs cs : List Shown) → AllBytes bs → AllBytes cs → drawing bs ≡ drawing cs → (nodes_in bs ≡ nodes_in cs) × (edges_in bs ≡ edges_in cs)
unfolding lines_in
told bs cs k l e =
    let q : text_of (lines_in bs) ≡ text_of (lines_in cs) = behind (text_of (lines_in bs)) (text_of (lines_in cs)) (sym (drawing_text bs) ∙ e ∙ drawing_text cs) in
    apart (nodes_in bs) (nodes_in cs) (edges_in bs) (edges_in cs) (lines_own (lines_in bs) (lines_in cs) (lines_bytes bs k) (lines_bytes cs l) q)
  where
    behind : (r s : List ℕ) → bytes "digraph {\n" ++ r ≡ bytes "digraph {\n" ++ s → r ≡ s
    behind r s e = cc
