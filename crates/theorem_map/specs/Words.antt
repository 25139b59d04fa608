-- On the words of trees the steps show what the trees show: a node's extent cuts it out, its last child is the last tree, and the names among its
-- children are those among the trees. By induction on the trees.
-- Assumes nothing.
use Rattle.std.proofs.Math.Path.{◌≡◌, refl, ap, subst}
use Rattle.std.proofs.Common.{sym, ◌∙◌, arith, length-append, take_at, drop_at, get_or-drop, eqb-true}
use Rattle.std.specs.Prelude.{Bool, ℕ, zero, suc, ◌+◌, ◌≤◌, ◌<◌, length, get_or, drop}
use Rattle.std.proofs.Math.Bool.{true, false}
use mathlib.Core.List.{List, [], ◌∷◌, ◌++◌, append_assoc, append-nil}
use Rattle.std.proofs.Math.Option.{none, some}
use Rattle.std.proofs.Math.Dec.{eqb}
use Rattle.records.specs.Limits.{half_limit}
use Rattle.records.specs.Words.{node}
use Rattle.records.specs.Kinds.{Kind, kind, Block, Name}
use Rattle.trees.specs.Tree.{Trees, empty, tree, how_many, tree_words}
use Rattle.trees.specs.Forms.{Sort, block, sort_of, sorts, repeat, form_of, Fits, fits, Formed}
use Rattle.trees.specs.Steps.{children_in, extent_in, word_at, child_of, next_of}
use Rattle.theorem_trees.specs.Walk.{first_of, extent, children, kind_here, behind_header, children_from, others_from, child_first, next_sibling}
use Rattle.map_spec.specs.Blocks.{piece_text, name_in, branches, names_of, targets_of, blocks_of, name_here, names_from, last_from, targets_at, targets_in, first_node, behind_node, blocks_from}
use Rattle.theorem_map.specs.Kinds.{kind_own, block_kind}

-- The first word behind the header is the first of the payload, where there is one.
first_word : (ws : List ℕ) (at x : ℕ) (p r : List ℕ) → drop (at + 1) ws ≡ (x ∷ p) ++ r → word_at ws (at + 1) ≡ get_or (x ∷ p) 0 0
first_word ws at x p r e =
    let z : at + 1 + 0 ≡ at + 1 = omega arith in
    ap (λ (i : ℕ). get_or ws i 0) (sym z) ∙ sym (get_or-drop (at + 1) ws 0 0) ∙ ap (λ (l : List ℕ). get_or l 0 0) e

-- A name has one, and so has a block.
payload_name : {n d : ℕ} {p : List ℕ} {cs : Trees} → Fits n Name d p cs → (x : ℕ) × (p ≡ x ∷ [])
unfolding form_of
payload_name {p = []} (fits m t a s y b c) = absurd a
payload_name {p = x ∷ []} (fits m t a s y b c) = (x, refl)
payload_name {p = x ∷ y ∷ p} (fits m t a s z b c) = absurd a.1

payload_block : {n d : ℕ} {p : List ℕ} {cs : Trees} → Fits n Block d p cs → (x : ℕ) × (p ≡ x ∷ [])
unfolding form_of
payload_block {p = []} (fits m t a s y b c) = absurd a
payload_block {p = x ∷ []} (fits m t a s y b c) = (x, refl)
payload_block {p = x ∷ y ∷ p} (fits m t a s z b c) = absurd a.1

-- A node, whose words these are, with others behind them.
module _ (piece ws : List ℕ) (at : ℕ) (k : Kind) (d : ℕ) (p : List ℕ) (cs : Trees) (r : List ℕ) {n : ℕ} (f : Fits n k d p cs) (small : suc (length (p ++ tree_words cs)) < half_limit)
    (here : drop at ws ≡ node (kind k) d (how_many cs) (p ++ tree_words cs) ++ r) where
  -- its first payload word
  payload_word : ((x : ℕ) × (p ≡ x ∷ [])) → word_at ws (at + 1) ≡ get_or p 0 0
  payload_word (x, e) =
      let b : drop (at + 1) ws ≡ (x ∷ []) ++ (tree_words cs ++ r) = behind_header ws at k d p cs r f small here ∙ ap (λ (l : List ℕ). l ++ (tree_words cs ++ r)) e in
      first_word ws at x [] (tree_words cs ++ r) b ∙ ap (λ (l : List ℕ). get_or l 0 0) (sym e)

  -- the name here, if the node is one
  name_here_lem : name_here piece ws at ≡ elim (eqb (kind k) (kind Name)) [ true ↦ name_in piece (get_or p 0 0) ∷ [] | false ↦ [] ]
  unfolding name_here
  name_here_lem = rw (name_here, kind_here ws at k d p cs r f small here) (go (eqb (kind k) (kind Name)) refl)
    where
      go : (b : Bool) → eqb (kind k) (kind Name) ≡ b → ◌≡◌ {A = List (List ℕ)} (elim b [ true ↦ name_in piece (word_at ws (at + 1)) ∷ [] | false ↦ [] ]) (elim b [ true ↦ name_in piece (get_or p 0 0) ∷ [] | false ↦ [] ])
      go true e =
          let q : k ≡ Name = kind_own k Name (eqb-true (kind k) (kind Name) e) in
          let g : Fits n Name d p cs = subst (λ (l : Kind). Fits n l d p cs) q f in
          ap (λ (w : ℕ). name_in piece w ∷ []) (payload_word (payload_name g))
      go false e = refl

-- The names among trees that end with the words, m of them at most.
names_from_lem : (n m : ℕ) (piece ws : List ℕ) (at : ℕ) (t : Trees) → Formed n t → length (tree_words t) < half_limit → drop at ws ≡ tree_words t → length ws ≡ at + length (tree_words t) → how_many t ≤ m
    → names_from m piece ws (first_of at t) ≡ names_of piece t
unfolding names_from names_of how_many tree_words node
names_from_lem n zero piece ws at empty f s e l b = refl
names_from_lem n (suc m) piece ws at empty f s e l b = refl
names_from_lem n zero piece ws at (tree k d p cs ts) f s e l b = absurd (omega arith)
names_from_lem n (suc m) piece ws at (tree k d p cs ts) f s e l b =
    let T : List ℕ = tree_words ts in
    let N : List ℕ = node (kind k) d (how_many cs) (p ++ tree_words cs) in
    let all : length ((p ++ tree_words cs) ++ T) ≡ length p + length (tree_words cs) + length T = length-append (p ++ tree_words cs) T ∙ ap (λ (i : ℕ). i + length T) (length-append p (tree_words cs)) in
    let small : suc (length (p ++ tree_words cs)) < half_limit = omega (arith, length-append p (tree_words cs)) in
    let one : name_here piece ws at ≡ elim (eqb (kind k) (kind Name)) [ true ↦ name_in piece (get_or p 0 0) ∷ [] | false ↦ [] ] = name_here_lem piece ws at k d p cs T f.0 small e in
    let next : next_of ws at (length ws) ≡ first_of (at + (1 + length p + length (tree_words cs))) ts =
    ap (next_of ws at) l ∙ next_sibling ws at k d p cs ts [] f.0 f.1.1 s (e ∙ sym (append-nil (N ++ T))) in
    let rest : names_from m piece ws (first_of (at + (1 + length p + length (tree_words cs))) ts) ≡ names_of piece ts =
    names_from_lem n m piece ws (at + (1 + length p + length (tree_words cs))) ts f.1.1 (omega arith) (others_from ws at k d p cs T f.0 small e) (omega arith) (omega arith) in
    rw (one, next, rest) (put (eqb (kind k) (kind Name)))
  where
    put : (b : Bool) → ◌≡◌ {A = List (List ℕ)} (elim b [ true ↦ name_in piece (get_or p 0 0) ∷ [] | false ↦ [] ] ++ names_of piece ts) (elim b [ true ↦ name_in piece (get_or p 0 0) ∷ names_of piece ts | false ↦ names_of piece ts ])
    put true = refl
    put false = refl

-- The targets of a terminator that ends with the words.
targets_at_lem : (n : ℕ) (piece ws : List ℕ) (at : ℕ) (k : Kind) (d : ℕ) (p : List ℕ) (cs : Trees) → Fits n k d p cs → Formed n cs → suc (length (p ++ tree_words cs)) < half_limit
    → drop at ws ≡ node (kind k) d (how_many cs) (p ++ tree_words cs) → length ws ≡ at + suc (length (p ++ tree_words cs)) → targets_at piece ws at ≡ targets_of piece (tree k d p cs empty)
unfolding targets_at targets_of
targets_at_lem n piece ws at k d p cs f g s e l =
    let N : List ℕ = node (kind k) d (how_many cs) (p ++ tree_words cs) in
    let here : drop at ws ≡ N ++ [] = e ∙ sym (append-nil N) in
    let from : drop (at + (1 + length p)) ws ≡ tree_words cs = children_from ws at k d p cs [] f s here ∙ append-nil (tree_words cs) in
    let long : length ws ≡ at + (1 + length p) + length (tree_words cs) = omega (arith, length-append p (tree_words cs)) in
    let names : names_from (how_many cs) piece ws (first_of (at + (1 + length p)) cs) ≡ names_of piece cs =
    names_from_lem n (how_many cs) piece ws (at + (1 + length p)) cs g (omega (arith, length-append p (tree_words cs))) from long (omega arith) in
    let same : names_from (children_in (word_at ws at)) piece ws (child_of ws at) ≡ names_of piece cs = rw (children ws at k d p cs [] f s here, child_first ws at k d p cs [] f g s here) names in
    rw (targets_at, kind_here ws at k d p cs [] f s here) (go (branches (kind k)) same)
  where
    go : (b : Bool) {xs ys : List (List ℕ)} → xs ≡ ys → ◌≡◌ {A = List (List ℕ)} (elim b [ true ↦ xs | false ↦ [] ]) (elim b [ true ↦ ys | false ↦ [] ])
    go true e = e
    go false e = refl

-- The last of trees that end with the words is the terminator.
last_from_lem : (n m : ℕ) (piece ws : List ℕ) (at : ℕ) (k : Kind) (d : ℕ) (p : List ℕ) (cs ts : Trees) → Formed n (tree k d p cs ts) → length (tree_words (tree k d p cs ts)) < half_limit
    → drop at ws ≡ tree_words (tree k d p cs ts) → length ws ≡ at + length (tree_words (tree k d p cs ts)) → how_many ts ≤ m
    → targets_at piece ws (last_from m ws at) ≡ targets_of piece (tree k d p cs ts)
unfolding last_from targets_of how_many tree_words node
last_from_lem n m piece ws at k d p cs empty f s e l b =
    let N : List ℕ = node (kind k) d (how_many cs) (p ++ tree_words cs) in
    let small : suc (length (p ++ tree_words cs)) < half_limit = omega (arith, length-append (p ++ tree_words cs) []) in
    let next : next_of ws at (length ws) ≡ none = ap (next_of ws at) l ∙ next_sibling ws at k d p cs empty [] f.0 f.1.1 s (e ∙ sym (append-nil (N ++ []))) in
    ap (targets_at piece ws) (stays m next) ∙ targets_at_lem n piece ws at k d p cs f.0 f.1.0 small (e ∙ append-nil N) (omega (arith, length-append (p ++ tree_words cs) []))
  where
    stays : (m : ℕ) → next_of ws at (length ws) ≡ none → last_from m ws at ≡ at
    stays zero o = refl
    stays (suc m) o = rw (last_from, o)
last_from_lem n zero piece ws at k d p cs (tree l c q ds ts) f s e g b = absurd (omega arith)
last_from_lem n (suc m) piece ws at k d p cs (tree l c q ds ts) f s e g b =
    let T : List ℕ = tree_words (tree l c q ds ts) in
    let N : List ℕ = node (kind k) d (how_many cs) (p ++ tree_words cs) in
    let all : length ((p ++ tree_words cs) ++ T) ≡ length p + length (tree_words cs) + length T = length-append (p ++ tree_words cs) T ∙ ap (λ (i : ℕ). i + length T) (length-append p (tree_words cs)) in
    let small : suc (length (p ++ tree_words cs)) < half_limit = omega (arith, length-append p (tree_words cs)) in
    let next : next_of ws at (length ws) ≡ some (at + (1 + length p + length (tree_words cs))) =
    ap (next_of ws at) g ∙ next_sibling ws at k d p cs (tree l c q ds ts) [] f.0 f.1.1 s (e ∙ sym (append-nil (N ++ T))) in
    rw (last_from, next)
    (last_from_lem n m piece ws (at + (1 + length p + length (tree_words cs))) l c q ds ts f.1.1 (omega arith) (others_from ws at k d p cs T f.0 small e) (omega arith) (omega arith))

-- The targets of a node with its own words alone: those of the last tree below it.
pub targets_in_lem : (n : ℕ) (piece : List ℕ) (k : Kind) (d : ℕ) (p : List ℕ) (cs : Trees) → Fits n k d p cs → Formed n cs → suc (length (p ++ tree_words cs)) < half_limit
    → targets_in piece (node (kind k) d (how_many cs) (p ++ tree_words cs)) ≡ targets_of piece cs
unfolding targets_in targets_of how_many node
targets_in_lem n piece k d p cs f g s =
    let N : List ℕ = node (kind k) d (how_many cs) (p ++ tree_words cs) in
    let here : drop 0 N ≡ N ++ [] = sym (append-nil N) in
    let from : drop (0 + (1 + length p)) N ≡ tree_words cs = children_from N 0 k d p cs [] f s here ∙ append-nil (tree_words cs) in
    let small : length (tree_words cs) < half_limit = omega (arith, length-append p (tree_words cs)) in
    let long : length N ≡ 0 + (1 + length p) + length (tree_words cs) = omega (arith, length-append p (tree_words cs)) in
    rw (targets_in, child_first N 0 k d p cs [] f g s here) (below N cs (children_in (word_at N 0)) g small from long (omega (arith, children N 0 k d p cs [] f s here)))
  where
    below : (N : List ℕ) (t : Trees) (m : ℕ) → Formed n t → length (tree_words t) < half_limit → drop (0 + (1 + length p)) N ≡ tree_words t → length N ≡ 0 + (1 + length p) + length (tree_words t) → how_many t ≤ m
        → elim (first_of (0 + (1 + length p)) t) [ some at ↦ targets_at piece N (last_from m N at) | none ↦ [] ] ≡ targets_of piece t
    below N empty m g s e l b = refl
    below N (tree l c q ds ts) m g s e o b = last_from_lem n m piece N (0 + (1 + length p)) l c q ds ts g s e o (omega arith)

-- A node at the front of the words: its own words, and those behind it.
module _ (ws : List ℕ) (k : Kind) (d : ℕ) (p : List ℕ) (cs : Trees) (r : List ℕ) {n : ℕ} (f : Fits n k d p cs) (small : suc (length (p ++ tree_words cs)) < half_limit)
    (here : ws ≡ node (kind k) d (how_many cs) (p ++ tree_words cs) ++ r) where
  long : extent_in (word_at ws 0) ≡ length (node (kind k) d (how_many cs) (p ++ tree_words cs))
  unfolding node
  long = extent ws 0 k d p cs r f small here

  pub first_node_lem : first_node ws ≡ node (kind k) d (how_many cs) (p ++ tree_words cs)
  unfolding first_node
  first_node_lem = rw (first_node, long, here) (take_at (node (kind k) d (how_many cs) (p ++ tree_words cs)) r (length (node (kind k) d (how_many cs) (p ++ tree_words cs))) refl)

  pub behind_node_lem : behind_node ws ≡ r
  unfolding behind_node
  behind_node_lem = rw (behind_node, long, here) (drop_at (node (kind k) d (how_many cs) (p ++ tree_words cs)) r (length (node (kind k) d (how_many cs) (p ++ tree_words cs))) refl)

-- Blocks, with others behind them: each has its own words, and its entry.
pub blocks_from_lem : (n : ℕ) (text ws : List ℕ) (t : Trees) (r dir : List ℕ) → Formed n t → sorts t ≡ repeat (how_many t) (block ∷ []) → length (tree_words t) < half_limit → ws ≡ tree_words t ++ r
    → blocks_from (how_many t) text ws dir ≡ blocks_of text t dir
unfolding blocks_from blocks_of how_many tree_words node sorts repeat
blocks_from_lem n text ws empty r dir f o s e = refl
blocks_from_lem n text ws (tree k d p cs ts) r [] f o s e = refl
blocks_from_lem n text ws (tree k d p cs ts) r (x ∷ []) f o s e = refl
blocks_from_lem n text ws (tree k d p cs ts) r (x ∷ y ∷ []) f o s e = refl
blocks_from_lem n text ws (tree k d p cs ts) r (x ∷ y ∷ c ∷ dir) f o s e =
    let N : List ℕ = node (kind k) d (how_many cs) (p ++ tree_words cs) in
    let small : suc (length (p ++ tree_words cs)) < half_limit = omega (arith, length-append N (tree_words ts)) in
    let b : k ≡ Block = block_kind k (first_sort (sort_of k) (sorts ts) (repeat (how_many ts) (block ∷ [])) o) in
    let here : ws ≡ N ++ (tree_words ts ++ r) = e ∙ append_assoc N (tree_words ts) r in
    let own : first_node ws ≡ N = first_node_lem ws k d p cs (tree_words ts ++ r) f.0 small here in
    let others : behind_node ws ≡ tree_words ts ++ r = behind_node_lem ws k d p cs (tree_words ts ++ r) f.0 small here in
    let label : word_at N 1 ≡ get_or p 0 0 =
    payload_word [] N 0 k d p cs [] f.0 small (sym (append-nil N)) (payload_block (subst (λ (l : Kind). Fits n l d p cs) b f.0)) in
    let rest : blocks_from (how_many ts) text (tree_words ts ++ r) dir ≡ blocks_of text ts dir =
    blocks_from_lem n text (tree_words ts ++ r) ts r dir f.1.1 (tail_sorts (sort_of k) (sorts ts) (repeat (how_many ts) (block ∷ [])) o) (omega (arith, length-append N (tree_words ts))) refl in
    rw (own, others, label, targets_in_lem n (piece_text text x) k d p cs f.0 f.1.0 small, rest)
  where
    first_sort : (a : Sort) (xs ys : List Sort) → a ∷ xs ≡ block ∷ ys → a ≡ block
    first_sort a xs ys q = cc

    tail_sorts : (a : Sort) (xs ys : List Sort) → a ∷ xs ≡ block ∷ ys → xs ≡ ys
    tail_sorts a xs ys q = cc
