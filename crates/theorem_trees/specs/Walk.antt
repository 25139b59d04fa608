-- Steps on the words of trees: "child, else next below the array's end, meets each node exactly one time from word 0, in record order" (02: M-111).
-- Behind a header and its payload stands the next node in record order, be it the first child or, of a node without children, what follows it; so each
-- step goes there, and the rest is induction on the trees.
-- Assumes nothing.
use Rattle.std.specs.Prelude.{◌≡◌, refl, Bool, false, ℕ, zero, suc, ◌+◌, ◌-◌, ◌*◌, ◌/◌, ◌^◌, ◌≤◌, ◌<◌, get_or, drop, replicate}
use Rattle.std.proofs.Common.{sym, ◌∙◌, arith, length-append, get_or-drop, drop-drop, drop_at}
use Rattle.std.proofs.Math.Path.{ap}
use Rattle.std.proofs.Math.Bool.{true}
use mathlib.Core.List.{List, [], ◌∷◌, ◌++◌, append_assoc, append-nil}
use Rattle.std.proofs.Math.Option.{Option, none, some}
use Rattle.std.proofs.Math.Arith.{digits_div, digits_mod}
use Rattle.std.proofs.Math.Dec.{ltb}
use Rattle.std.proofs.Math.ListN.{length}
use borrow.Author.Tests.{ltb-true, ltb-false, lt-ltb, le-ltb}
use Rattle.records.specs.Limits.{child_limit, text_limit, half_limit}
use Rattle.records.specs.Words.{header, node}
use Rattle.records.specs.Kinds.{Kind, kind}
use Rattle.records.specs.Pieces.{pad}
use Rattle.trees.specs.Tree.{Trees, empty, tree, how_many, tree_words}
use Rattle.trees.specs.Forms.{block, repeat, payload_length, Fits, fits, Formed}
use Rattle.trees.specs.Steps.{kind_in, detail_in, children_in, extent_in, word_at, is_header, kind_of, step_to, behind_payload, child_of, next_of, step_of, walk}
use Rattle.trees.specs.Function.{Function, places}
use Rattle.theorem_refusals.specs.Trees.{many_sorts}
use Rattle.theorem_trees.specs.Unique.{kind_of_lem, measured}

-- A header's fields.
module _ (k d n s : ℕ) (dl : d < 2 ^ 8) (nl : n ≤ child_limit) (sl : s < half_limit) where
  kind_in_lem : kind_in (header k d n s) ≡ k
  kind_in_lem =
      let e : header k d n s ≡ k * 2 ^ 56 + (d * 2 ^ 48 + n * 2 ^ 32 + s) = omega arith in
      rw e (digits_div k (omega arith))

  detail_in_lem : detail_in (header k d n s) ≡ d
  detail_in_lem =
      let e : header k d n s ≡ (k * 2 ^ 8 + d) * 2 ^ 48 + (n * 2 ^ 32 + s) = omega arith in
      let q : (header k d n s) / 2 ^ 48 ≡ k * 2 ^ 8 + d = rw e (digits_div (k * 2 ^ 8 + d) (omega arith)) in
      rw q (digits_mod k dl)

  children_in_lem : children_in (header k d n s) ≡ n
  children_in_lem =
      let e : header k d n s ≡ ((k * 2 ^ 8 + d) * 2 ^ 16 + n) * 2 ^ 32 + s = omega arith in
      let q : (header k d n s) / 2 ^ 32 ≡ (k * 2 ^ 8 + d) * 2 ^ 16 + n = rw e (digits_div ((k * 2 ^ 8 + d) * 2 ^ 16 + n) sl) in
      rw q (digits_mod (k * 2 ^ 8 + d) (omega arith))

  extent_in_lem : extent_in (header k d n s) ≡ s
  extent_in_lem =
      let e : header k d n s ≡ ((k * 2 ^ 8 + d) * 2 ^ 16 + n) * half_limit + s = omega arith in
      rw e (digits_mod ((k * 2 ^ 8 + d) * 2 ^ 16 + n) sl)

-- past the array there is no header
step_past : (ws : List ℕ) (to : ℕ) → length ws ≤ to → step_to ws to ≡ none
unfolding step_to
step_past ws to l = rw (step_to, past ws to l)
  where
    past : (ws : List ℕ) (to : ℕ) → length ws ≤ to → get_or ws to 0 ≡ 0
    past [] to l = refl
    past (x ∷ ws) zero l = absurd (omega arith)
    past (x ∷ ws) (suc to) l = past ws to (omega arith)

-- the word at a place is the first of those from there on
word_at_lem : (ws : List ℕ) (at x : ℕ) (r : List ℕ) → drop at ws ≡ x ∷ r → word_at ws at ≡ x
word_at_lem ws at x r e =
    let z : at + 0 ≡ at = omega arith in
    ap (λ (i : ℕ). get_or ws i 0) (sym z) ∙ sym (get_or-drop at ws 0 0) ∙ ap (λ (l : List ℕ). get_or l 0 0) e

-- what stands behind the first words of those from a place on
drop_past : (ws : List ℕ) (at : ℕ) (xs r : List ℕ) → drop at ws ≡ xs ++ r → drop (at + length xs) ws ≡ r
drop_past ws at xs r e = sym (drop-drop (length xs) at ws) ∙ ap (drop (length xs)) e ∙ drop_at xs r (length xs) refl

-- A node, of which the words are these, with others behind them.
module _ (ws : List ℕ) (at : ℕ) (k : Kind) (d : ℕ) (p : List ℕ) (cs : Trees) (r : List ℕ) {n : ℕ} (f : Fits n k d p cs) (small : suc (length (p ++ tree_words cs)) < half_limit)
    (here : drop at ws ≡ node (kind k) d (how_many cs) (p ++ tree_words cs) ++ r) where
  h : ℕ
  h = header (kind k) d (how_many cs) (suc (length (p ++ tree_words cs)))

  low : (d < 2 ^ 8) × (how_many cs ≤ child_limit)
  low = go f
    where
      go : Fits n k d p cs → (d < 2 ^ 8) × (how_many cs ≤ child_limit)
      go (fits m t a s y b c) = (b, c)

  word : word_at ws at ≡ h
  unfolding node h
  word = word_at_lem ws at h ((p ++ tree_words cs) ++ r) here

  pub extent : extent_in (word_at ws at) ≡ suc (length (p ++ tree_words cs))
  unfolding h
  extent = rw word (extent_in_lem (kind k) d (how_many cs) (suc (length (p ++ tree_words cs))) low.0 low.1 small)

  pub kind_here : kind_in (word_at ws at) ≡ kind k
  unfolding h
  kind_here = rw word (kind_in_lem (kind k) d (how_many cs) (suc (length (p ++ tree_words cs))) low.0 low.1 small)

  pub detail_here : detail_in (word_at ws at) ≡ d
  unfolding h
  detail_here = rw word (detail_in_lem (kind k) d (how_many cs) (suc (length (p ++ tree_words cs))) low.0 low.1 small)

  is_header_lem : is_header (word_at ws at) ≡ true
  is_header_lem = rw extent (lt-ltb 0 (suc (length (p ++ tree_words cs))) (omega arith))

  -- the step to it is made
  pub step_here : step_to ws at ≡ some at
  unfolding step_to
  step_here = rw (step_to, is_header_lem)

  -- what the words behind the header are
  pub behind_header : drop (at + 1) ws ≡ p ++ (tree_words cs ++ r)
  unfolding node h
  behind_header = drop_past ws at (h ∷ []) ((p ++ tree_words cs) ++ r) here ∙ append_assoc p (tree_words cs) r

  payload : payload_length k d (word_at ws (at + 1)) ≡ length p
  payload = go f
    where
      first : (xs : List ℕ) → drop (at + 1) ws ≡ xs → word_at ws (at + 1) ≡ get_or xs 0 0
      first xs e =
          let z : at + 1 + 0 ≡ at + 1 = omega arith in
          ap (λ (i : ℕ). get_or ws i 0) (sym z) ∙ sym (get_or-drop (at + 1) ws 0 0) ∙ ap (λ (l : List ℕ). get_or l 0 0) e

      go : Fits n k d p cs → payload_length k d (word_at ws (at + 1)) ≡ length p
      go (fits m t a s y b c) = rw (first (p ++ (tree_words cs ++ r)) behind_header) (sym (measured n k d m p (tree_words cs ++ r) a))

  behind_payload_lem : behind_payload ws at k ≡ at + (1 + length p)
  unfolding behind_payload
  behind_payload_lem = rw (detail_here, payload)

  pub children_from : drop (at + (1 + length p)) ws ≡ tree_words cs ++ r
  children_from =
      let e : at + (1 + length p) ≡ at + 1 + length p = omega arith in
      rw e (drop_past ws (at + 1) p (tree_words cs ++ r) behind_header)

  pub others_from : drop (at + (1 + length p + length (tree_words cs))) ws ≡ r
  others_from =
      let e : at + (1 + length p + length (tree_words cs)) ≡ at + (1 + length p) + length (tree_words cs) = omega arith in
      rw e (drop_past ws (at + (1 + length p)) (tree_words cs) r children_from)

  pub children : children_in (word_at ws at) ≡ how_many cs
  unfolding h
  children = rw word (children_in_lem (kind k) d (how_many cs) (suc (length (p ++ tree_words cs))) low.0 low.1 small)

  no_child : how_many cs ≡ 0 → child_of ws at ≡ none
  unfolding child_of
  no_child z = rw (child_of, is_header_lem, children, z)

  a_child : 0 < how_many cs → child_of ws at ≡ step_to ws (at + (1 + length p))
  unfolding child_of h
  a_child l =
      let q : kind_of (kind_in (word_at ws at)) ≡ some k = ap kind_of kind_here ∙ kind_of_lem k in
      let t : ltb 0 (how_many cs) ≡ true = lt-ltb 0 (how_many cs) l in
      rw (child_of, is_header_lem, children, t, q, behind_payload_lem)

  -- where the next one stands
  past : at + extent_in (word_at ws at) ≡ at + (1 + length p + length (tree_words cs))
  past = rw extent (omega (arith, length-append p (tree_words cs)))

  next_before : (end : ℕ) → at + (1 + length p + length (tree_words cs)) < end → next_of ws at end ≡ step_to ws (at + (1 + length p + length (tree_words cs)))
  unfolding next_of
  next_before end l = rw (next_of, is_header_lem, past, lt-ltb (at + (1 + length p + length (tree_words cs))) end l, past)

  next_none : (end : ℕ) → end ≤ at + (1 + length p + length (tree_words cs)) → next_of ws at end ≡ none
  unfolding next_of
  next_none end l = rw (next_of, is_header_lem, past, le-ltb (at + (1 + length p + length (tree_words cs))) end l)

-- Behind a header and its payload, the step goes to what stands there.
step_behind_lem : {n : ℕ} (ws : List ℕ) (at : ℕ) (k : Kind) (d : ℕ) (p : List ℕ) (cs : Trees) (r : List ℕ) → Fits n k d p cs → Formed n cs → suc (length (p ++ tree_words cs)) < half_limit
    → drop at ws ≡ node (kind k) d (how_many cs) (p ++ tree_words cs) ++ r → step_of ws at ≡ step_to ws (at + (1 + length p))
unfolding step_of how_many tree_words node
step_behind_lem ws at k d p empty r f g s e =
    let c : child_of ws at ≡ none = no_child ws at k d p empty r f s e refl in
    rw (step_of, c) (go (ltb (at + (1 + length p)) (length ws)) refl)
  where
    z : at + (1 + length p + 0) ≡ at + (1 + length p)
    z = omega arith

    go : (b : Bool) → ltb (at + (1 + length p)) (length ws) ≡ b → next_of ws at (length ws) ≡ step_to ws (at + (1 + length p))
    go true t = next_before ws at k d p empty r f s e (length ws) (omega (arith, ltb-true (at + (1 + length p)) (length ws) t)) ∙ ap (step_to ws) z
    go false t =
        let l : length ws ≤ at + (1 + length p) = ltb-false (at + (1 + length p)) (length ws) t in
        next_none ws at k d p empty r f s e (length ws) (omega arith) ∙ sym (step_past ws (at + (1 + length p)) l)
step_behind_lem ws at k d p (tree l c q ds ts) r f g s e =
    let t : tree_words (tree l c q ds ts) ++ r ≡ node (kind l) c (how_many ds) (q ++ tree_words ds) ++ (tree_words ts ++ r) = append_assoc (node (kind l) c (how_many ds) (q ++ tree_words ds)) (tree_words ts) r in
    let i : drop (at + (1 + length p)) ws ≡ node (kind l) c (how_many ds) (q ++ tree_words ds) ++ (tree_words ts ++ r) = children_from ws at k d p (tree l c q ds ts) r f s e ∙ t in
    let b : suc (length (q ++ tree_words ds)) < half_limit =
    omega (arith, length-append p (tree_words (tree l c q ds ts)), length-append (q ++ tree_words ds) (tree_words ts)) in
    let o : step_to ws (at + (1 + length p)) ≡ some (at + (1 + length p)) = step_here ws (at + (1 + length p)) l c q ds (tree_words ts ++ r) g.0 b i in
    rw (step_of, a_child ws at k d p (tree l c q ds ts) r f s e (omega arith), o)

-- The walk from a place, if a header stands there.
walk_to : (u : ℕ) → List ℕ → (to : ℕ) → List ℕ
walk_to u ws to = elim (step_to ws to) [ some at ↦ walk u ws at | none ↦ [] ]

-- how many nodes there are
nodes : Trees → ℕ
nodes empty = 0
nodes (tree k d p cs ts) = suc (nodes cs + nodes ts)

-- Over trees: their places, and what is met behind them.
walk_over : (n : ℕ) (ws : List ℕ) (u at : ℕ) (t : Trees) (r : List ℕ) → Formed n t → length (tree_words t) < half_limit → drop at ws ≡ tree_words t ++ r
    → walk_to (nodes t + u) ws at ≡ places at t ++ walk_to u ws (at + length (tree_words t))
unfolding walk_to nodes places tree_words node walk
walk_over n ws u at empty r f s e = let z : at + 0 ≡ at = omega arith in let y : 0 + u ≡ u = omega arith in rw (z, y)
walk_over n ws u at (tree k d p cs ts) r f s e =
    let C : List ℕ = tree_words cs in
    let T : List ℕ = tree_words ts in
    let N : List ℕ = node (kind k) d (how_many cs) (p ++ C) in
    let here : drop at ws ≡ N ++ (T ++ r) = e ∙ append_assoc N T r in
    let all : length ((p ++ C) ++ T) ≡ length p + length C + length T = length-append (p ++ C) T ∙ ap (λ (n : ℕ). n + length T) (length-append p C) in
    let small : suc (length (p ++ C)) < half_limit = omega (arith, length-append p C) in
    let one : step_to ws at ≡ some at = step_here ws at k d p cs (T ++ r) f.0 small here in
    let then : step_of ws at ≡ step_to ws (at + (1 + length p)) = step_behind_lem ws at k d p cs (T ++ r) f.0 f.1.0 small here in
    let below : walk_to (nodes cs + (nodes ts + u)) ws (at + (1 + length p)) ≡ places (at + (1 + length p)) cs ++ walk_to (nodes ts + u) ws (at + (1 + length p) + length C) =
    walk_over n ws (nodes ts + u) (at + (1 + length p)) cs (T ++ r) f.1.0 (omega arith) (children_from ws at k d p cs (T ++ r) f.0 small here) in
    let beside : walk_to (nodes ts + u) ws (at + (1 + length p + length C)) ≡ places (at + (1 + length p + length C)) ts ++ walk_to u ws (at + (1 + length p + length C) + length T) =
    walk_over n ws u (at + (1 + length p + length C)) ts r f.1.1 (omega arith) (others_from ws at k d p cs (T ++ r) f.0 small here) in
    let x : suc (nodes cs + nodes ts) + u ≡ suc (nodes cs + (nodes ts + u)) = omega arith in
    let y : at + (1 + length p) + length C ≡ at + (1 + length p + length C) = omega arith in
    let z : at + (1 + length p + length C) + length T ≡ at + length (tree_words (tree k d p cs ts)) = omega arith in
    let head : walk_to (suc (nodes cs + (nodes ts + u))) ws at ≡ at ∷ walk_to (nodes cs + (nodes ts + u)) ws (at + (1 + length p)) = rw (walk_to, one, walk, then) in
    rw x (head ∙ rw (below, y, beside, z) (simp append_assoc))

-- zeros are no headers
step_zeros : (ws : List ℕ) (at n : ℕ) → drop at ws ≡ replicate n 0 → step_to ws at ≡ none
unfolding step_to
step_zeros ws at n e = rw (step_to, word n e)
  where
    word : (n : ℕ) → drop at ws ≡ replicate n 0 → word_at ws at ≡ 0
    word zero e =
        let z : at + 0 ≡ at = omega arith in
        ap (λ (i : ℕ). get_or ws i 0) (sym z) ∙ sym (get_or-drop at ws 0 0) ∙ ap (λ (l : List ℕ). get_or l 0 0) e
    word (suc n) e = word_at_lem ws at 0 (replicate n 0) e

nodes_words : (t : Trees) → nodes t ≤ length (tree_words t)
unfolding nodes tree_words node
nodes_words empty = omega arith
nodes_words (tree k d p cs ts) =
    omega (arith, nodes_words cs, nodes_words ts, length-append (p ++ tree_words cs) (tree_words ts), length-append p (tree_words cs))

-- a list of trees that has one begins with a header
begins : (n : ℕ) (ws : List ℕ) (t : Trees) (r : List ℕ) → Formed n t → length (tree_words t) < half_limit → 0 < how_many t → ws ≡ tree_words t ++ r → step_to ws 0 ≡ some 0
unfolding how_many tree_words node
begins n ws empty r f s l e = absurd (omega arith)
begins n ws (tree k d p cs ts) r f s l e =
    let N : List ℕ = node (kind k) d (how_many cs) (p ++ tree_words cs) in
    step_here ws 0 k d p cs (tree_words ts ++ r) f.0 (omega (arith, length-append (p ++ tree_words cs) (tree_words ts))) (e ∙ append_assoc N (tree_words ts) r)

-- M-111: "On words left by an accepted reading, child, else next below the array's end, meets each node exactly one time from word 0, in record
-- order." `places` is every node's place in record order, and `places_rise` says that none comes twice. As many turns as there are words are enough.
pub walk_meets : (n : ℕ) (ws ds : List ℕ) (F : Function n ws ds) (u : ℕ) → length ws ≤ u → walk u ws 0 ≡ places 0 F.trees
unfolding walk_to pad
walk_meets n ws ds F u l =
    let t : Trees = F.trees in
    let W : List ℕ = tree_words t in
    let zeros : List ℕ = replicate (length ws - length W) 0 in
    let e : ws ≡ W ++ zeros = F.all in
    let many : how_many t ≡ suc (length (repeat F.blocks (block ∷ []))) = many_sorts t ∙ ap length F.pieces in
    let start : step_to ws 0 ≡ some 0 = begins text_limit ws t zeros F.formed F.small (omega arith) e in
    let end : drop (0 + length W) ws ≡ zeros = drop_past ws 0 W zeros e in
    let over : walk_to (nodes t + (u - nodes t)) ws 0 ≡ places 0 t ++ walk_to (u - nodes t) ws (0 + length W) = walk_over text_limit ws (u - nodes t) 0 t zeros F.formed F.small e in
    let enough : nodes t + (u - nodes t) ≡ u = omega (arith, nodes_words t, ap length e, length-append W zeros) in
    let a : walk u ws 0 ≡ walk_to u ws 0 = rw (walk_to, start) in
    let b : walk_to (u - nodes t) ws (0 + length W) ≡ [] = rw (walk_to, step_zeros ws (0 + length W) (length ws - length W) end) in
    let c : walk_to u ws 0 ≡ places 0 t ++ walk_to (u - nodes t) ws (0 + length W) = rw enough at over in
    a ∙ c ∙ ap (λ (l : List ℕ). places 0 t ++ l) b ∙ append-nil (places 0 t)

-- Numbers from a on, below b, each above the one before.
unfoldable pub Rising : (a b : ℕ) → List ℕ → Type 0
Rising a b [] = a ≤ b
Rising a b (x ∷ xs) = (a ≤ x) × Rising (suc x) b xs

lower : (a b c : ℕ) (ys : List ℕ) → a ≤ b → Rising b c ys → Rising a c ys
unfolding Rising
lower a b c [] l h = omega arith
lower a b c (y ∷ ys) l h = (omega (arith, h.0), h.1)

rising_behind : (a b c : ℕ) (xs ys : List ℕ) → Rising a b xs → Rising b c ys → Rising a c (xs ++ ys)
unfolding Rising
rising_behind a b c [] ys h k = lower a b c ys h k
rising_behind a b c (x ∷ xs) ys h k = (h.0, rising_behind (suc x) b c xs ys h.1 k)

-- Each node stands above the one before it in record order, and all stand in their words.
pub places_rise : (at : ℕ) (t : Trees) → Rising at (at + length (tree_words t)) (places at t)
unfolding Rising places tree_words node
places_rise at empty = omega arith
places_rise at (tree k d p cs ts) =
    let C : List ℕ = tree_words cs in
    let T : List ℕ = tree_words ts in
    let b : ℕ = at + (1 + length p + length C) in
    let e : at + (1 + length p) + length C ≡ b = omega arith in
    let z : b + length T ≡ at + length (tree_words (tree k d p cs ts)) = omega (arith, length-append (p ++ C) T, length-append p C) in
    let below : Rising (suc at) (at + (1 + length p) + length C) (places (at + (1 + length p)) cs) = lower (suc at) (at + (1 + length p)) (at + (1 + length p) + length C) (places (at + (1 + length p)) cs) (omega arith) (places_rise (at + (1 + length p)) cs) in
    let behind : Rising b (b + length T) (places b ts) = places_rise b ts in
    (omega arith, rw (← z) (rising_behind (suc at) b (b + length T) (places (at + (1 + length p)) cs) (places b ts) (rw e at below) behind))

-- Child and next, of one parent. A node's first child stands behind its payload, and the next one behind each; below the parent's end that is all.
abbrev pub first_of : (at : ℕ) → Trees → Option ℕ
first_of at empty = none
first_of at (tree k d p cs ts) = some at

pub child_first : {n : ℕ} (ws : List ℕ) (at : ℕ) (k : Kind) (d : ℕ) (p : List ℕ) (cs : Trees) (r : List ℕ) → Fits n k d p cs → Formed n cs → suc (length (p ++ tree_words cs)) < half_limit
    → drop at ws ≡ node (kind k) d (how_many cs) (p ++ tree_words cs) ++ r → child_of ws at ≡ first_of (at + (1 + length p)) cs
unfolding how_many tree_words node
child_first ws at k d p empty r f g s e = no_child ws at k d p empty r f s e refl
child_first ws at k d p (tree l c q ds ts) r f g s e =
    let N : List ℕ = node (kind l) c (how_many ds) (q ++ tree_words ds) in
    a_child ws at k d p (tree l c q ds ts) r f s e (omega arith)
    ∙ step_here ws (at + (1 + length p)) l c q ds (tree_words ts ++ r) g.0
    (omega (arith, length-append p (tree_words (tree l c q ds ts)), length-append (q ++ tree_words ds) (tree_words ts)))
    (children_from ws at k d p (tree l c q ds ts) r f s e ∙ append_assoc N (tree_words ts) r)

pub next_sibling : {n : ℕ} (ws : List ℕ) (at : ℕ) (k : Kind) (d : ℕ) (p : List ℕ) (cs ts : Trees) (r : List ℕ) → Fits n k d p cs → Formed n ts → length (tree_words (tree k d p cs ts)) < half_limit
    → drop at ws ≡ tree_words (tree k d p cs ts) ++ r → next_of ws at (at + length (tree_words (tree k d p cs ts))) ≡ first_of (at + (1 + length p + length (tree_words cs))) ts
unfolding how_many tree_words node
next_sibling ws at k d p cs empty r f g s e =
    let N : List ℕ = node (kind k) d (how_many cs) (p ++ tree_words cs) in
    let l : length ((p ++ tree_words cs) ++ []) ≡ length p + length (tree_words cs) = ap length (append-nil (p ++ tree_words cs)) ∙ length-append p (tree_words cs) in
    next_none ws at k d p cs r f (omega (arith, length-append p (tree_words cs))) (e ∙ append_assoc N [] r) (at + length (tree_words (tree k d p cs empty))) (omega arith)
next_sibling ws at k d p cs (tree l c q ds us) r f g s e =
    let T : List ℕ = tree_words (tree l c q ds us) in
    let N : List ℕ = node (kind k) d (how_many cs) (p ++ tree_words cs) in
    let M : List ℕ = node (kind l) c (how_many ds) (q ++ tree_words ds) in
    let all : length ((p ++ tree_words cs) ++ T) ≡ length p + length (tree_words cs) + length T = length-append (p ++ tree_words cs) T ∙ ap (λ (n : ℕ). n + length T) (length-append p (tree_words cs)) in
    let small : suc (length (p ++ tree_words cs)) < half_limit = omega (arith, length-append p (tree_words cs)) in
    let here : drop at ws ≡ N ++ (T ++ r) = e ∙ append_assoc N T r in
    next_before ws at k d p cs (T ++ r) f small here (at + length (tree_words (tree k d p cs (tree l c q ds us)))) (omega arith)
    ∙ step_here ws (at + (1 + length p + length (tree_words cs))) l c q ds (tree_words us ++ r) g.0 (omega (arith, length-append (q ++ tree_words ds) (tree_words us)))
    (others_from ws at k d p cs (T ++ r) f small here ∙ append_assoc M (tree_words us) r)
