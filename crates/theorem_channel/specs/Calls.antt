-- On the words of trees the steps find the calls that the trees have: a node's extent cuts it out, child number j of its own words is tree number j
-- among its children, and what is read there is what the tree says. By induction on the trees.
-- Assumes nothing.
use Rattle.std.proofs.Math.Path.{◌≡◌, refl, ap}
use Rattle.std.proofs.Common.{sym, ◌∙◌, subst, arith, get_or-drop, eqb-true, leb-true, leb-false}
use Rattle.std.specs.Prelude.{Bool, ◌&&◌, ◌↔◌, leb, get_or, drop}
use Rattle.std.proofs.Math.Bool.{true, false}
use mathlib.Core.List.{List, [], ◌∷◌, ◌++◌, append_assoc, append-nil}
use Rattle.std.proofs.Math.Option.{Option, none, some}
use Prim.Native.Nat.{ℕ, zero, suc, ◌+◌, ◌*◌, ◌/◌, ◌%◌, ◌^◌, ◌≤◌, ◌<◌}
use Rattle.std.proofs.Math.Dec.{eqb}
use Rattle.std.proofs.Math.ListN.{length, length-append, get_or-append}
use Rattle.std.proofs.lemmas.Bool.{eqb-false}
use Rattle.program.specs.Bytes.{bytes}
use Rattle.records.specs.Limits.{half_limit, channel_limit}
use Rattle.records.specs.Words.{node}
use Rattle.records.specs.Details.{d_function_type}
use Rattle.records.specs.Kinds.{Kind, kind, Global, IntConst, Call}
use Rattle.grammar.specs.Lexer.{same_word}
use Rattle.trees.specs.Tree.{Trees, empty, tree, how_many, tree_words, behind_first}
use Rattle.trees.specs.Forms.{Sort, type, function, value, sorts, repeat, where_set, form_of, Fits, fits, Formed}
use Rattle.trees.specs.Steps.{kind_in, word_at, next_of}
use Rattle.theorem_trees.specs.Walk.{first_of, children, kind_here, detail_here, behind_header, children_from, others_from, child_first, next_sibling}
use Rattle.map_spec.specs.Blocks.{piece_text, name_in, first_node, behind_node}
use Rattle.theorem_map.specs.Kinds.{kind_own}
use Rattle.theorem_map.specs.Words.{first_node_lem, behind_node_lem}
use Rattle.channel_spec.specs.declared.Fired.{Fired}
use Rattle.channel_spec.specs.declared.Fired.TheVariants.{Channel, Undecided, Nothing}
use Rattle.channel_spec.specs.Fires.{constant, is_fire, callee_place, from, calls_fire, constant_of, fire_of, fires_of, block_fires, child_at, calls_fire_at, constant_at, fire_in, fire_here, fires_from, fires_in, blocks_in}

-- A step has gone to the first of trees that end with the words; to none where there is none.
abbrev Ending : (n : ℕ) (ws : List ℕ) → Option ℕ → Trees → Type 0
Ending n ws o t = (at : ℕ) × ((o ≡ first_of at t) × ((drop at ws ≡ tree_words t) × ((length ws ≡ at + length (tree_words t)) × (Formed n t × (length (tree_words t) < half_limit)))))

-- "an integer constant from 0 to 65,535": the first tree is one, and its two words, as one number, are x.
abbrev pub SaysChannel : (x : ℕ) → Trees → Type 0
SaysChannel x empty = ⊥
SaysChannel x (tree k d p cs ts) = (k ≡ IntConst) × ((get_or p 0 0 * 2 ^ 64 + get_or p 1 0 ≡ x) × (x ≤ channel_limit))

-- what is said of trees, if that is what their first says
abbrev Constant : Trees → Fired → Type 0
Constant t (Channel x) = SaysChannel x t
Constant t Undecided = (x : ℕ) → SaysChannel x t → ⊥
Constant t Nothing = ⊥

-- A global has one payload word, an integer constant two.
global_payload : {n d : ℕ} {p : List ℕ} {cs : Trees} → Fits n Global d p cs → length p ≡ 1
unfolding form_of
global_payload {p = []} (fits m t a s y b c) = absurd a
global_payload {p = x ∷ []} (fits m t a s y b c) = refl
global_payload {p = x ∷ y ∷ p} (fits m t a s z b c) = absurd a.1

constant_payload : {n d : ℕ} {p : List ℕ} {cs : Trees} → Fits n IntConst d p cs → length p ≡ 2
unfolding form_of
constant_payload {p = []} (fits m t a s y b c) = absurd a
constant_payload {p = x ∷ []} (fits m t a s y b c) = absurd a.1
constant_payload {p = x ∷ y ∷ []} (fits m t a s z b c) = refl
constant_payload {p = x ∷ y ∷ w ∷ p} (fits m t a s z b c) = absurd a.1.1

-- A node, whose words these are, with others behind them: what is read of it is what its tree says.
module _ (ws : List ℕ) (at : ℕ) (k : Kind) (d : ℕ) (p : List ℕ) (cs : Trees) (r : List ℕ) {n : ℕ} (f : Fits n k d p cs) (small : suc (length (p ++ tree_words cs)) < half_limit)
    (here : drop at ws ≡ node (kind k) d (how_many cs) (p ++ tree_words cs) ++ r) where
  payload_word : (i j : ℕ) → i < length p → at + 1 + i ≡ j → word_at ws j ≡ get_or p i 0
  payload_word i j l e =
      ap (λ (v : ℕ). get_or ws v 0) (sym e) ∙ sym (get_or-drop (at + 1) ws i 0) ∙ ap (λ (v : List ℕ). get_or v i 0) (behind_header ws at k d p cs r f small here) ∙ get_or-append p (tree_words cs ++ r) 0 i l

  fire_named : (piece : List ℕ) → is_fire piece (kind_in (word_at ws at)) (word_at ws (at + 1)) ≡ is_fire piece (kind k) (get_or p 0 0)
  unfolding is_fire
  fire_named piece = rw (is_fire, kind_here ws at k d p cs r f small here) (go (eqb (kind k) (kind Global)) refl)
    where
      go : (b : Bool) → eqb (kind k) (kind Global) ≡ b → b && same_word (name_in piece (word_at ws (at + 1))) (bytes "fire") ≡ b && same_word (name_in piece (get_or p 0 0)) (bytes "fire")
      go true e =
          let q : k ≡ Global = kind_own k Global (eqb-true (kind k) (kind Global) e) in
          let l : length p ≡ 1 = global_payload (subst (λ (v : Kind). Fits n v d p cs) q f) in
          ap (λ (w : ℕ). same_word (name_in piece w) (bytes "fire")) (payload_word 0 (at + 1) (omega arith) (omega arith))
      go false e = refl

  constant_here : constant_at ws (some at) ≡ constant_of (tree k d p cs empty)
  unfolding constant_at constant_of
  constant_here = rw (constant_at, kind_here ws at k d p cs r f small here) (go (eqb (kind k) (kind IntConst)) refl)
    where
      go : (b : Bool) → eqb (kind k) (kind IntConst) ≡ b
          → ◌≡◌ {A = Fired} (elim b [ true ↦ constant (word_at ws (at + 1)) (word_at ws (at + 2)) | false ↦ Undecided ]) (elim b [ true ↦ constant (get_or p 0 0) (get_or p 1 0) | false ↦ Undecided ])
      go true e =
          let q : k ≡ IntConst = kind_own k IntConst (eqb-true (kind k) (kind IntConst) e) in
          let l : length p ≡ 2 = constant_payload (subst (λ (v : Kind). Fits n v d p cs) q f) in
          rw (payload_word 0 (at + 1) (omega arith) (omega arith), payload_word 1 (at + 2) (omega arith) (omega arith))
      go false e = refl

-- From the first of such trees the next step goes to the one behind it.
next_ending : (n : ℕ) (ws : List ℕ) (o : Option ℕ) (t : Trees) → Ending n ws o t → Ending n ws (elim o [ some at ↦ next_of ws at (length ws) | none ↦ none ]) (behind_first t)
unfolding behind_first tree_words node how_many
next_ending n ws o empty h = (h.0, (rw h.1.0, h.1.1))
next_ending n ws o (tree k d p cs ts) h =
    let at : ℕ = h.0 in
    let e : drop at ws ≡ tree_words (tree k d p cs ts) = h.1.1.0 in
    let l : length ws ≡ at + length (tree_words (tree k d p cs ts)) = h.1.1.1.0 in
    let f : Formed n (tree k d p cs ts) = h.1.1.1.1.0 in
    let s : length (tree_words (tree k d p cs ts)) < half_limit = h.1.1.1.1.1 in
    let N : List ℕ = node (kind k) d (how_many cs) (p ++ tree_words cs) in
    let all : length ((p ++ tree_words cs) ++ tree_words ts) ≡ length p + length (tree_words cs) + length (tree_words ts) = length-append (p ++ tree_words cs) (tree_words ts) ∙ ap (λ (i : ℕ). i + length (tree_words ts)) (length-append p (tree_words cs)) in
    let small : suc (length (p ++ tree_words cs)) < half_limit = omega (arith, length-append p (tree_words cs)) in
    let next : next_of ws at (length ws) ≡ first_of (at + (1 + length p + length (tree_words cs))) ts =
    ap (next_of ws at) l ∙ next_sibling ws at k d p cs ts [] f.0 f.1.1 s (e ∙ sym (append-nil (N ++ tree_words ts))) in
    (at + (1 + length p + length (tree_words cs)), (rw h.1.0 next, (others_from ws at k d p cs (tree_words ts) f.0 small e, (omega arith, (f.1.1, omega arith)))))

-- What is read where the step has gone is what the tree there says.
calls_there : (n : ℕ) (piece ws : List ℕ) (o : Option ℕ) (t : Trees) → Ending n ws o t → calls_fire_at piece ws o ≡ calls_fire piece t
unfolding calls_fire_at calls_fire tree_words node
calls_there n piece ws o empty h = rw h.1.0
calls_there n piece ws o (tree k d p cs ts) h =
    let f : Formed n (tree k d p cs ts) = h.1.1.1.1.0 in
    let N : List ℕ = node (kind k) d (how_many cs) (p ++ tree_words cs) in
    rw h.1.0 (fire_named ws h.0 k d p cs (tree_words ts) f.0 (omega (arith, h.1.1.1.1.1, length-append N (tree_words ts))) h.1.1.0 piece)

constant_there : (n : ℕ) (ws : List ℕ) (o : Option ℕ) (t : Trees) → Ending n ws o t → constant_at ws o ≡ constant_of t
unfolding constant_at constant_of tree_words node
constant_there n ws o empty h = rw h.1.0
constant_there n ws o (tree k d p cs ts) h =
    let f : Formed n (tree k d p cs ts) = h.1.1.1.1.0 in
    let N : List ℕ = node (kind k) d (how_many cs) (p ++ tree_words cs) in
    ap (constant_at ws) h.1.0 ∙ constant_here ws h.0 k d p cs (tree_words ts) f.0 (omega (arith, h.1.1.1.1.1, length-append N (tree_words ts))) h.1.1.0

-- trees by their number
from_next : (j : ℕ) (ts : Trees) → from (suc j) ts ≡ behind_first (from j ts)
unfolding from
from_next zero ts = refl
from_next (suc j) ts = from_next j (behind_first ts)

from_second : (j : ℕ) (ts : Trees) → from (j + 2) ts ≡ from 2 (from j ts)
unfolding from
from_second zero ts = refl
from_second (suc j) ts = let e : suc j + 2 ≡ suc (j + 2) = omega arith in rw e (from_second j (behind_first ts))

-- A node with its own words alone.
module _ (n : ℕ) (piece : List ℕ) (k : Kind) (d : ℕ) (p : List ℕ) (cs : Trees) (f : Fits n k d p cs) (g : Formed n cs) (small : suc (length (p ++ tree_words cs)) < half_limit) where
  abbrev N : List ℕ
  N = node (kind k) d (how_many cs) (p ++ tree_words cs)

  here : drop 0 N ≡ N ++ []
  here = sym (append-nil N)

  -- its child number j is the tree with that number
  child_there : (j : ℕ) → Ending n N (child_at j N) (from j cs)
  unfolding child_at from node
  child_there zero =
      (0 + (1 + length p), (child_first N 0 k d p cs [] f g small here, (children_from N 0 k d p cs [] f small here ∙ append-nil (tree_words cs), (omega (arith, length-append p (tree_words cs)), (g, omega (arith, length-append p (tree_words cs)))))))
  child_there (suc j) = rw (from_next j cs) (next_ending n N (child_at j N) (from j cs) (child_there j))

  fire_in_lem : (j : ℕ) → fire_in piece N j ≡ fire_of piece (from j cs)
  unfolding fire_in fire_of
  fire_in_lem j =
      rw (fire_in, calls_there n piece N (child_at j N) (from j cs) (child_there j))
      (go (calls_fire piece (from j cs)) (constant_there n N (child_at (j + 2) N) (from (j + 2) cs) (child_there (j + 2)) ∙ ap constant_of (from_second j cs)))
    where
      go : (b : Bool) {x y : Fired} → x ≡ y → ◌≡◌ {A = List Fired} (elim b [ true ↦ x ∷ [] | false ↦ [] ]) (elim b [ true ↦ y ∷ [] | false ↦ [] ])
      go true e = ap (λ (v : Fired). v ∷ []) e
      go false e = refl

  fire_here_lem : fire_here piece N ≡ elim (eqb (kind k) (kind Call)) [ true ↦ fire_of piece (from (callee_place d) cs) | false ↦ [] ]
  unfolding fire_here
  fire_here_lem =
      rw (fire_here, kind_here N 0 k d p cs [] f small here)
      (go (eqb (kind k) (kind Call)) (ap (λ (v : ℕ). fire_in piece N (callee_place v)) (detail_here N 0 k d p cs [] f small here) ∙ fire_in_lem (callee_place d)))
    where
      go : (b : Bool) {xs ys : List Fired} → xs ≡ ys → ◌≡◌ {A = List Fired} (elim b [ true ↦ xs | false ↦ [] ]) (elim b [ true ↦ ys | false ↦ [] ])
      go true e = e
      go false e = refl

-- The calls among trees that end with the words, m of them at most.
fires_from_lem : (n m : ℕ) (piece ws : List ℕ) (at : ℕ) (t : Trees) → Formed n t → length (tree_words t) < half_limit → drop at ws ≡ tree_words t → length ws ≡ at + length (tree_words t) → how_many t ≤ m
    → fires_from m piece ws (first_of at t) ≡ fires_of piece t
unfolding fires_from fires_of how_many tree_words node
fires_from_lem n zero piece ws at empty f s e l b = refl
fires_from_lem n (suc m) piece ws at empty f s e l b = refl
fires_from_lem n zero piece ws at (tree k d p cs ts) f s e l b = absurd (omega arith)
fires_from_lem n (suc m) piece ws at (tree k d p cs ts) f s e l b =
    let T : List ℕ = tree_words ts in
    let M : List ℕ = node (kind k) d (how_many cs) (p ++ tree_words cs) in
    let all : length ((p ++ tree_words cs) ++ T) ≡ length p + length (tree_words cs) + length T = length-append (p ++ tree_words cs) T ∙ ap (λ (i : ℕ). i + length T) (length-append p (tree_words cs)) in
    let small : suc (length (p ++ tree_words cs)) < half_limit = omega (arith, length-append p (tree_words cs)) in
    let own : first_node (drop at ws) ≡ M = first_node_lem (drop at ws) k d p cs T f.0 small e in
    let one : fire_here piece (first_node (drop at ws)) ≡ elim (eqb (kind k) (kind Call)) [ true ↦ fire_of piece (from (callee_place d) cs) | false ↦ [] ] =
    ap (fire_here piece) own ∙ fire_here_lem n piece k d p cs f.0 f.1.0 small in
    let next : next_of ws at (length ws) ≡ first_of (at + (1 + length p + length (tree_words cs))) ts =
    ap (next_of ws at) l ∙ next_sibling ws at k d p cs ts [] f.0 f.1.1 s (e ∙ sym (append-nil (M ++ T))) in
    let rest : fires_from m piece ws (first_of (at + (1 + length p + length (tree_words cs))) ts) ≡ fires_of piece ts =
    fires_from_lem n m piece ws (at + (1 + length p + length (tree_words cs))) ts f.1.1 (omega arith) (others_from ws at k d p cs T f.0 small e) (omega arith) (omega arith) in
    rw (one, next, rest) (put (eqb (kind k) (kind Call)))
  where
    put : (b : Bool) → ◌≡◌ {A = List Fired} (elim b [ true ↦ fire_of piece (from (callee_place d) cs) | false ↦ [] ] ++ fires_of piece ts) (elim b [ true ↦ fire_of piece (from (callee_place d) cs) ++ fires_of piece ts | false ↦ fires_of piece ts ])
    put true = refl
    put false = refl

-- Of a node with its own words alone: those among the trees below it.
fires_in_lem : (n : ℕ) (piece : List ℕ) (k : Kind) (d : ℕ) (p : List ℕ) (cs : Trees) → Fits n k d p cs → Formed n cs → suc (length (p ++ tree_words cs)) < half_limit
    → fires_in piece (node (kind k) d (how_many cs) (p ++ tree_words cs)) ≡ fires_of piece cs
unfolding fires_in node
fires_in_lem n piece k d p cs f g s =
    let M : List ℕ = node (kind k) d (how_many cs) (p ++ tree_words cs) in
    let here : drop 0 M ≡ M ++ [] = sym (append-nil M) in
    rw (fires_in, children M 0 k d p cs [] f s here, child_first M 0 k d p cs [] f g s here)
    (fires_from_lem n (how_many cs) piece M (0 + (1 + length p)) cs g (omega (arith, length-append p (tree_words cs))) (children_from M 0 k d p cs [] f s here ∙ append-nil (tree_words cs)) (omega (arith, length-append p (tree_words cs))) (omega arith))

-- Blocks, with others behind them: each has its own words, and its entry.
pub blocks_from_lem : (n : ℕ) (text ws : List ℕ) (t : Trees) (r dir : List ℕ) → Formed n t → length (tree_words t) < half_limit → ws ≡ tree_words t ++ r → blocks_in (how_many t) text ws dir ≡ block_fires text t dir
unfolding blocks_in block_fires how_many tree_words node
blocks_from_lem n text ws empty r dir f s e = refl
blocks_from_lem n text ws (tree k d p cs ts) r [] f s e = refl
blocks_from_lem n text ws (tree k d p cs ts) r (x ∷ []) f s e = refl
blocks_from_lem n text ws (tree k d p cs ts) r (x ∷ y ∷ []) f s e = refl
blocks_from_lem n text ws (tree k d p cs ts) r (x ∷ y ∷ c ∷ dir) f s e =
    let M : List ℕ = node (kind k) d (how_many cs) (p ++ tree_words cs) in
    let small : suc (length (p ++ tree_words cs)) < half_limit = omega (arith, length-append M (tree_words ts)) in
    let here : ws ≡ M ++ (tree_words ts ++ r) = e ∙ append_assoc M (tree_words ts) r in
    let own : first_node ws ≡ M = first_node_lem ws k d p cs (tree_words ts ++ r) f.0 small here in
    let others : behind_node ws ≡ tree_words ts ++ r = behind_node_lem ws k d p cs (tree_words ts ++ r) f.0 small here in
    let rest : blocks_in (how_many ts) text (tree_words ts ++ r) dir ≡ block_fires text ts dir =
    blocks_from_lem n text (tree_words ts ++ r) ts r dir f.1.1 (omega (arith, length-append M (tree_words ts))) refl in
    rw (own, others, fires_in_lem n (piece_text text x) k d p cs f.0 f.1.0 small, rest)

says_constant : (t : Trees) → Constant t (constant_of t)
unfolding constant_of constant
says_constant empty = λ x h. h
says_constant (tree k d p cs ts) = go (eqb (kind k) (kind IntConst)) refl
  where
    words : (a b : Bool) → eqb (get_or p 0 0) 0 ≡ a → leb (get_or p 1 0) channel_limit ≡ b → k ≡ IntConst → Constant (tree k d p cs ts) (elim (a && b) [ true ↦ Channel (get_or p 1 0) | false ↦ Undecided ])
    words true true q r e = (e, (omega (arith, eqb-true (get_or p 0 0) 0 q), leb-true (get_or p 1 0) channel_limit r))
    words true false q r e = λ x h. omega (arith, leb-false (get_or p 1 0) channel_limit r, h.1.0, h.1.1)
    words false b q r e = λ x h. eqb-false (get_or p 0 0) 0 q (omega (arith, h.1.0, h.1.1))

    go : (b : Bool) → eqb (kind k) (kind IntConst) ≡ b → Constant (tree k d p cs ts) (elim b [ true ↦ constant (get_or p 0 0) (get_or p 1 0) | false ↦ Undecided ])
    go true q = words (eqb (get_or p 0 0) 0) (leb (get_or p 1 0) channel_limit) refl refl (kind_own k IntConst (eqb-true (kind k) (kind IntConst) q))
    go false q = λ x h. eqb-false (kind k) (kind IntConst) q (ap kind h.0)

-- no two channels
one_channel : (t : Trees) (x y : ℕ) → SaysChannel x t → SaysChannel y t → x ≡ y
one_channel empty x y g h = absurd g
one_channel (tree k d p cs ts) x y g h = sym g.1.0 ∙ h.1.0

-- Those are the channels, and all else is undecided: "undecided is exactly for a first argument that is absent or not an integer constant from 0 to
-- 65,535".
pub channel_exactly : (t : Trees) (x : ℕ) → (constant_of t ≡ Channel x) ↔ SaysChannel x t
channel_exactly t x = ((λ e. subst (Constant t) e (says_constant t)), λ h. go (constant_of t) (says_constant t) h)
  where
    go : (f : Fired) → Constant t f → SaysChannel x t → f ≡ Channel x
    go (Channel y) c h = ap Channel (one_channel t y x c h)
    go Undecided c h = absurd (c x h)
    go Nothing c h = absurd c

pub constant_undecided : (t : Trees) → (constant_of t ≡ Undecided) ↔ ((x : ℕ) → SaysChannel x t → ⊥)
constant_undecided t = ((λ e. subst (Constant t) e (says_constant t)), λ h. go (constant_of t) (says_constant t) h)
  where
    go : (f : Fired) → Constant t f → ((x : ℕ) → SaysChannel x t → ⊥) → f ≡ Undecided
    go (Channel y) c h = absurd (h y c)
    go Undecided c h = refl
    go Nothing c h = absurd c

-- The sorts of the trees from number j on, and those behind j function types.
sorts_from : (j : ℕ) (ts : Trees) → sorts (from j ts) ≡ drop j (sorts ts)
unfolding from sorts behind_first
sorts_from zero ts = refl
sorts_from (suc j) empty = sorts_from j empty ∙ nothing j
  where
    nothing : (j : ℕ) → drop j (sorts empty) ≡ []
    nothing zero = refl
    nothing (suc j) = refl
sorts_from (suc j) (tree k d p cs ts) = sorts_from j ts

drop_repeat : (j : ℕ) (xs : List Sort) → drop j (repeat j (function ∷ []) ++ xs) ≡ xs
unfolding repeat
drop_repeat zero xs = refl
drop_repeat (suc j) xs = drop_repeat j xs

-- The callee of a call is where it is looked for, and behind it stand a type and a value for each of m arguments: the first argument's value is the
-- second tree behind the callee, and where m is 0 there is no tree behind it.
pub callee_there : {n d : ℕ} {p : List ℕ} {cs : Trees} → Fits n Call d p cs → (m : ℕ) × (sorts (from (callee_place d) cs) ≡ value ∷ repeat m (type ∷ value ∷ []))
unfolding form_of where_set callee_place
callee_there {n} {d} {p} {cs} (fits m t a s y b c) =
    let j : ℕ = (d / d_function_type) % 2 in
    (m, sorts_from (suc j) cs ∙ ap (drop (suc j)) s ∙ drop_repeat j (value ∷ repeat m (type ∷ value ∷ [])))
