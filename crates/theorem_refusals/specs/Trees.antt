-- How the words of trees are put together: trees one behind the other, a node over them, groups of them in a list. By induction on the trees.
-- Assumes nothing.
use Rattle.std.specs.Prelude.{◌≡◌, refl, Bool, not, List, [], ◌∷◌, ◌++◌, ℕ, zero, suc, ◌+◌, ◌≤◌, ◌<◌, ◌^◌, T, eqb, length}
use Rattle.std.proofs.Common.{sym, ap, ◌∙◌, subst, append_assoc, append-nil, arith, length-append, eq-eqb}
use Rattle.records.specs.Words.{node}
use Rattle.records.specs.Kinds.{Kind, kind, Call}
use Rattle.records.specs.Limits.{child_limit}
use Rattle.grammar.specs.Types.{Listed, count_of, dots_of, words_of}
use Rattle.trees.specs.Tree.{Trees, empty, tree, how_many, tree_words}
use Rattle.trees.specs.Forms.{Sort, sort_of, sorts, Field, Are, repeat, detail_of, payload_of, children_of, form_of, Repeats, fits, Formed, Laid, laid}

-- Trees behind others.
unfoldable pub beside : Trees → Trees → Trees
beside empty us = us
beside (tree k d p cs ts) us = tree k d p cs (beside ts us)

sorts_beside : (ts us : Trees) → sorts (beside ts us) ≡ sorts ts ++ sorts us
unfolding sorts beside
sorts_beside empty us = refl
sorts_beside (tree k d p cs ts) us = ap {B = List Sort} (λ l. sort_of k ∷ l) (sorts_beside ts us)

words_beside : (ts us : Trees) → tree_words (beside ts us) ≡ tree_words ts ++ tree_words us
unfolding tree_words beside
words_beside empty us = refl
words_beside (tree k d p cs ts) us =
    let x : List ℕ = node (kind k) d (how_many cs) (p ++ tree_words cs) in
    ap (λ (l : List ℕ). x ++ l) (words_beside ts us) ∙ sym (append_assoc x (tree_words ts) (tree_words us))

formed_beside : (n : ℕ) (ts us : Trees) → Formed n ts → Formed n us → Formed n (beside ts us)
unfolding beside
formed_beside n empty us f g = g
formed_beside n (tree k d p cs ts) us f g = (f.0, (f.1.0, formed_beside n ts us f.1.1 g))

pub many_sorts : (ts : Trees) → how_many ts ≡ length (sorts ts)
unfolding how_many sorts
many_sorts empty = refl
many_sorts (tree k d p cs ts) = ap suc (many_sorts ts)

-- The piece has n bytes.
pub nothing : {n : ℕ} → Laid n [] []
unfolding sorts tree_words
nothing = laid empty tt refl refl

-- the same, where the trees are told
abbrev pub LaidAs : (n : ℕ) → Trees → List Sort → List ℕ → Type 0
LaidAs n t ss ws = Formed n t × ((sorts t ≡ ss) × (tree_words t ≡ ws))

pub joined_as : (n : ℕ) (t u : Trees) {ss rr : List Sort} {xs ys : List ℕ} → LaidAs n t ss xs → LaidAs n u rr ys → LaidAs n (beside t u) (ss ++ rr) (xs ++ ys)
joined_as n t u h k =
    let s = h.1.0 in
    let w = h.1.1 in
    let r = k.1.0 in
    let v = k.1.1 in
    (formed_beside n t u h.0 k.0, (rw (sorts_beside, s, r), rw (words_beside, w, v)))

pub joined : {n : ℕ} {ss rr : List Sort} {xs ys : List ℕ} → Laid n ss xs → Laid n rr ys → Laid n (ss ++ rr) (xs ++ ys)
joined {n} (laid t f s w) (laid u g r v) = let h = joined_as n t u (f, (s, w)) (g, (r, v)) in laid (beside t u) h.0 h.1.0 h.1.1

-- A node of c children over them; m as in `form_of`.
pub over_as : {n c : ℕ} {ss : List Sort} {ws : List ℕ} (k : Kind) (d m : ℕ) (p : List ℕ) (cs : Trees) → Repeats k d cs → T (detail_of (form_of k d m)) → Are n (payload_of (form_of k d m)) p → d < 2 ^ 8
    → ss ≡ children_of (form_of k d m) → c ≡ length ss → c ≤ child_limit → LaidAs n cs ss ws → LaidAs n (tree k d p cs empty) (sort_of k ∷ []) (node (kind k) d c (p ++ ws))
unfolding sorts tree_words
over_as {n} {c} {ss} {ws} k d m p cs y t a b e q l h =
    let i : how_many cs ≡ c = many_sorts cs ∙ ap length h.1.0 ∙ sym q in
    let w : tree_words cs ≡ ws = h.1.1 in
    ((fits m t a (h.1.0 ∙ e) y b (omega arith), (h.0, tt)), (refl, append-nil (node (kind k) d (how_many cs) (p ++ tree_words cs)) ∙ rw (i, w)))

pub over_with : {n c : ℕ} {ss : List Sort} {ws : List ℕ} (k : Kind) (d m : ℕ) (p : List ℕ) → ((cs : Trees) → Repeats k d cs) → T (detail_of (form_of k d m)) → Are n (payload_of (form_of k d m)) p → d < 2 ^ 8
    → ss ≡ children_of (form_of k d m) → c ≡ length ss → c ≤ child_limit → Laid n ss ws → Laid n (sort_of k ∷ []) (node (kind k) d c (p ++ ws))
over_with k d m p y t a b e q l (laid cs f s w) =
    let h = over_as k d m p cs (y cs) t a b e q l (f, (s, w)) in
    laid (tree k d p cs empty) h.0 h.1.0 h.1.1

-- nothing but a call repeats anything
pub other : (k : Kind) → T (not (eqb (kind k) (kind Call))) → (d : ℕ) (cs : Trees) → Repeats k d cs
other k t d cs e = absurd (subst (λ (b : Bool). T (not b)) (eq-eqb (kind k) (kind Call) e) t)

pub over : {n c : ℕ} {ss : List Sort} {ws : List ℕ} (k : Kind) → T (not (eqb (kind k) (kind Call))) → (d m : ℕ) (p : List ℕ) → T (detail_of (form_of k d m)) → Are n (payload_of (form_of k d m)) p → d < 2 ^ 8
    → ss ≡ children_of (form_of k d m) → c ≡ length ss → c ≤ child_limit → Laid n ss ws → Laid n (sort_of k ∷ []) (node (kind k) d c (p ++ ws))
over k y d m p t a b e q l h = over_with k d m p (other k y d) t a b e q l h

-- a node without children, and without a detail
pub leaf : {n : ℕ} (k : Kind) → T (not (eqb (kind k) (kind Call))) → (p : List ℕ) → T (detail_of (form_of k 0 0)) → Are n (payload_of (form_of k 0 0)) p → [] ≡ children_of (form_of k 0 0) → Laid n (sort_of k ∷ []) (node (kind k) 0 0 p)
leaf {n} k y p t a e =
    let h : Laid n (sort_of k ∷ []) (node (kind k) 0 0 (p ++ [])) = over k y 0 0 p t a (omega arith) e refl (omega arith) nothing in
    rw append-nil at h

-- Lists.
pub repeat_behind : {A : Type 0} (m : ℕ) (g : List A) → repeat m g ++ g ≡ repeat (suc m) g
unfolding repeat
repeat_behind zero g = sym (append-nil g)
repeat_behind (suc m) g = append_assoc g (repeat m g) g ∙ ap (λ l. g ++ l) (repeat_behind m g)

pub repeat_length : {A : Type 0} (m : ℕ) (a : A) → length (repeat m (a ∷ [])) ≡ m
unfolding repeat
repeat_length zero a = refl
repeat_length (suc m) a = ap suc (repeat_length m a)

-- fields behind fields
pub are_joined : (n : ℕ) (fs gs : List Field) (xs ys : List ℕ) → Are n fs xs → Are n gs ys → Are n (fs ++ gs) (xs ++ ys)
are_joined n [] gs [] ys h k = k
are_joined n [] gs (x ∷ xs) ys h k = absurd h
are_joined n (f ∷ fs) gs [] ys h k = absurd h
are_joined n (f ∷ fs) gs (x ∷ xs) ys h k = (h.0, are_joined n fs gs xs ys h.1 k)

-- Words of groups of these sorts, where c children stand with them and the `base` before them.
pub data Grouped (n base : ℕ) (g : List Sort) (c : ℕ) (ws : List ℕ) : Type 0 where
  grouped : (m : ℕ) → c ≡ base + length (repeat m g) → Laid n (repeat m g) ws → Grouped n base g c ws

pub no_group : {n base : ℕ} {g : List Sort} → Grouped n base g base []
unfolding repeat
no_group = grouped 0 (omega arith) nothing

pub one_more : {n base c : ℕ} {g : List Sort} {ws x : List ℕ} → Grouped n base g c ws → Laid n g x → Grouped n base g (c + length g) (ws ++ x)
one_more {n} {base} {c} {g} {ws} {x} (grouped m e h) k =
    let r : repeat m g ++ g ≡ repeat (suc m) g = repeat_behind m g in
    let l : length (repeat m g) + length g ≡ length (repeat (suc m) g) = sym (length-append (repeat m g) g) ∙ ap length r in
    let b : Laid n (repeat m g ++ g) (ws ++ x) = joined h k in
    grouped (suc m) (omega arith) (rw r at b)

-- a list, through its closing byte
abbrev pub Lists : ℕ → ℕ → List Sort → Listed → Type 0
Lists n base g l = Grouped n base g (count_of l) (words_of l) × ((count_of l ≤ child_limit) × (dots_of l ≤ 1))
