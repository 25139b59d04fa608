-- Words are those of at most one tree: a header tells kind, detail and number of children, these and the first payload word tell how long the payload
-- is, and the children follow by induction.
-- Assumes nothing.
use Rattle.std.specs.Prelude.{◌≡◌, refl, List, [], ◌∷◌, ◌++◌, ◌⊎◌, ℕ, suc, ◌+◌, ◌≤◌, ◌<◌, ◌^◌, length, get_or}
use Rattle.std.proofs.Common.{sym, ap, ◌∙◌, append_assoc, inl, inr, arith, length-append}
use Rattle.std.proofs.Math.Option.{some}
use Rattle.records.specs.Words.{header, node}
use Rattle.records.specs.Kinds.{Kind, kind, Void, Int, Float, Double, Ptr, Array, Named, Struct, Label, Metadata, Func, Local, Global, IntConst, FloatConst, Null, Undef, Poison, ZeroInit, CStr, ArrayConst, StructConst, GepExpr, ConvExpr, BinExpr, Bin, FBin, FNeg, Conv, ICmp, FCmp, Select, Load, Store, Alloca, Gep, Phi, Call, Freeze, AtomicLoad, AtomicStore, AtomicRmw, Cmpxchg, ExtractValue, Fence, Ret, Br, Switch, Unreachable, Head, Block, Param, Name}
use Rattle.records.specs.Limits.{child_limit, half_limit}
use Rattle.trees.specs.Tree.{Trees, empty, tree, how_many, tree_words}
use Rattle.trees.specs.Forms.{Field, Are, any, repeat, payload_of, form_of, payload_length, fits, Formed}
use Rattle.trees.specs.Steps.{kind_among, kind_of}

pub same_header : (k l d e n m s t : ℕ) → d < 2 ^ 8 → e < 2 ^ 8 → n ≤ child_limit → m ≤ child_limit → s < half_limit → t < half_limit → header k d n s ≡ header l e m t → (k ≡ l) × ((d ≡ e) × (n ≡ m))
same_header k l d e n m s t a b f g i j h = (omega arith, (omega arith, omega arith))

-- a kind's number is its own
pub kind_of_lem : (k : Kind) → kind_of (kind k) ≡ some k
unfolding kind_of kind_among
kind_of_lem Void = refl
kind_of_lem Int = refl
kind_of_lem Float = refl
kind_of_lem Double = refl
kind_of_lem Ptr = refl
kind_of_lem Array = refl
kind_of_lem Named = refl
kind_of_lem Struct = refl
kind_of_lem Label = refl
kind_of_lem Metadata = refl
kind_of_lem Func = refl
kind_of_lem Local = refl
kind_of_lem Global = refl
kind_of_lem IntConst = refl
kind_of_lem FloatConst = refl
kind_of_lem Null = refl
kind_of_lem Undef = refl
kind_of_lem Poison = refl
kind_of_lem ZeroInit = refl
kind_of_lem CStr = refl
kind_of_lem ArrayConst = refl
kind_of_lem StructConst = refl
kind_of_lem GepExpr = refl
kind_of_lem ConvExpr = refl
kind_of_lem BinExpr = refl
kind_of_lem Bin = refl
kind_of_lem FBin = refl
kind_of_lem FNeg = refl
kind_of_lem Conv = refl
kind_of_lem ICmp = refl
kind_of_lem FCmp = refl
kind_of_lem Select = refl
kind_of_lem Load = refl
kind_of_lem Store = refl
kind_of_lem Alloca = refl
kind_of_lem Gep = refl
kind_of_lem Phi = refl
kind_of_lem Call = refl
kind_of_lem Freeze = refl
kind_of_lem AtomicLoad = refl
kind_of_lem AtomicStore = refl
kind_of_lem AtomicRmw = refl
kind_of_lem Cmpxchg = refl
kind_of_lem ExtractValue = refl
kind_of_lem Fence = refl
kind_of_lem Ret = refl
kind_of_lem Br = refl
kind_of_lem Switch = refl
kind_of_lem Unreachable = refl
kind_of_lem Head = refl
kind_of_lem Block = refl
kind_of_lem Param = refl
kind_of_lem Name = refl

same_kind : (k l : Kind) → kind k ≡ kind l → k ≡ l
same_kind k l e = let h : some k ≡ some l = sym (kind_of_lem k) ∙ ap kind_of e ∙ kind_of_lem l in cc

-- The payload of a switch has as many words as its case count says; that of any other kind depends on its detail alone.
by_count : (k : Kind) → (k ≡ Switch) ⊎ ((d m w : ℕ) → payload_of (form_of k d m) ≡ payload_of (form_of k d w))
unfolding form_of
by_count Void = inr λ d m w. refl
by_count Int = inr λ d m w. refl
by_count Float = inr λ d m w. refl
by_count Double = inr λ d m w. refl
by_count Ptr = inr λ d m w. refl
by_count Array = inr λ d m w. refl
by_count Named = inr λ d m w. refl
by_count Struct = inr λ d m w. refl
by_count Label = inr λ d m w. refl
by_count Metadata = inr λ d m w. refl
by_count Func = inr λ d m w. refl
by_count Local = inr λ d m w. refl
by_count Global = inr λ d m w. refl
by_count IntConst = inr λ d m w. refl
by_count FloatConst = inr λ d m w. refl
by_count Null = inr λ d m w. refl
by_count Undef = inr λ d m w. refl
by_count Poison = inr λ d m w. refl
by_count ZeroInit = inr λ d m w. refl
by_count CStr = inr λ d m w. refl
by_count ArrayConst = inr λ d m w. refl
by_count StructConst = inr λ d m w. refl
by_count GepExpr = inr λ d m w. refl
by_count ConvExpr = inr λ d m w. refl
by_count BinExpr = inr λ d m w. refl
by_count Bin = inr λ d m w. refl
by_count FBin = inr λ d m w. refl
by_count FNeg = inr λ d m w. refl
by_count Conv = inr λ d m w. refl
by_count ICmp = inr λ d m w. refl
by_count FCmp = inr λ d m w. refl
by_count Select = inr λ d m w. refl
by_count Load = inr λ d m w. refl
by_count Store = inr λ d m w. refl
by_count Alloca = inr λ d m w. refl
by_count Gep = inr λ d m w. refl
by_count Phi = inr λ d m w. refl
by_count Call = inr λ d m w. refl
by_count Freeze = inr λ d m w. refl
by_count AtomicLoad = inr λ d m w. refl
by_count AtomicStore = inr λ d m w. refl
by_count AtomicRmw = inr λ d m w. refl
by_count Cmpxchg = inr λ d m w. refl
by_count ExtractValue = inr λ d m w. refl
by_count Fence = inr λ d m w. refl
by_count Ret = inr λ d m w. refl
by_count Br = inr λ d m w. refl
by_count Switch = inl refl
by_count Unreachable = inr λ d m w. refl
by_count Head = inr λ d m w. refl
by_count Block = inr λ d m w. refl
by_count Param = inr λ d m w. refl
by_count Name = inr λ d m w. refl

are_length : (n : ℕ) (fs : List Field) (xs : List ℕ) → Are n fs xs → length xs ≡ length fs
are_length n [] [] h = refl
are_length n [] (x ∷ xs) h = absurd h
are_length n (f ∷ fs) [] h = absurd h
are_length n (f ∷ fs) (x ∷ xs) h = ap suc (are_length n fs xs h.1)

switch_length : (n d m : ℕ) (p rest : List ℕ) → Are n (payload_of (form_of Switch d m)) p → length p ≡ payload_length Switch d (get_or (p ++ rest) 0 0)
unfolding payload_length form_of
switch_length n d m [] rest h = absurd h
switch_length n d m (x ∷ xs) rest h =
    let e : x ≡ m = omega (arith, h.0.0, h.0.1) in
    rw e (ap suc (are_length n (repeat m (any ∷ any ∷ [])) xs h.1))

-- How long a payload is, from the header's kind and detail and the word behind the header.
pub measured : (n : ℕ) (k : Kind) (d m : ℕ) (p rest : List ℕ) → Are n (payload_of (form_of k d m)) p → length p ≡ payload_length k d (get_or (p ++ rest) 0 0)
unfolding payload_length
measured n k d m p rest h = go (by_count k)
  where
    go : (k ≡ Switch) ⊎ ((d m w : ℕ) → payload_of (form_of k d m) ≡ payload_of (form_of k d w)) → length p ≡ length (payload_of (form_of k d (get_or (p ++ rest) 0 0)))
    go (inl e) = let i : Are n (payload_of (form_of Switch d m)) p = rw e at h in rw e (switch_length n d m p rest i)
    go (inr f) = are_length n (payload_of (form_of k d m)) p h ∙ ap length (f d m (get_or (p ++ rest) 0 0))

-- lists that begin the same for so many words are the same there, and behind
split : (xs ys : List ℕ) {r q : List ℕ} → length xs ≡ length ys → xs ++ r ≡ ys ++ q → (xs ≡ ys) × (r ≡ q)
split [] [] l e = (refl, e)
split [] (y ∷ ys) l e = absurd (omega arith)
split (x ∷ xs) [] l e = absurd (omega arith)
split (x ∷ xs) (y ∷ ys) {r} {q} l e =
    let t : xs ++ r ≡ ys ++ q = cc in
    let h : (xs ≡ ys) × (r ≡ q) = split xs ys (omega arith) t in
    let a : x ≡ y = cc in
    let b : xs ≡ ys = h.0 in
    (cc, h.1)

regroup : (p c t r : List ℕ) → p ++ (c ++ (t ++ r)) ≡ ((p ++ c) ++ t) ++ r
regroup p c t r = simp append_assoc

-- Trees in front of r and trees in front of q: if the words are the same, so are the trees, and r and q.
same_trees : (a b : ℕ) (t u : Trees) (r q : List ℕ) → Formed a t → Formed b u → how_many t ≡ how_many u → length (tree_words t) < half_limit → length (tree_words u) < half_limit → tree_words t ++ r ≡ tree_words u ++ q
    → (t ≡ u) × (r ≡ q)
unfolding how_many tree_words node
same_trees na nb empty empty r q f g n a b e = (refl, e)
same_trees na nb empty (tree l c y ds us) r q f g n a b e = absurd (omega arith)
same_trees na nb (tree k d p cs ts) empty r q f g n a b e = absurd (omega arith)
same_trees na nb (tree k d p cs ts) (tree l c y ds us) r q (fits m t i s _ o v, f) (fits w z j x _ h u, g) n a b e =
    let C : List ℕ = tree_words cs in
    let T : List ℕ = tree_words ts in
    let D : List ℕ = tree_words ds in
    let U : List ℕ = tree_words us in
    let lt : length ((p ++ C) ++ T) ≡ length p + length C + length T = length-append (p ++ C) T ∙ ap (λ (n : ℕ). n + length T) (length-append p C) in
    let lu : length ((y ++ D) ++ U) ≡ length y + length D + length U = length-append (y ++ D) U ∙ ap (λ (n : ℕ). n + length U) (length-append y D) in
    let st : suc (length (p ++ C)) < half_limit = omega (arith, length-append p C) in
    let su : suc (length (y ++ D)) < half_limit = omega (arith, length-append y D) in
    let hd : header (kind k) d (how_many cs) (suc (length (p ++ C))) ≡ header (kind l) c (how_many ds) (suc (length (y ++ D))) = cc in
    let tl : ((p ++ C) ++ T) ++ r ≡ ((y ++ D) ++ U) ++ q = cc in
    let fields : (kind k ≡ kind l) × ((d ≡ c) × (how_many cs ≡ how_many ds)) =
    same_header (kind k) (kind l) d c (how_many cs) (how_many ds) (suc (length (p ++ C))) (suc (length (y ++ D))) o h v u st su hd in
    let kl : k ≡ l = same_kind k l fields.0 in
    let dc : d ≡ c = fields.1.0 in
    let behind : p ++ (C ++ (T ++ r)) ≡ y ++ (D ++ (U ++ q)) = regroup p C T r ∙ tl ∙ sym (regroup y D U q) in
    let lp : length p ≡ payload_length k d (get_or (p ++ (C ++ (T ++ r))) 0 0) = measured na k d m p (C ++ (T ++ r)) i in
    let ly : length y ≡ payload_length l c (get_or (y ++ (D ++ (U ++ q))) 0 0) = measured nb l c w y (D ++ (U ++ q)) j in
    let mid : payload_length k d (get_or (p ++ (C ++ (T ++ r))) 0 0) ≡ payload_length l c (get_or (y ++ (D ++ (U ++ q))) 0 0) = rw (kl, dc, behind) in
    let payload : (p ≡ y) × (C ++ (T ++ r) ≡ D ++ (U ++ q)) = split p y (lp ∙ mid ∙ sym ly) behind in
    let children : (cs ≡ ds) × (T ++ r ≡ U ++ q) = same_trees na nb cs ds (T ++ r) (U ++ q) f.0 g.0 fields.1.1 (omega arith) (omega arith) payload.1 in
    let others : (ts ≡ us) × (r ≡ q) = same_trees na nb ts us r q f.1 g.1 (omega arith) (omega arith) (omega arith) children.1 in
    let py : p ≡ y = payload.0 in
    let cd : cs ≡ ds = children.0 in
    let tu : ts ≡ us = others.0 in
    (cc, others.1)

-- The words of one tree are those of no other.
pub one_tree : (a b : ℕ) (t u : Trees) → Formed a t → Formed b u → how_many t ≡ 1 → how_many u ≡ 1 → length (tree_words t) < half_limit → tree_words t ≡ tree_words u → t ≡ u
one_tree a b t u f g n m l e = (same_trees a b t u [] [] f g (n ∙ sym m) l (omega (arith, ap length e)) (ap (λ (xs : List ℕ). xs ++ []) e)).0
