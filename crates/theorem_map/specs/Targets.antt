-- M-109, "Prove that the edges are exactly the targets named in the tree": wherever in a block's tree a branch stands, it is the terminator, so the
-- block's edges go to every target that is named there, node by node, in order, and to no other.
-- By the forms: below anything but a block there are only types, values, parameters and names.
-- Assumes nothing.
use Rattle.std.specs.Prelude.{◌≡◌, refl, Bool, true, false, ◌||◌, List, [], ◌∷◌, ◌++◌, map, ◌⊎◌, ℕ, zero, suc, ◌/◌, ◌%◌, eqb, get_or, drop}
use Rattle.std.proofs.Common.{sym, ap, ◌∙◌, subst, append-nil, inl, inr, arith, eqb-true}
use Rattle.program.specs.Choice.{pick}
use Rattle.records.specs.Limits.{text_limit, entry_words}
use Rattle.records.specs.Details.{d_condition, d_count, d_function_type, d_value}
use Rattle.records.specs.Kinds.{Kind, kind, Void, Int, Float, Double, Ptr, Array, Named, Struct, Label, Metadata, Func, Local, Global, IntConst, FloatConst, Null, Undef, Poison, ZeroInit, CStr, ArrayConst, StructConst, GepExpr, ConvExpr, BinExpr, Bin, FBin, FNeg, Conv, ICmp, FCmp, Select, Load, Store, Alloca, Gep, Phi, Call, Freeze, AtomicLoad, AtomicStore, AtomicRmw, Cmpxchg, ExtractValue, Fence, Ret, Br, Switch, Unreachable, Head, Block, Param, Name}
use Rattle.trees.specs.Tree.{Trees, empty, tree, behind_first}
use Rattle.trees.specs.Forms.{Sort, type, function, value, instruction, terminator, head, block, parameter, name, sort_of, sorts, repeat, where_set, children_of, form_of, Fits, fits, Formed}
use Rattle.trees.specs.Function.{Function}
use Rattle.map_spec.specs.Drawing.{Shown, shown}
use Rattle.map_spec.specs.Blocks.{piece_text, name_in, block_name, branches, names_of, targets_of, blocks_of, blocks_in}
use Rattle.theorem_map.specs.Kinds.{kind_own, block_kind}
use Rattle.theorem_map.specs.Maps.{shows_trees}

-- the words of the names among trees
unfoldable pub name_words : Trees → List ℕ
name_words empty = []
name_words (tree k d p cs ts) = elim (eqb (kind k) (kind Name)) [ true ↦ get_or p 0 0 ∷ name_words ts | false ↦ name_words ts ]

-- Every target named in trees: of each node in record order that is a branch, the names among its children.
unfoldable pub target_words : Trees → List ℕ
target_words empty = []
target_words (tree k d p cs ts) = elim (branches (kind k)) [ true ↦ name_words cs | false ↦ [] ] ++ (target_words cs ++ target_words ts)

-- What stands below anything but a block.
abbrev leaf : Sort → Type 0
leaf type = Unit {0}
leaf function = Unit {0}
leaf value = Unit {0}
leaf instruction = ⊥
leaf terminator = ⊥
leaf head = ⊥
leaf block = ⊥
leaf parameter = Unit {0}
leaf name = Unit {0}

abbrev Leaves : List Sort → Type 0
Leaves [] = Unit {0}
Leaves (s ∷ ss) = leaf s × Leaves ss

both : (ss us : List Sort) → Leaves ss → Leaves us → Leaves (ss ++ us)
both [] us a b = b
both (s ∷ ss) us a b = (a.0, both ss us a.1 b)

many : (m : ℕ) (ss : List Sort) → Leaves ss → Leaves (repeat m ss)
unfolding repeat
many zero ss a = tt
many (suc m) ss a = both ss (repeat m ss) a (many m ss a)

set : (flag d : ℕ) (ss : List Sort) → Leaves ss → Leaves (where_set flag d ss)
unfolding where_set
set flag d ss a = many ((d / flag) % 2) ss a

branch : (b : Bool) → Leaves (pick b (value ∷ name ∷ name ∷ []) (name ∷ []))
branch true = (tt, (tt, (tt, tt)))
branch false = (tt, tt)

below : (k : Kind) (d m : ℕ) → (k ≡ Block) ⊎ Leaves (children_of (form_of k d m))
unfolding form_of
below Void d m = inr tt
below Int d m = inr tt
below Float d m = inr tt
below Double d m = inr tt
below Ptr d m = inr tt
below Array d m = inr (tt, tt)
below Named d m = inr tt
below Struct d m = inr (many m (type ∷ []) (tt, tt))
below Label d m = inr tt
below Metadata d m = inr tt
below Func d m = inr (tt, many m (type ∷ []) (tt, tt))
below Local d m = inr tt
below Global d m = inr tt
below IntConst d m = inr tt
below FloatConst d m = inr tt
below Null d m = inr tt
below Undef d m = inr tt
below Poison d m = inr tt
below ZeroInit d m = inr tt
below CStr d m = inr tt
below ArrayConst d m = inr (many m (type ∷ value ∷ []) (tt, (tt, tt)))
below StructConst d m = inr (many m (type ∷ value ∷ []) (tt, (tt, tt)))
below GepExpr d m = inr (tt, (tt, (tt, many m (type ∷ value ∷ []) (tt, (tt, tt)))))
below ConvExpr d m = inr (tt, (tt, (tt, tt)))
below BinExpr d m = inr (tt, (tt, (tt, (tt, tt))))
below Bin d m = inr (tt, (tt, (tt, tt)))
below FBin d m = inr (tt, (tt, (tt, tt)))
below FNeg d m = inr (tt, (tt, tt))
below Conv d m = inr (tt, (tt, (tt, tt)))
below ICmp d m = inr (tt, (tt, (tt, tt)))
below FCmp d m = inr (tt, (tt, (tt, tt)))
below Select d m = inr (tt, (tt, (tt, (tt, tt))))
below Load d m = inr (tt, (tt, tt))
below Store d m = inr (tt, (tt, (tt, tt)))
below Alloca d m = inr (tt, set d_count d (type ∷ value ∷ []) (tt, (tt, tt)))
below Gep d m = inr (tt, (tt, many m (type ∷ value ∷ []) (tt, (tt, tt))))
below Phi d m = inr (tt, (tt, (tt, many m (value ∷ name ∷ []) (tt, (tt, tt)))))
below Call d m = inr (tt, both (where_set d_function_type d (function ∷ [])) (value ∷ repeat m (type ∷ value ∷ [])) (set d_function_type d (function ∷ []) (tt, tt)) (tt, many m (type ∷ value ∷ []) (tt, (tt, tt))))
below Freeze d m = inr (tt, (tt, tt))
below AtomicLoad d m = inr (tt, (tt, tt))
below AtomicStore d m = inr (tt, (tt, (tt, tt)))
below AtomicRmw d m = inr (tt, (tt, (tt, tt)))
below Cmpxchg d m = inr (tt, (tt, (tt, (tt, tt))))
below ExtractValue d m = inr (tt, tt)
below Fence d m = inr tt
below Ret d m = inr (set d_value d (type ∷ value ∷ []) (tt, (tt, tt)))
below Br d m = inr (branch (eqb d d_condition))
below Switch d m = inr (tt, (tt, (tt, many m (name ∷ []) (tt, tt))))
below Unreachable d m = inr tt
below Head d m = inr (tt, many m (parameter ∷ []) (tt, tt))
below Block d m = inl refl
below Param d m = inr (tt, tt)
below Name d m = inr tt

-- A branch is a terminator.
branch_sort : (k : Kind) → branches (kind k) ≡ true → sort_of k ≡ terminator
unfolding branches sort_of
branch_sort k e = go (eqb (kind k) (kind Br)) refl e
  where
    go : (b : Bool) → eqb (kind k) (kind Br) ≡ b → (b || eqb (kind k) (kind Switch)) ≡ true → sort_of k ≡ terminator
    go true q h = ap sort_of (kind_own k Br (eqb-true (kind k) (kind Br) q))
    go false q h = ap sort_of (kind_own k Switch (eqb-true (kind k) (kind Switch) h))

no_branch : (k : Kind) → (sort_of k ≡ terminator → ⊥) → branches (kind k) ≡ false
no_branch k never = go (branches (kind k)) refl
  where
    go : (b : Bool) → branches (kind k) ≡ b → b ≡ false
    go true e = absurd (never (branch_sort k e))
    go false e = refl

-- Below leaves there are leaves, and no branch.
leaves_below : {n : ℕ} (k : Kind) (d : ℕ) (p : List ℕ) (cs : Trees) → (k ≡ Block → ⊥) → Fits n k d p cs → Leaves (sorts cs)
leaves_below k d p cs never (fits m t a s y b c) = go (below k d m)
  where
    go : (k ≡ Block) ⊎ Leaves (children_of (form_of k d m)) → Leaves (sorts cs)
    go (inl e) = absurd (never e)
    go (inr l) = subst Leaves (sym s) l

no_targets : (n : ℕ) (t : Trees) → Formed n t → Leaves (sorts t) → target_words t ≡ []
unfolding target_words sorts sort_of
no_targets n empty f l = refl
no_targets n (tree k d p cs ts) f l =
    let b : branches (kind k) ≡ false = no_branch k (λ e. subst leaf e l.0) in
    let c : target_words cs ≡ [] = no_targets n cs f.1.0 (leaves_below k d p cs (λ e. subst leaf (ap sort_of e) l.0) f.0) in
    rw (b, c) (no_targets n ts f.1.1 l.1)

-- Sorts that differ.
terminator_block : terminator ≡ block → ⊥
terminator_block e = let z : ◌≡◌ {A = ℕ} 0 1 = cc in omega arith

instruction_block : instruction ≡ block → ⊥
instruction_block e = let z : ◌≡◌ {A = ℕ} 0 1 = cc in omega arith

instruction_terminator : instruction ≡ terminator → ⊥
instruction_terminator e = let z : ◌≡◌ {A = ℕ} 0 1 = cc in omega arith

first : (a b : Sort) (xs ys : List Sort) → a ∷ xs ≡ b ∷ ys → a ≡ b
first a b xs ys e = cc

behind : (a b : Sort) (xs ys : List Sort) → a ∷ xs ≡ b ∷ ys → xs ≡ ys
behind a b xs ys e = cc

-- The names among trees are those of their words.
names_map : (piece : List ℕ) (t : Trees) → map (name_in piece) (name_words t) ≡ names_of piece t
unfolding name_words names_of
names_map piece empty = refl
names_map piece (tree k d p cs ts) = go (eqb (kind k) (kind Name)) (names_map piece ts)
  where
    go : (b : Bool) → map (name_in piece) (name_words ts) ≡ names_of piece ts
        → map (name_in piece) (elim b [ true ↦ get_or p 0 0 ∷ name_words ts | false ↦ name_words ts ]) ≡ elim b [ true ↦ name_in piece (get_or p 0 0) ∷ names_of piece ts | false ↦ names_of piece ts ]
    go true e = ap (λ (l : List (List ℕ)). name_in piece (get_or p 0 0) ∷ l) e
    go false e = e

-- Of instructions and a terminator behind them.
body_targets : (n m : ℕ) (piece : List ℕ) (t : Trees) → Formed n t → sorts t ≡ repeat m (instruction ∷ []) ++ (terminator ∷ []) → map (name_in piece) (target_words t) ≡ targets_of piece t
unfolding target_words targets_of sorts repeat sort_of
body_targets n zero piece empty f o = let z : ◌≡◌ {A = ℕ} 0 1 = cc in absurd (omega arith)
body_targets n (suc m) piece empty f o = let z : ◌≡◌ {A = ℕ} 0 1 = cc in absurd (omega arith)
body_targets n zero piece (tree k d p cs empty) f o =
    let c : target_words cs ≡ [] = no_targets n cs f.1.0 (leaves_below k d p cs (λ e. terminator_block (sym (first (sort_of k) terminator [] [] o) ∙ ap sort_of e)) f.0) in
    rw c (go (branches (kind k)))
  where
    go : (b : Bool) → map (name_in piece) (elim b [ true ↦ name_words cs | false ↦ [] ] ++ []) ≡ elim b [ true ↦ names_of piece cs | false ↦ [] ]
    go true = ap (map (name_in piece)) (append-nil (name_words cs)) ∙ names_map piece cs
    go false = refl
body_targets n zero piece (tree k d p cs (tree l e q ds ts)) f o = let z : ◌≡◌ {A = ℕ} 0 1 = cc in absurd (omega arith)
body_targets n (suc m) piece (tree k d p cs empty) f o = short m o
  where
    short : (m : ℕ) → sort_of k ∷ [] ≡ instruction ∷ (repeat m (instruction ∷ []) ++ (terminator ∷ [])) → map (name_in piece) (target_words (tree k d p cs empty)) ≡ targets_of piece (tree k d p cs empty)
    short zero o = let z : ◌≡◌ {A = ℕ} 0 1 = cc in absurd (omega arith)
    short (suc m) o = let z : ◌≡◌ {A = ℕ} 0 1 = cc in absurd (omega arith)
body_targets n (suc m) piece (tree k d p cs (tree l e q ds ts)) f o =
    let i : sort_of k ≡ instruction = first (sort_of k) instruction (sorts (tree l e q ds ts)) (repeat m (instruction ∷ []) ++ (terminator ∷ [])) o in
    let b : branches (kind k) ≡ false = no_branch k (λ x. instruction_terminator (sym i ∙ x)) in
    let c : target_words cs ≡ [] = no_targets n cs f.1.0 (leaves_below k d p cs (λ x. instruction_block (sym i ∙ ap sort_of x)) f.0) in
    rw (b, c) (body_targets n m piece (tree l e q ds ts) f.1.1 (behind (sort_of k) instruction (sorts (tree l e q ds ts)) (repeat m (instruction ∷ []) ++ (terminator ∷ [])) o))

-- A block's edges go to every target named in its tree.
block_targets : (n : ℕ) (piece : List ℕ) (d : ℕ) (p : List ℕ) (cs : Trees) → Fits n Block d p cs → Formed n cs → map (name_in piece) (target_words (tree Block d p cs empty)) ≡ targets_of piece cs
unfolding target_words branches form_of
block_targets n piece d p cs (fits m t a s y b c) f =
    ap (map (name_in piece)) (append-nil (target_words cs)) ∙ body_targets n m piece cs f s

-- The head names none.
pub head_targets : (n d : ℕ) (p : List ℕ) (cs : Trees) → Fits n Head d p cs → Formed n cs → target_words (tree Head d p cs empty) ≡ []
unfolding target_words branches
head_targets n d p cs f g =
    append-nil (target_words cs) ∙ no_targets n cs g (leaves_below Head d p cs (λ e. head_block (ap kind e)) f)
  where
    head_block : kind Head ≡ kind Block → ⊥
    head_block e = omega arith

-- Each block with every target that is named in its tree, wherever a branch stands in it.
unfoldable pub named : (text : List ℕ) → Trees → (dir : List ℕ) → List Shown
named text empty dir = []
named text (tree k d p cs ts) [] = []
named text (tree k d p cs ts) (x ∷ []) = []
named text (tree k d p cs ts) (x ∷ y ∷ []) = []
named text (tree k d p cs ts) (x ∷ y ∷ c ∷ dir) =
    shown (block_name (piece_text text x) c (get_or p 0 0)) (map (name_in (piece_text text x)) (target_words (tree k d p cs empty))) ∷ named text ts dir

all_named : (n m : ℕ) (text : List ℕ) (t : Trees) (dir : List ℕ) → Formed n t → sorts t ≡ repeat m (block ∷ []) → blocks_of text t dir ≡ named text t dir
unfolding blocks_of named sorts repeat
all_named n m text empty dir f o = refl
all_named n m text (tree k d p cs ts) [] f o = refl
all_named n m text (tree k d p cs ts) (x ∷ []) f o = refl
all_named n m text (tree k d p cs ts) (x ∷ y ∷ []) f o = refl
all_named n zero text (tree k d p cs ts) (x ∷ y ∷ c ∷ dir) f o = let z : ◌≡◌ {A = ℕ} 0 1 = cc in absurd (omega arith)
all_named n (suc m) text (tree k d p cs ts) (x ∷ y ∷ c ∷ dir) f o =
    let b : k ≡ Block = block_kind k (first (sort_of k) block (sorts ts) (repeat m (block ∷ [])) o) in
    let i : map (name_in (piece_text text x)) (target_words (tree Block d p cs empty)) ≡ targets_of (piece_text text x) cs =
    block_targets n (piece_text text x) d p cs (subst (λ (l : Kind). Fits n l d p cs) b f.0) f.1.0 in
    let j : map (name_in (piece_text text x)) (target_words (tree k d p cs empty)) ≡ targets_of (piece_text text x) cs = subst (λ (l : Kind). map (name_in (piece_text text x)) (target_words (tree l d p cs empty)) ≡ targets_of (piece_text text x) cs) (sym b) i in
    let r : blocks_of text ts dir ≡ named text ts dir = all_named n m text ts dir f.1.1 (behind (sort_of k) block (sorts ts) (repeat m (block ∷ [])) o) in
    rw (j, r)

-- "the edges are exactly the targets named in the tree", of the records that an accepted reading leaves (`accepted_function`)
pub edges_exact : (n : ℕ) (text ws ds : List ℕ) (F : Function n ws ds) → blocks_in n text ws ds ≡ named text (behind_first F.trees) (drop entry_words ds)
unfolding behind_first sorts repeat
edges_exact n text ws ds F = shows_trees n text ws ds F ∙ go F.trees F.formed F.pieces
  where
    go : (t : Trees) → Formed text_limit t → sorts t ≡ head ∷ repeat F.blocks (block ∷ []) → blocks_of text (behind_first t) (drop entry_words ds) ≡ named text (behind_first t) (drop entry_words ds)
    go empty f o = all_named text_limit 0 text empty (drop entry_words ds) f refl
    go (tree k d p cs ts) f o = all_named text_limit F.blocks text ts (drop entry_words ds) f.1.1 (behind (sort_of k) head (sorts ts) (repeat F.blocks (block ∷ [])) o)
