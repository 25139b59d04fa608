-- Which nodes there are: of each kind the details, the payload and the children, as docs/RECORDS.md has them in its tables.
-- 01: "Detail: an operator or predicate's rank in ast.rs from 0; else one bit per bool or optional field, the first lowest, none for a destination."
-- 01: "Payload: destination first (zero when absent, as is an unnamed parameter's name), then numbers and names in ast.rs order; an absent optional
-- number takes no word."
-- Assumes nothing.
use Rattle.std.specs.Prelude.{◌≡◌, Bool, ◌||◌, List, [], ◌∷◌, ◌++◌, ◌⊎◌, ℕ, zero, suc, ◌/◌, ◌%◌, ◌^◌, ◌≤◌, ◌<◌, ◌+◌, T, ltb, leb, eqb, length}
use Rattle.program.specs.Choice.{pick}
use Rattle.program.specs.Class.{inside}
use Rattle.records.specs.Kinds.{Kind, kind, Void, Int, Float, Double, Ptr, Array, Named, Struct, Label, Metadata, Func, Local, Global, IntConst, FloatConst, Null, Undef, Poison, ZeroInit, CStr, ArrayConst, StructConst, GepExpr, ConvExpr, BinExpr, Bin, FBin, FNeg, Conv, ICmp, FCmp, Select, Load, Store, Alloca, Gep, Phi, Call, Freeze, AtomicLoad, AtomicStore, AtomicRmw, Cmpxchg, ExtractValue, Fence, Ret, Br, Switch, Unreachable, Head, Block, Param, Name}
use Rattle.records.specs.Words.{pack}
use Rattle.records.specs.Details.{no_linkage, d_varargs, d_none, d_packed, d_dots, d_inbounds, d_align, d_count, d_alloca_align, d_function_type, d_condition, d_named, d_value}
use Rattle.records.specs.Limits.{width_limit, index_limit, number_limit, child_limit}
use Rattle.grammar.specs.Values.{conv_ops, bin_ops}
use Rattle.grammar.specs.Instructions.{icmp_preds, fcmp_preds, rmw_ops, fbin_ops, inst_conv_ops}
use Rattle.trees.specs.Tree.{Trees, empty, tree, how_many, tree_words, first_tree, below_first, behind_first}

-- What a node is: a type, the function type of a call, a value, and so on.
pub data Sort : Type 0 where
  type function value instruction terminator head block parameter name : Sort

unfoldable pub sort_of : Kind → Sort
sort_of k =
    pick (ltb (kind k) (kind Func)) type
    (pick (eqb (kind k) (kind Func)) function
    (pick (ltb (kind k) (kind Bin)) value
    (pick (ltb (kind k) (kind Ret)) instruction
    (pick (ltb (kind k) (kind Head)) terminator
    (pick (eqb (kind k) (kind Head)) head
    (pick (eqb (kind k) (kind Block)) block
    (pick (eqb (kind k) (kind Param)) parameter
    name)))))))

unfoldable pub sorts : Trees → List Sort
sorts empty = []
sorts (tree k d p cs ts) = sort_of k ∷ sorts ts

-- "A name word is start 32, length 32: .. start counted from its piece." A name has a byte at least, and lies in the piece, of n bytes.
pub data NameIn (n x : ℕ) : Type 0 where
  name_in : (start length : ℕ) → x ≡ pack start length → 1 ≤ length → start + length ≤ n → NameIn n x

-- What a payload word is: a name; a name, or zero where there is none; a number within bounds; any word.
pub data Field : Type 0 where
  named : Field
  optional : Field
  number : (lo hi : ℕ) → Field
  any : Field

abbrev pub Is : ℕ → Field → ℕ → Type 0
Is n named x = NameIn n x
Is n optional x = (x ≡ 0) ⊎ NameIn n x
Is n (number lo hi) x = (lo ≤ x) × (x ≤ hi)
Is n any x = Unit {0}

-- word by word
abbrev pub Are : ℕ → List Field → List ℕ → Type 0
Are n [] [] = Unit {0}
Are n [] (x ∷ xs) = ⊥
Are n (f ∷ fs) [] = ⊥
Are n (f ∷ fs) (x ∷ xs) = Is n f x × Are n fs xs

-- m times, one behind the other
unfoldable pub repeat : {A : Type 0} → ℕ → List A → List A
repeat zero g = []
repeat (suc m) g = g ++ repeat m g

-- what stands there if that bit of the detail is set
unfoldable pub where_set : {A : Type 0} → (flag d : ℕ) → List A → List A
where_set flag d g = repeat ((d / flag) % 2) g

-- The form of a node: does it have this detail, its payload, its children.
pub data Form : Type 0 where
  form : Bool → List Field → List Sort → Form

abbrev pub detail_of : Form → Bool
detail_of (form b fs ss) = b

abbrev pub payload_of : Form → List Field
payload_of (form b fs ss) = fs

abbrev pub children_of : Form → List Sort
children_of (form b fs ss) = ss

-- the flag or no flag; an operator or predicate's rank
abbrev pub up_to : (flag d : ℕ) → Bool
up_to flag d = leb d flag

abbrev pub ranked : List (List ℕ) → ℕ → Bool
ranked ops d = ltb d (length ops)

-- "The head has the `Linkage` rank (10 when unwritten) plus 128 for varargs."
abbrev pub linked : ℕ → Bool
linked d = leb d no_linkage || inside d_varargs (d_varargs + no_linkage) d

-- a word that is zero; "a named parameter has detail 1"
abbrev pub absent : Field
absent = number 0 0

-- By the detail d, and by m, how often what can be there any number of times is there; of a switch this is its case count.
unfoldable pub form_of : Kind → (d m : ℕ) → Form
form_of Void d m = form (up_to d_none d) [] []
form_of Int d m = form (up_to d_none d) (number 1 width_limit ∷ []) []
form_of Float d m = form (up_to d_none d) [] []
form_of Double d m = form (up_to d_none d) [] []
form_of Ptr d m = form (up_to d_none d) [] []
form_of Array d m = form (up_to d_packed d) (number 0 number_limit ∷ []) (type ∷ [])
form_of Named d m = form (up_to d_none d) (named ∷ []) []
form_of Struct d m = form (up_to d_packed d) [] (repeat m (type ∷ []))
form_of Label d m = form (up_to d_none d) [] []
form_of Metadata d m = form (up_to d_none d) [] []
form_of Func d m = form (up_to d_dots d) [] (type ∷ repeat m (type ∷ []))
form_of Local d m = form (up_to d_none d) (named ∷ []) []
form_of Global d m = form (up_to d_none d) (named ∷ []) []
form_of IntConst d m = form (up_to d_none d) (any ∷ any ∷ []) []
form_of FloatConst d m = form (up_to d_none d) (any ∷ []) []
form_of Null d m = form (up_to d_none d) [] []
form_of Undef d m = form (up_to d_none d) [] []
form_of Poison d m = form (up_to d_none d) [] []
form_of ZeroInit d m = form (up_to d_none d) [] []
form_of CStr d m = form (up_to d_none d) (named ∷ []) []
form_of ArrayConst d m = form (up_to d_none d) [] (repeat m (type ∷ value ∷ []))
form_of StructConst d m = form (up_to d_none d) [] (repeat m (type ∷ value ∷ []))
form_of GepExpr d m = form (up_to d_inbounds d) [] (type ∷ type ∷ value ∷ repeat m (type ∷ value ∷ []))
form_of ConvExpr d m = form (ranked conv_ops d) [] (type ∷ value ∷ type ∷ [])
form_of BinExpr d m = form (ranked bin_ops d) [] (type ∷ value ∷ type ∷ value ∷ [])
form_of Bin d m = form (ranked bin_ops d) (named ∷ []) (type ∷ value ∷ value ∷ [])
form_of FBin d m = form (ranked fbin_ops d) (named ∷ []) (type ∷ value ∷ value ∷ [])
form_of FNeg d m = form (up_to d_none d) (named ∷ []) (type ∷ value ∷ [])
form_of Conv d m = form (ranked inst_conv_ops d) (named ∷ []) (type ∷ value ∷ type ∷ [])
form_of ICmp d m = form (ranked icmp_preds d) (named ∷ []) (type ∷ value ∷ value ∷ [])
form_of FCmp d m = form (ranked fcmp_preds d) (named ∷ []) (type ∷ value ∷ value ∷ [])
form_of Select d m = form (up_to d_none d) (named ∷ []) (value ∷ type ∷ value ∷ value ∷ [])
form_of Load d m = form (up_to d_align d) (named ∷ where_set d_align d (number 0 number_limit ∷ [])) (type ∷ value ∷ [])
form_of Store d m = form (up_to d_align d) (absent ∷ where_set d_align d (number 0 number_limit ∷ [])) (type ∷ value ∷ value ∷ [])
form_of Alloca d m =
    form (leb d (d_count + d_alloca_align)) (named ∷ where_set d_alloca_align d (number 0 number_limit ∷ [])) (type ∷ where_set d_count d (type ∷ value ∷ []))
form_of Gep d m = form (up_to d_inbounds d) (named ∷ []) (type ∷ value ∷ repeat m (type ∷ value ∷ []))
form_of Phi d m = form (up_to d_none d) (named ∷ []) (type ∷ value ∷ name ∷ repeat m (value ∷ name ∷ []))
form_of Call d m = form (up_to d_function_type d) (optional ∷ []) (type ∷ (where_set d_function_type d (function ∷ []) ++ value ∷ repeat m (type ∷ value ∷ [])))
form_of Freeze d m = form (up_to d_none d) (named ∷ []) (type ∷ value ∷ [])
form_of AtomicLoad d m = form (up_to d_none d) (named ∷ []) (type ∷ value ∷ [])
form_of AtomicStore d m = form (up_to d_none d) (absent ∷ []) (type ∷ value ∷ value ∷ [])
form_of AtomicRmw d m = form (ranked rmw_ops d) (named ∷ []) (type ∷ value ∷ value ∷ [])
form_of Cmpxchg d m = form (up_to d_none d) (named ∷ []) (type ∷ value ∷ value ∷ value ∷ [])
form_of ExtractValue d m = form (up_to d_none d) (named ∷ number 0 index_limit ∷ []) (value ∷ [])
form_of Fence d m = form (up_to d_none d) (absent ∷ []) []
form_of Ret d m = form (up_to d_value d) [] (where_set d_value d (type ∷ value ∷ []))
form_of Br d m = form (eqb d d_none || eqb d d_condition) [] (pick (eqb d d_condition) (value ∷ name ∷ name ∷ []) (name ∷ []))
-- M-111: "A switch's payload now begins with its case count."
form_of Switch d m = form (up_to d_none d) (number m m ∷ repeat m (any ∷ any ∷ [])) (type ∷ value ∷ name ∷ repeat m (name ∷ []))
form_of Unreachable d m = form (up_to d_none d) [] []
form_of Head d m = form (linked d) (named ∷ []) (type ∷ repeat m (parameter ∷ []))
form_of Block d m = form (up_to d_none d) (optional ∷ []) (repeat m (instruction ∷ []) ++ terminator ∷ [])
form_of Param d m = form (up_to d_named d) (pick (eqb d d_named) named absent ∷ []) (type ∷ [])
form_of Name d m = form (up_to d_none d) (named ∷ []) []

-- How many payload words a node has: by its kind, its detail and, for a switch, its first payload word, w.
unfoldable pub payload_length : Kind → (d w : ℕ) → ℕ
payload_length k d w = length (payload_of (form_of k d w))

-- A call with a function type: "the returned type stands twice", as the call's first child and as the function type's.
abbrev pub Repeats : Kind → (d : ℕ) → Trees → Type 0
Repeats k d cs = kind k ≡ kind Call → d ≡ d_function_type → first_tree (below_first (behind_first cs)) ≡ first_tree cs

-- A node is of a form of its kind, and its header has room for its detail and the number of its children. The piece has n bytes.
pub data Fits (n : ℕ) (k : Kind) (d : ℕ) (p : List ℕ) (cs : Trees) : Type 0 where
  fits : (m : ℕ) → T (detail_of (form_of k d m)) → Are n (payload_of (form_of k d m)) p → sorts cs ≡ children_of (form_of k d m) → Repeats k d cs → d < 2 ^ 8 → how_many cs ≤ child_limit → Fits n k d p cs

-- Every node does.
abbrev pub Formed : ℕ → Trees → Type 0
Formed n empty = Unit {0}
Formed n (tree k d p cs ts) = Fits n k d p cs × (Formed n cs × Formed n ts)

-- These words are those of such trees, one behind the other, of these sorts.
pub data Laid (n : ℕ) (ss : List Sort) (ws : List ℕ) : Type 0 where
  laid : (t : Trees) → Formed n t → sorts t ≡ ss → tree_words t ≡ ws → Laid n ss ws
