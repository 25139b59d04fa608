-- M-111, "Stepping handle for the preview screen": from node to node, and the text of a name. Over any words whatever.
-- Assumes nothing.
use Rattle.std.specs.Prelude.{Bool, true, false, ◌&&◌, ◌||◌, List, [], ◌∷◌, ℕ, zero, suc, ◌+◌, ◌/◌, ◌%◌, ◌^◌, ltb, leb, eqb, length, get_or}
use Rattle.std.proofs.Math.Option.{Option, none, some}
use Rattle.program.specs.Class.{inside}
use Rattle.records.specs.Words.{hi, lo}
use Rattle.records.specs.Kinds.{Kind, kind, Void, Int, Float, Double, Ptr, Array, Named, Struct, Label, Metadata, Func, Local, Global, IntConst, FloatConst, Null, Undef, Poison, ZeroInit, CStr, ArrayConst, StructConst, GepExpr, ConvExpr, BinExpr, Bin, FBin, FNeg, Conv, ICmp, FCmp, Select, Load, Store, Alloca, Gep, Phi, Call, Freeze, AtomicLoad, AtomicStore, AtomicRmw, Cmpxchg, ExtractValue, Fence, Ret, Br, Switch, Unreachable, Head, Block, Param, Name}
use Rattle.trees.specs.Forms.{payload_length}

-- A header's fields. "Header: kind 8 bits, detail 8, number of direct children 16, words in the whole node 32."
abbrev pub kind_in : ℕ → ℕ
kind_in h = h / 2 ^ 56

abbrev pub detail_in : ℕ → ℕ
detail_in h = (h / 2 ^ 48) % 2 ^ 8

abbrev pub children_in : ℕ → ℕ
children_in h = (h / 2 ^ 32) % 2 ^ 16

abbrev pub extent_in : ℕ → ℕ
extent_in h = lo h

-- The word at a place; past the array it is 0, so that "a header of extent 0 or past the array" is one test.
abbrev pub word_at : List ℕ → ℕ → ℕ
word_at ws at = get_or ws at 0

abbrev pub is_header : ℕ → Bool
is_header h = ltb 0 (extent_in h)

-- all kinds, in the order of their numbers
abbrev pub kinds : List Kind
kinds =
    Void ∷ Int ∷ Float ∷ Double ∷ Ptr ∷ Array ∷ Named ∷ Struct ∷ Label ∷ Metadata ∷ Func
    ∷ Local ∷ Global ∷ IntConst ∷ FloatConst ∷ Null ∷ Undef ∷ Poison ∷ ZeroInit ∷ CStr ∷ ArrayConst ∷ StructConst ∷ GepExpr ∷ ConvExpr ∷ BinExpr
    ∷ Bin ∷ FBin ∷ FNeg ∷ Conv ∷ ICmp ∷ FCmp ∷ Select ∷ Load ∷ Store ∷ Alloca ∷ Gep ∷ Phi ∷ Call ∷ Freeze ∷ AtomicLoad ∷ AtomicStore ∷ AtomicRmw
    ∷ Cmpxchg ∷ ExtractValue ∷ Fence ∷ Ret ∷ Br ∷ Switch ∷ Unreachable ∷ Head ∷ Block ∷ Param ∷ Name ∷ []

unfoldable pub kind_among : List Kind → ℕ → Option Kind
kind_among [] n = none
kind_among (k ∷ ks) n = elim (eqb (kind k) n) [ true ↦ some k | false ↦ kind_among ks n ]

-- the kind that has this number; a number that no kind has says nothing of the payload
unfoldable pub kind_of : ℕ → Option Kind
kind_of n = kind_among kinds n

-- the step to a place: none where no header stands there
unfoldable pub step_to : List ℕ → ℕ → Option ℕ
step_to ws to = elim (is_header (word_at ws to)) [ true ↦ some to | false ↦ none ]

-- the place behind a header and its payload
unfoldable pub behind_payload : List ℕ → (at : ℕ) → Kind → ℕ
behind_payload ws at k = at + (1 + payload_length k (detail_in (word_at ws at)) (word_at ws (at + 1)))

-- "child": the first one stands behind the payload
unfoldable pub child_of : List ℕ → (at : ℕ) → Option ℕ
child_of ws at =
    elim (is_header (word_at ws at) && ltb 0 (children_in (word_at ws at))) [
      | true ↦ elim (kind_of (kind_in (word_at ws at))) [ some k ↦ step_to ws (behind_payload ws at k) | none ↦ none ]
      | false ↦ none
    ]

-- "next below a given parent's end"
unfoldable pub next_of : List ℕ → (at end : ℕ) → Option ℕ
next_of ws at end =
    elim (is_header (word_at ws at) && ltb (at + extent_in (word_at ws at)) end) [ true ↦ step_to ws (at + extent_in (word_at ws at)) | false ↦ none ]

-- "child, else next below the array's end"
unfoldable pub step_of : List ℕ → (at : ℕ) → Option ℕ
step_of ws at = elim (child_of ws at) [ some to ↦ some to | none ↦ next_of ws at (length ws) ]

-- the places that such steps meet, from `at` on, u at most
unfoldable pub walk : (u : ℕ) → List ℕ → (at : ℕ) → List ℕ
walk zero ws at = []
walk (suc u) ws at = at ∷ elim (step_of ws at) [ some to ↦ walk u ws to | none ↦ [] ]

-- "Names come back as a part of the piece's text that the caller lends, or none past it": start and length
pub data Part : Type 0 where
  part : (start length : ℕ) → Part

-- of the name's word w, where the piece has n bytes; zero is no name
unfoldable pub part_of : (n w : ℕ) → Option Part
part_of n w = elim (ltb 0 w && leb (hi w + lo w) n) [ true ↦ some (part (hi w) (lo w)) | false ↦ none ]

-- the kinds whose first payload word is a name: named types, local and global values, bytes; what has a destination; head, block, parameter, name
unfoldable pub is_named : ℕ → Bool
is_named n =
    eqb n (kind Named) || eqb n (kind Local) || eqb n (kind Global) || eqb n (kind CStr) || inside (kind Bin) (kind Fence) n || inside (kind Head) (kind Name) n

-- "the text of a name", of the node at a place
unfoldable pub name_of : List ℕ → (at n : ℕ) → Option Part
name_of ws at n =
    elim (is_header (word_at ws at) && is_named (kind_in (word_at ws at))) [ true ↦ part_of n (word_at ws (at + 1)) | false ↦ none ]
