-- Steps on words that no reading left, and on those of `void @f(){ret void}`; one table, computed. The first number is a place's, one more than
-- itself, 0 for none.
-- Assumes nothing.
use Rattle.std.specs.Prelude.{◌≡◌, refl, List, [], ◌∷◌, ℕ, suc}
use Rattle.std.proofs.Math.Option.{Option, none, some}
use Rattle.records.specs.Words.{pack, header}
use Rattle.records.specs.Kinds.{kind, Void, ArrayConst, Switch}
use Rattle.trees.specs.Forms.{repeat, where_set, form_of, payload_length}
use Rattle.trees.specs.Steps.{kind_among, kind_of, step_to, behind_payload, child_of, next_of, step_of, walk, Part, part, part_of, is_named, name_of}

abbrev shown : Option ℕ → ℕ
shown none = 0
shown (some to) = suc to

abbrev shown_part : Option Part → List ℕ
shown_part none = []
shown_part (some (part i n)) = i ∷ n ∷ []

-- one node of this kind with so many children and that extent, and a `void` behind it
abbrev pair : (k n extent : ℕ) → List ℕ
pair k n extent = header k 0 n extent ∷ header (kind Void) 0 0 1 ∷ []

-- a switch with that count and one case
abbrev switch : ℕ → List ℕ
switch count = header (kind Switch) 0 4 7 ∷ count ∷ 0 ∷ 5 ∷ header (kind Void) 0 0 1 ∷ header (kind Void) 0 0 1 ∷ []

-- what a reading leaves of `void @f(){ret void}`, and two words more
abbrev smallest : List ℕ
smallest = 0x3C0A_0001_0000_0003 ∷ 0x0000_0006_0000_0001 ∷ 0x0100_0000_0000_0001 ∷ 0x3D00_0001_0000_0003 ∷ 0 ∷ 0x3400_0000_0000_0001 ∷ 0 ∷ 0 ∷ []

pub known_steps :
    -- a header whose extent reaches past the array is stepped from: its child is met, the next one is past the array
    ((shown (child_of (pair (kind ArrayConst) 1 100) 0) ∷ shown (next_of (pair (kind ArrayConst) 1 100) 0 200) ∷ []) ≡ 2 ∷ 0 ∷ [])
    -- without a child; of extent 0; of a kind that there is not; past the array; of a kind that has no children but says so
    × ((shown (child_of (pair (kind ArrayConst) 0 1) 0) ∷ shown (child_of (pair (kind ArrayConst) 1 0) 0) ∷ shown (child_of (pair 12 1 2) 0) ∷ shown (child_of (pair (kind ArrayConst) 1 2) 2) ∷ shown (child_of (pair (kind Void) 1 2) 0) ∷ [])
    ≡ 0 ∷ 0 ∷ 0 ∷ 0 ∷ 2 ∷ [])
    -- the next one, below an end and at it; and of a kind that there is not
    × ((shown (next_of (pair (kind Void) 0 1) 0 2) ∷ shown (next_of (pair (kind Void) 0 1) 0 1) ∷ shown (next_of (pair 12 0 1) 0 2) ∷ []) ≡ 2 ∷ 0 ∷ 2 ∷ [])
    -- a switch with a case, and with counts that lead elsewhere: to a word of extent 0, past the array
    × ((shown (child_of (switch 0) 0) ∷ shown (child_of (switch 1) 0) ∷ shown (child_of (switch 2) 0) ∷ shown (child_of (switch 200) 0) ∷ []) ≡ 0 ∷ 5 ∷ 0 ∷ 0 ∷ [])
    -- head, void, block, ret
    × (walk 8 smallest 0 ≡ 0 ∷ 2 ∷ 3 ∷ 5 ∷ [])
    -- a name in the piece and one byte past it; none; one whose end is not taken modulo 2^32
    × ((shown_part (part_of 5 (pack 2 3)) ≡ 2 ∷ 3 ∷ []) × ((shown_part (part_of 4 (pack 2 3)) ≡ []) × ((shown_part (part_of 5 0) ≡ []) × (shown_part (part_of 5 (pack 4294967295 1)) ≡ []))))
    -- the head's name, the block's, which has none, and `ret`, which has no name
    × ((shown_part (name_of smallest 0 10) ≡ 6 ∷ 1 ∷ []) × ((shown_part (name_of smallest 3 8) ≡ []) × (shown_part (name_of smallest 5 8) ≡ [])))
unfolding pack repeat where_set form_of payload_length kind_among kind_of step_to behind_payload child_of next_of step_of walk part_of is_named name_of
known_steps = (refl, refl, refl, refl, refl, (refl, (refl, (refl, refl))), (refl, (refl, refl)))
