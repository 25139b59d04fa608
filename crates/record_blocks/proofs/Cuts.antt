-- To take or to leave out more than there is, is to take or to leave out all.
-- Assumes nothing.
use mathlib.Core.Path.{◌≡◌, sym, ap, ◌∙◌}
use mathlib.Core.List.{List, []}
use Prim.Native.Nat.{ℕ, ◌+◌, ◌-◌, ◌≤◌}
use native.Mathlib.Omega.{arith}
use native.Mathlib.Nat.{add-zero}
use lib.ListN.{length, get_or, take, drop, length-drop, drop_of_length-le}
use lib.Seq.{drop-drop, get_or-drop}
use Rattle.std.specs.Prelude.{min}
use Rattle.std.proofs.lemmas.List.{take_min, drop_min}
use Rattle.records.specs.Words.{hi, lo}
use Rattle.trees.specs.Steps.{extent_in, word_at}
use Rattle.map_spec.specs.Blocks.{piece_text, first_node, behind_node}

-- a part of a list, cut off where the list ends
cut_min : (xs : List ℕ) (s n a b : ℕ) → a ≡ min s (length xs) → b ≡ min n (length xs - a) → take (a + b - a) (drop a xs) ≡ take n (drop s xs)
cut_min xs s n a b h k =
    let z : a + b - a ≡ b = omega arith in
    rw (z, k, ← length-drop a xs, take_min n (drop a xs), h, drop_min s xs)

pub piece_there : (text : List ℕ) (x a b : ℕ) → a ≡ min (hi x) (length text) → b ≡ min (lo x) (length text - a) → take (a + b - a) (drop a text) ≡ piece_text text x
unfolding piece_text
piece_there text x a b h k = cut_min text (hi x) (lo x) a b h k

-- the first word behind a place
first_word : (ws : List ℕ) (at : ℕ) → word_at (drop at ws) 0 ≡ get_or ws at 0
first_word ws at = get_or-drop at ws 0 0 ∙ ap (λ (k : ℕ). get_or ws k 0) (add-zero at)

pub behind_none : (ws : List ℕ) (at : ℕ) → length ws ≤ at → drop at ws ≡ behind_node (drop at ws)
unfolding behind_node
behind_none ws at h = rw (drop_of_length-le ws h)

pub behind_there : (ws : List ℕ) (at b : ℕ) → b ≡ min (extent_in (get_or ws at 0)) (length ws - at) → drop (at + b) ws ≡ behind_node (drop at ws)
unfolding behind_node
behind_there ws at b h =
    sym (drop-drop b at ws) ∙ rw (h, ← length-drop at ws) (drop_min (extent_in (get_or ws at 0)) (drop at ws))
    ∙ ap (λ (k : ℕ). drop (extent_in k) (drop at ws)) (sym (first_word ws at))

pub node_none : (ws : List ℕ) (at : ℕ) → length ws ≤ at → [] ≡ first_node (drop at ws)
unfolding first_node
node_none ws at h = rw (drop_of_length-le ws h)

pub node_there : (ws : List ℕ) (at b : ℕ) → b ≡ min (extent_in (get_or ws at 0)) (length ws - at) → take (at + b - at) (drop at ws) ≡ first_node (drop at ws)
unfolding first_node
node_there ws at b h =
    let z : at + b - at ≡ b = omega arith in
    rw (z, h, ← length-drop at ws) (take_min (extent_in (get_or ws at 0)) (drop at ws))
    ∙ ap (λ (k : ℕ). take (extent_in k) (drop at ws)) (sym (first_word ws at))
