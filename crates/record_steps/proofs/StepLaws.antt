-- A header stands only inside the array: past it every word is 0. The first child stands behind the payload, whatever the kind.
-- Assumes nothing.
use mathlib.Core.Path.{◌≡◌, refl, ap, sym, ◌∙◌}
use mathlib.Core.Bool.{true, ◌&&◌}
use mathlib.Core.List.{List}
use mathlib.Core.Option.{Option, none, some}
use Prim.Native.Nat.{ℕ, ◌+◌, ◌≤◌, ◌<◌}
use lib.Dec.{ltb}
use lib.ListN.{length, get_or-eq_default}
use Rattle.std.specs.Prelude as std
use Rattle.records.specs.Kinds.{Kind}
use Rattle.trees.specs.Forms.{payload_length}
use Rattle.trees.specs.Steps.{word_at, kind_in, detail_in, children_in, is_header, kinds, kind_of, step_to, behind_payload, child_of}
use Rattle.record_steps.specs.Views.{reached}
use Rattle.record_steps.specs.Bounds.{header_inside}
use Rattle.record_steps.specs.Payloads.{length_among, step_behind}

pub past : (ws : List ℕ) (to : ℕ) → length ws ≤ to → none ≡ step_to ws to
unfolding step_to
past ws to h = rw (get_or-eq_default ws 0 h, step_to)

pub within : (ws : List ℕ) (at h : ℕ) → h ≡ word_at ws at → is_header h ≡ true → at < length ws
within ws at h e i = header_inside ws at (sym (ap is_header e) ∙ i)

module _ (ws : List ℕ) (at : ℕ) where
  by_kind : (o : Option Kind) → step_behind ws at (elim o [ some k ↦ some (payload_length k (detail_in (word_at ws at)) (word_at ws (at + 1))) | none ↦ none ]) ≡ elim o [ some k ↦ step_to ws (behind_payload ws at k) | none ↦ none ]
  unfolding behind_payload
  by_kind none = refl
  by_kind (some k) = refl

  -- what was counted of the header's fields is the child's place
  pub by_length : (h k d w : ℕ) (o : Option ℕ) → h ≡ word_at ws at → is_header h ≡ true → ltb 0 (children_in h) ≡ true → k ≡ kind_in h → d ≡ detail_in h → w ≡ word_at ws (at + 1) → o ≡ length_among kinds k d w → step_behind ws at o ≡ child_of ws at
  unfolding child_of kind_of length_among
  by_length h k d w o e i j kk dd ww oo =
      let yes : (is_header (word_at ws at) && ltb 0 (children_in (word_at ws at))) ≡ true = rw (← e, i, j) refl in
      rw (oo, kk, dd, ww, e, yes, child_of) (by_kind (kind_of (kind_in (word_at ws at))))

-- a step, else another
pub or_else : (o r : std.Option ℕ) (m : Option ℕ) → (o ≡ std.None → reached r ≡ m) → ((x : ℕ) → o ≡ std.Some x → r ≡ std.Some x) → reached r ≡ elim (reached o) [ some to ↦ some to | none ↦ m ]
or_else std.None r m other same = other refl
or_else (std.Some x) r m other same = rw (same x refl)
