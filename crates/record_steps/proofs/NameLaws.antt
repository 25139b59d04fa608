-- The text of a name is the part of the piece that its word gives, and that part lies inside the piece.
-- Assumes nothing.
use mathlib.Core.Path.{◌≡◌, ap, sym, ◌∙◌}
use mathlib.Core.List.{List, []}
use mathlib.Core.Option.{none, some}
use Rattle.std.specs.Prelude.{Option, Some, None}
use Prim.Native.Nat.{ℕ, ◌+◌, ◌-◌, ◌≤◌}
use native.Mathlib.Omega.{arith}
use lib.ListN.{length, take, drop}
use Rattle.trees.specs.Steps.{part, part_of}
use Rattle.record_steps.specs.Bounds.{part_inside}
use Rattle.record_steps.specs.Views.{part_in, text_of}
use Rattle.record_steps.specs.declared.names.Text.{Text}

module _ (piece : List ℕ) (w : ℕ) (o : Option Text) (e : part_in o ≡ part_of (length piece) w) where
  pub inside_piece : (t : Text) → o ≡ Some t → t.start + t.length ≤ length piece
  inside_piece t i = part_inside (length piece) w t.start t.length (sym e ∙ ap part_in i)

  pub text_there : (t : Text) → o ≡ Some t → take (t.start + t.length - t.start) (drop t.start piece) ≡ text_of piece w
  unfolding text_of
  text_there t i =
      let same : t.start + t.length - t.start ≡ t.length = omega arith in
      let there : part_of (length piece) w ≡ some (part t.start t.length) = sym e ∙ ap part_in i in
      rw (same, there, text_of)

  pub no_text : o ≡ None → [] ≡ text_of piece w
  unfolding text_of
  no_text i =
      let gone : part_of (length piece) w ≡ none = sym e ∙ ap part_in i in
      rw (gone, text_of)
