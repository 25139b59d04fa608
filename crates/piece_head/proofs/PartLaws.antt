-- A piece is read from the text that is lent, and only the stretch that is lent changes.
-- Assumes nothing.
use mathlib.Core.Path.{◌≡◌}
use mathlib.Core.List.{List}
use Prim.Native.Nat.{ℕ, ◌-◌, ◌≤◌}
use native.Mathlib.Omega.{arith}
use lib.ListN.{length}
use borrow.Rule.Slice.PartMut.{put_mid}
use Rattle.records.specs.Pieces.{HeadRead}
use Rattle.grammar.specs.Function.{head_at}
use Rattle.theorem_refusals.specs.Places.{head_place}
use Rattle.piece_directory.specs.Piece.{HeadIs, is_head, no_head}
use Rattle.std.specs.Prelude.{Result}
use Rattle.records.specs.declared.Refusal.{Refusal}
use Rattle.piece_directory.specs.declared.pieces.Piece.{Piece}
use Rattle.piece_directory.proofs.Stretch.{within, standing}
use Rattle.piece_head.specs.Part.{HeadIn, HeadDry}

-- the stretch from `at` up to `to` is now xs
module _ (at to : ℕ) (words xs : List ℕ) (h : at ≤ to) (k : to ≤ length words) (l : length xs ≡ to - at) where
  pub head_in : (s : List ℕ) {b : HeadRead} {r : Result Piece Refusal} → head_at s ≡ b → HeadIs b r xs → HeadIn s at to words (put_mid at (to - at) words xs) r
  head_in s t (is_head {ws = ws} q g) = record { ws = ws; is = t; many = q; stands = λ m. rw q (standing at to words xs h k l ws g (omega arith)); within = within at to words xs h k l }
  head_in s t (no_head {r}) = (record { is = t; inside = head_place s r.question r.place t }, (within at to words xs h k l).long)

-- words only counted
pub head_dry : (s : List ℕ) {b : HeadRead} {r : Result Piece Refusal} {xs : List ℕ} → head_at s ≡ b → HeadIs b r xs → HeadDry s r
head_dry s t (is_head {ws = ws} q g) = record { ws = ws; is = t; many = q }
head_dry s t (no_head {r}) = record { is = t; inside = head_place s r.question r.place t }
