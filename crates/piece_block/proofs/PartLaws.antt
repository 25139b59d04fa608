-- A piece is read from the text that is lent, and only the stretch that is lent changes.
-- Assumes nothing.
use mathlib.Core.Path.{◌≡◌}
use mathlib.Core.List.{List}
use Prim.Native.Nat.{ℕ, ◌-◌, ◌≤◌}
use native.Mathlib.Omega.{arith}
use lib.ListN.{length}
use borrow.Rule.Slice.PartMut.{put_mid}
use Rattle.records.specs.Pieces.{BlockRead}
use Rattle.grammar.specs.Function.{block_at}
use Rattle.theorem_refusals.specs.Places.{block_place}
use Rattle.piece_directory.specs.Piece.{BlockIs, is_block, is_tail_lem, no_block}
use Rattle.std.specs.Prelude.{Result}
use Rattle.records.specs.declared.Refusal.{Refusal}
use Rattle.piece_directory.specs.declared.pieces.Piece.{Piece}
use Rattle.piece_directory.proofs.Stretch.{within, standing}
use Rattle.piece_block.specs.Part.{BlockIn, BlockDry}

-- the stretch from `at` up to `to` is now xs
module _ (at to : ℕ) (words xs : List ℕ) (h : at ≤ to) (k : to ≤ length words) (l : length xs ≡ to - at) where
  pub block_in : (d : ℕ) (s : List ℕ) {b : BlockRead} {r : Result Piece Refusal} → block_at d s ≡ b → BlockIs b r xs → BlockIn d s at to words (put_mid at (to - at) words xs) r
  block_in d s t (is_block {ws = ws} q g) = record { ws = ws; is = t; many = q; stands = λ m. rw q (standing at to words xs h k l ws g (omega arith)); within = within at to words xs h k l }
  block_in d s t is_tail_lem = (t, within at to words xs h k l)
  block_in d s t (no_block {r}) = (record { is = t; inside = block_place d s r.question r.place t }, (within at to words xs h k l).long)

-- words only counted
pub block_dry : (d : ℕ) (s : List ℕ) {b : BlockRead} {r : Result Piece Refusal} {xs : List ℕ} → block_at d s ≡ b → BlockIs b r xs → BlockDry d s r
block_dry d s t (is_block {ws = ws} q g) = record { ws = ws; is = t; many = q }
block_dry d s t is_tail_lem = t
block_dry d s t (no_block {r}) = record { is = t; inside = block_place d s r.question r.place t }
