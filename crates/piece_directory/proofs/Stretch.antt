-- One piece, read into a stretch of the lent words.
-- A reader of a piece writes only what it is lent, so the words around the stretch stay.
-- Assumes nothing.
use mathlib.Core.Path.{◌≡◌, sym, ◌∙◌}
use mathlib.Core.List.{List, ◌++◌}
use Prim.Native.Nat.{ℕ, ◌+◌, ◌-◌, ◌≤◌}
use native.Mathlib.Omega.{arith}
use lib.ListN.{length, take, drop, length-drop}
use lib.Seq.{take-add, take_all, take-append-le, drop_at, length-take-le, ext_get_or, get_or-take}
use borrow.Rule.Slice.PartMut.{put_mid, post_of, take_put, drop_put, same_len_mid, mid_len}
use Rattle.piece_directory.specs.Piece.{Holds}
use Rattle.piece_directory.specs.Stretch.{Within}

-- a part that goes to the end
pub to_end : (pos : ℕ) (s : List ℕ) → take (length s - pos) (drop pos s) ≡ drop pos s
to_end pos s = take_all (length s - pos) (drop pos s) (omega (arith, length-drop pos s))

-- words that stand in front
front_is : (ws xs : List ℕ) → Holds ws xs → length ws ≤ length xs → take (length ws) xs ≡ ws
front_is ws xs g h =
    let l : length (take (length ws) xs) ≡ length ws = length-take-le (length ws) xs h in
    ext_get_or 0 (take (length ws) xs) ws l (λ i k. get_or-take (length ws) xs i 0 (omega arith) ∙ g.same i (omega arith) (omega arith))

-- the stretch from `at` up to `to` is now xs
module _ (at to : ℕ) (words xs : List ℕ) (h : at ≤ to) (k : to ≤ length words) (l : length xs ≡ to - at) where
  pub within : Within at to words (put_mid at (to - at) words xs)
  within =
      record {
        front = take_put at (to - at) words xs (omega arith);
        behind = drop_put at to words xs h k l;
        long = same_len_mid at (to - at) words xs (l ∙ sym (mid_len at to words k));
      }

  pub standing : (ws : List ℕ) → Holds ws xs → at + length ws ≤ to → take (at + length ws) (put_mid at (to - at) words xs) ≡ take at words ++ ws
  standing ws g m =
      let d : drop at (put_mid at (to - at) words xs) ≡ xs ++ post_of at (to - at) words = drop_at (take at words) (xs ++ post_of at (to - at) words) at (length-take-le at words (omega arith)) in
      let t : take (length ws) (xs ++ post_of at (to - at) words) ≡ ws = take-append-le (length ws) xs (post_of at (to - at) words) (omega arith) ∙ front_is ws xs g (omega arith) in
      take-add at (length ws) (put_mid at (to - at) words xs)
      ∙ rw (d, t, take_put at (to - at) words xs (omega arith))
