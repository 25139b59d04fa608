-- Where a text ends says whether it is too long: past the limit its end is one more than that. What fits stands in the buffer as it is.
-- Assumes nothing.
use mathlib.Core.Path.{◌≡◌, refl, ap, ◌∙◌}
use mathlib.Core.Bool.{Bool, true, false}
use mathlib.Core.List.{List, [], ◌++◌}
use Prim.Native.Nat.{ℕ, ◌≤◌, ◌<◌}
use native.Mathlib.Omega.{arith}
use lib.Dec.{leb}
use lib.ListN.{length, take, drop}
use lib.Seq.{take-append_seam}
use borrow.Author.Tests.{leb-true, leb-false, le-leb, lt-leb}
use Rattle.records.specs.Limits.{text_limit}
use Rattle.records.specs.Pieces.{pad}
use Rattle.buffer.specs.Stored.{stored, placed}
use Rattle.buffer.specs.Laws.{placed_whole, placed_over, stored_whole}
use Rattle.map_spec.specs.Buffer.{drawn, too_long, outcome}
use Rattle.map_dot.proofs.Zeros.{cleared}

module _ (text out : List ℕ) (n : ℕ) (p : n ≡ placed 0 text) where
  -- an end within the limit is the text's length
  short_end : n ≤ text_limit → (n ≡ length text) × (length text ≤ text_limit)
  short_end h = go (leb (length text) text_limit) refl
    where
      go : (t : Bool) → leb (length text) text_limit ≡ t → (n ≡ length text) × (length text ≤ text_limit)
      go true e =
          let l : length text ≤ text_limit = leb-true (length text) text_limit e in
          (omega (arith, p, placed_whole 0 text (omega (arith, l))), l)
      go false e =
          let l : text_limit < length text = leb-false (length text) text_limit e in
          absurd (omega (arith, h, p, placed_over 0 text (omega arith) (omega (arith, l))))

  -- an end past it is that of a longer text
  long_end : text_limit < n → text_limit < length text
  long_end h = go (leb (length text) text_limit) refl
    where
      go : (t : Bool) → leb (length text) text_limit ≡ t → text_limit < length text
      go true e =
          let l : length text ≤ text_limit = leb-true (length text) text_limit e in
          absurd (omega (arith, h, p, l, placed_whole 0 text (omega (arith, l))))
      go false e = leb-false (length text) text_limit e

  -- the text fits
  pub whole : (end after : List ℕ) → end ≡ stored 0 text out → length end ≡ length out → n ≤ text_limit → n ≤ length end → after ≡ cleared n end → drawn n after ≡ outcome (length out) text
  unfolding outcome pad
  whole end after b e h k a =
      let q : n ≡ length text = (short_end h).0 in
      let l : length text ≤ text_limit = (short_end h).1 in
      let m : length text ≤ length out = omega (arith, q, k, e) in
      let f : end ≡ text ++ drop (length text) out = b ∙ stored_whole [] text out (omega (arith, l)) m in
      let g : take (length text) end ≡ text = ap (take (length text)) f ∙ take-append_seam text (drop (length text) out) in
      rw (outcome, le-leb (length text) text_limit l, le-leb (length text) (length out) m, a, q, g, e)

  -- it is longer than the limit, or than the buffer
  pub over_limit : (end after : List ℕ) → length end ≡ length out → text_limit < n → after ≡ cleared 0 end → too_long after ≡ outcome (length out) text
  unfolding outcome pad
  over_limit end after e h a = rw (outcome, lt-leb (length text) text_limit (long_end h), a, e)

  pub over_room : (end after : List ℕ) → length end ≡ length out → n ≤ text_limit → length end < n → after ≡ cleared 0 end → too_long after ≡ outcome (length out) text
  unfolding outcome pad
  over_room end after e h k a =
      let q : n ≡ length text = (short_end h).0 in
      let m : length out < length text = omega (arith, q, k, e) in
      rw (outcome, le-leb (length text) text_limit (short_end h).1, lt-leb (length text) (length out) m, a, e)
