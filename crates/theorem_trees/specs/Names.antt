-- The names of an accepted reading are parts of their pieces: `Formed` says where they lie, and the word holds start and length in its halves.
-- Assumes nothing.
use Rattle.std.specs.Prelude.{◌≡◌, true, ℕ, ◌+◌, ◌≤◌, ◌<◌, ltb}
use Rattle.std.proofs.Math.Option.{some}
use Rattle.std.proofs.Common.{arith, lt-ltb, le-leb}
use Rattle.std.proofs.Math.Arith.{digits_div, digits_mod}
use Rattle.records.specs.Limits.{half_limit}
use Rattle.records.specs.Words.{pack, hi, lo}
use Rattle.trees.specs.Forms.{NameIn, name_in}
use Rattle.trees.specs.Steps.{part, part_of}

-- "Names come back as a part of the piece's text that the caller lends": never none, where the name lies in the piece, of n bytes.
pub data Found (n x : ℕ) : Type 0 where
  found : (start length : ℕ) → part_of n x ≡ some (part start length) → 1 ≤ length → start + length ≤ n → Found n x

pub name_found : (n x : ℕ) → n < half_limit → NameIn n x → Found n x
unfolding part_of pack
name_found n x s (name_in i k e a b) =
    let l : k < half_limit = omega arith in
    let h : hi x ≡ i = rw e (digits_div i l) in
    let m : lo x ≡ k = rw e (digits_mod i l) in
    let z : ltb 0 x ≡ true = lt-ltb 0 x (rw e (omega arith)) in
    found i k (rw (part_of, z, h, m, le-leb (i + k) n b, h, m)) a b
