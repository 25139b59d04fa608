-- The lines of some pieces are the first one's line and the rest: a directory is its first entry and the rest.
-- Assumes nothing.
use mathlib.Core.Path.{◌≡◌, refl}
use mathlib.Core.Bool.{Bool, true, false}
use mathlib.Core.List.{List, [], ◌∷◌, ◌++◌}
use Prim.Native.Nat.{ℕ, zero, suc, ◌+◌, ◌-◌, ◌*◌, ◌/◌, ◌≤◌, ◌<◌}
use native.Mathlib.Omega.{arith}
use lib.Dec.{leb}
use lib.ListN.{length, drop, get_or}
use borrow.Author.Tests.{leb-true, leb-false}
use Rattle.std.specs.Prelude.{min}
use Rattle.records.specs.Limits.{entry_words}
use Rattle.records.specs.Words.{hi, lo}
use Rattle.records.specs.Entries.{three, short}
use Rattle.pieces_listing.specs.Lines.{piece_line, piece_lines, words_end}

-- a line, and those behind it
pub next_line : (dir : List ℕ) (i n : ℕ) → i < n → i * entry_words + 2 < length dir → piece_lines i (n - i) (drop (i * entry_words) dir) ≡ piece_line i (get_or dir (i * entry_words) 0) (get_or dir (i * entry_words + 1) 0) ++ piece_lines (i + 1) (n - (i + 1)) (drop ((i + 1) * entry_words) dir)
unfolding piece_lines
next_line dir i n h l =
    let d : n - i ≡ suc (n - (i + 1)) = omega arith in
    let e : i + 1 ≡ suc i = omega arith in
    rw (d, three dir i l, e)

pub next_end : (dir : List ℕ) (w i n : ℕ) → i < n → i * entry_words + 2 < length dir → words_end w (n - i) (drop (i * entry_words) dir) ≡ words_end (hi (get_or dir (i * entry_words + 1) 0) + lo (get_or dir (i * entry_words + 1) 0)) (n - (i + 1)) (drop ((i + 1) * entry_words) dir)
unfolding words_end
next_end dir w i n h l =
    let d : n - i ≡ suc (n - (i + 1)) = omega arith in
    rw (d, three dir i l)

-- no entry is left
pub no_line : (xs : List ℕ) (i n : ℕ) → length xs ≤ 2 → piece_lines i n xs ≡ []
unfolding piece_lines
no_line xs i zero h = refl
no_line [] i (suc n) h = refl
no_line (x ∷ []) i (suc n) h = refl
no_line (x ∷ y ∷ []) i (suc n) h = refl
no_line (x ∷ y ∷ c ∷ xs) i (suc n) h = absurd (omega arith)

pub no_end : (xs : List ℕ) (w n : ℕ) → length xs ≤ 2 → words_end w n xs ≡ w
unfolding words_end
no_end xs w zero h = refl
no_end [] w (suc n) h = refl
no_end (x ∷ []) w (suc n) h = refl
no_end (x ∷ y ∷ []) w (suc n) h = refl
no_end (x ∷ y ∷ c ∷ xs) w (suc n) h = absurd (omega arith)

-- so many of n entries are there
pub entry_there : (dir : List ℕ) (i n : ℕ) → i < min n (length dir / entry_words) → (i < n) × (i * entry_words + 2 < length dir)
entry_there dir i n h = (omega arith, omega arith)

-- all pieces are done, or all that are there
module _ (dir : List ℕ) (i n : ℕ) (h : min n (length dir / entry_words) ≤ i) where
  pub lines_end : piece_lines i (n - i) (drop (i * entry_words) dir) ≡ []
  unfolding piece_lines
  lines_end = go (leb n i) refl
    where
      go : (t : Bool) → leb n i ≡ t → piece_lines i (n - i) (drop (i * entry_words) dir) ≡ []
      go true e = let d : n - i ≡ 0 = omega (arith, leb-true n i e) in rw d
      go false e = no_line (drop (i * entry_words) dir) i (n - i) (short dir i (omega (arith, leb-false n i e)))

  pub end_end : (w : ℕ) → words_end w (n - i) (drop (i * entry_words) dir) ≡ w
  unfolding words_end
  end_end w = go (leb n i) refl
    where
      go : (t : Bool) → leb n i ≡ t → words_end w (n - i) (drop (i * entry_words) dir) ≡ w
      go true e = let d : n - i ≡ 0 = omega (arith, leb-true n i e) in rw d
      go false e = no_end (drop (i * entry_words) dir) w (n - i) (short dir i (omega (arith, leb-false n i e)))
