-- Line and column: the loop over the bytes before a place. A line feed adds a line and starts the column anew; any other byte adds to the column.
-- Assumes nothing.
use mathlib.Core.Path.{◌≡◌, refl, ap}
use mathlib.Core.List.{List, [], ◌∷◌, ◌++◌}
use Prim.Native.Nat.{ℕ, ◌+◌, ◌≤◌, ◌<◌}
use native.Mathlib.Omega.{arith}
use lib.ListN.{length, get_or, take}
use lib.Dec.{eqb, ltb}
use lib.Seq.{take_all}
use borrow.Author.Tests.{eq-eqb, ne_eqb, lt-ltb, le-ltb}
use Rattle.std.proofs.lemmas.List.{take_more}
use Rattle.program.specs.Choice.{pick}
use Rattle.text_lines.specs.Place.{feeds, since, position_of}
use Rattle.text_lines.specs.declared.Position.{Position}

-- one byte more
feeds_push : (s : List ℕ) (x : ℕ) → feeds (s ++ (x ∷ [])) ≡ feeds s + pick (eqb x 10) 1 0
unfolding feeds
feeds_push [] x = omega arith
feeds_push (y ∷ s) x = omega (arith, feeds_push s x)

since_push : (c : ℕ) (s : List ℕ) (x : ℕ) → since c (s ++ (x ∷ [])) ≡ pick (eqb x 10) 0 (since c s + 1)
unfolding since
since_push c [] x = refl
since_push c (y ∷ s) x = since_push (pick (eqb y 10) 0 (c + 1)) s x

-- line and column behind the first i bytes
pub record LineAt (seen : List ℕ) (i line column : ℕ) : Type 0 where
  pub low : line ≤ i + 1
  pub wide : column ≤ i + 1
  pub line_is : line ≡ 1 + feeds (take i seen)
  pub column_is : column ≡ 1 + since 0 (take i seen)

pub line_start : (seen : List ℕ) → LineAt seen 0 1 1
unfolding feeds since
line_start seen = record { low = omega arith; wide = omega arith; line_is = refl; column_is = refl }

module _ (seen : List ℕ) (i line column : ℕ) (h : i < length seen) (a : LineAt seen i line column) where
  pub line_feed : get_or seen i 0 ≡ 10 → LineAt seen (i + 1) (line + 1) 1
  line_feed e =
      let f : feeds (take (i + 1) seen) ≡ feeds (take i seen) + 1 = rw (take_more seen i 0 h, feeds_push (take i seen) (get_or seen i 0), eq-eqb _ _ e) in
      let s : since 0 (take (i + 1) seen) ≡ 0 = rw (take_more seen i 0 h, since_push 0 (take i seen) (get_or seen i 0), eq-eqb _ _ e) in
      record { low = omega (arith, a.low); wide = omega arith; line_is = omega (arith, a.line_is); column_is = omega arith }

  pub line_more : (get_or seen i 0 ≡ 10 → ⊥) → LineAt seen (i + 1) line (column + 1)
  line_more n =
      let f : feeds (take (i + 1) seen) ≡ feeds (take i seen) + 0 = rw (take_more seen i 0 h, feeds_push (take i seen) (get_or seen i 0), ne_eqb _ _ n) in
      let s : since 0 (take (i + 1) seen) ≡ since 0 (take i seen) + 1 = rw (take_more seen i 0 h, since_push 0 (take i seen) (get_or seen i 0), ne_eqb _ _ n) in
      record { low = omega (arith, a.low); wide = omega (arith, a.wide); line_is = omega (arith, a.line_is); column_is = omega (arith, a.column_is) }

same : (l c m d : ℕ) → l ≡ m → c ≡ d → ◌≡◌ {A = Position} (record { line = l; column = c }) (record { line = m; column = d })
same l c m d e f = rw (e, f)

-- at the place, and one past the text
module _ (text : List ℕ) (place i line column : ℕ) (h : length (take place text) ≤ i) (a : LineAt (take place text) i line column) where
  all : take i (take place text) ≡ take place text
  all = take_all i (take place text) h

  pub line_end : place ≤ length text → record { line = line; column = column } ≡ position_of text place
  unfolding position_of
  line_end k =
      let p : pick {A = ℕ} (ltb (length text) place) 1 0 ≡ 0 = rw (le-ltb (length text) place k) in
      same line column (1 + feeds (take place text)) (1 + since 0 (take place text) + pick (ltb (length text) place) 1 0) (omega (arith, a.line_is, ap feeds all)) (omega (arith, a.column_is, ap (since 0) all))

  pub line_past : length text < place → record { line = line; column = column + 1 } ≡ position_of text place
  unfolding position_of
  line_past k =
      let p : pick {A = ℕ} (ltb (length text) place) 1 0 ≡ 1 = rw (lt-ltb (length text) place k) in
      same line (column + 1) (1 + feeds (take place text)) (1 + since 0 (take place text) + pick (ltb (length text) place) 1 0) (omega (arith, a.line_is, ap feeds all)) (omega (arith, a.column_is, ap (since 0) all))
