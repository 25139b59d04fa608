-- The search for an old start, which only moves on.
-- Starts never fall, so what was passed over is no later target; of those that start at it the first with the counter is taken.
-- Assumes nothing.
use mathlib.Core.Path.{◌≡◌, refl, ap, ◌∙◌}
use mathlib.Core.Bool.{Bool, true, false, ◌&&◌}
use mathlib.Core.Option.{none, some}
use mathlib.Core.List.{List, [], ◌∷◌}
use Prim.Native.Nat.{ℕ, suc, ◌+◌, ◌-◌, ◌*◌, ◌≤◌, ◌<◌}
use native.Mathlib.Nat.{add-zero}
use native.Mathlib.Numerals.{add-one}
use native.Mathlib.Omega.{arith}
use lib.Dec.{leb, eqb}
use lib.ListN.{length, take, drop, get_or, drop_of_length-le}
use borrow.Author.Tests.{eq-eqb, ne_eqb, le-leb, lt-leb}
use Rattle.records.specs.Limits.{entry_words}
use Rattle.records.specs.Words.{hi}
use Rattle.records.specs.Pieces.{Old, old, old_sizes, from, from_blocks, joins}
use Rattle.piece_directory.specs.Olds.{olds_of, Joined, Chained, Passed, Reached, FoundAt, FoundNot, JoinsAt, JoinsNot}
use Rattle.reread_older.specs.Answers.{Finds, Joins}
use Rattle.std.specs.Prelude.{Result, Ok, Err}
use Rattle.piece_directory.proofs.Links.{size_at, first_at, count_at, counter_at, olds_next, olds_length, sizes_step, sizes_split}

-- Before piece 1 only the head stands.
pub passed_first : (os : List Old) (t : ℕ) → Passed os 1 t
unfolding from_blocks from old_sizes
passed_first [] t = record { skips = λ u d h. refl }
passed_first (old e f n z ∷ os) t = record { skips = λ u d h. rw (add-zero e) }

-- The next target is not before the last.
pub passed_later : (os : List Old) (j t u : ℕ) → t ≤ u → Passed os j t → Passed os j u
passed_later os j t u h p = record { skips = λ v d k. p.skips v d (omega arith) }

and_false : (a : Bool) → (a && false) ≡ false
and_false true = refl
and_false false = refl

module _ (target d pos e f n z : ℕ) (os : List Old) where
  from_here : pos ≡ target → z ≡ d → from target d pos (old e f n z ∷ os) ≡ some (old e f n z ∷ os)
  unfolding from
  from_here h k = rw (from, eq-eqb pos target h, eq-eqb z d k)

  from_next : (pos ≡ target → ⊥) → from target d pos (old e f n z ∷ os) ≡ from target d (pos + e) os
  unfolding from
  from_next h = rw (from, ne_eqb pos target h)

  from_other : (z ≡ d → ⊥) → from target d pos (old e f n z ∷ os) ≡ from target d (pos + e) os
  unfolding from
  from_other h = rw (from, ne_eqb z d h, and_false (eqb pos target))

-- starts only grow
from_none : (target d pos : ℕ) (os : List Old) → target < pos → from target d pos os ≡ none
unfolding from
from_none target d pos [] h = refl
from_none target d pos (old e f n z ∷ os) h = from_next target d pos e f n z os (λ q. omega arith) ∙ from_none target d (pos + e) os (omega arith)

-- Before j none but the head starts at the target with the counter d, and j starts there or behind it.
pub record Seeking (os : List Old) (target d j : ℕ) : Type 0 where
  pub there : j < length os → target ≤ old_sizes (take j os)
  pub rest : from_blocks target d os ≡ from target d (old_sizes (take j os)) (drop j os)

pub seeking_first : (os : List Old) (target d j : ℕ) → Reached os target j → Seeking os target d j
seeking_first os target d j r = record { there = r.there; rest = r.passed.skips target d (omega arith) }

module _ (n : ℕ) (dir : List ℕ) (g : Joined n dir) (target : ℕ) where
  many : length (olds_of n dir) ≡ n
  many = olds_length n dir g.inside

  piece : (j : ℕ) → j < n → drop j (olds_of n dir) ≡ old (size_at dir j) (first_at dir j) (count_at dir j) (counter_at dir j) ∷ drop (suc j) (olds_of n dir)
  piece j h = olds_next n j dir g.inside h

  next_start : (j : ℕ) → j < n → old_sizes (take (j + 1) (olds_of n dir)) ≡ old_sizes (take j (olds_of n dir)) + size_at dir j
  next_start j h = rw (add-one j) (sizes_step j (olds_of n dir) (size_at dir j) (first_at dir j) (count_at dir j) (counter_at dir j) (drop (suc j) (olds_of n dir)) (piece j h))

  -- ---- those that start before the target
  module _ (j : ℕ) (p : Passed (olds_of n dir) j target) where
    pub passed_more : j < n → hi (get_or dir (j * entry_words) 0) < target → Passed (olds_of n dir) (j + 1) target
    passed_more h l =
        let s : hi (get_or dir (j * entry_words) 0) ≡ old_sizes (take j (olds_of n dir)) = g.start j h in
        record {
          skips = λ u d k. p.skips u d k
              ∙ rw (next_start j h, add-one j, piece j h)
              (from_next u d (old_sizes (take j (olds_of n dir))) (size_at dir j) (first_at dir j) (count_at dir j) (counter_at dir j) (drop (suc j) (olds_of n dir)) (λ q. omega arith));
        }

    pub reached_here : j < n → target ≤ hi (get_or dir (j * entry_words) 0) → Reached (olds_of n dir) target j
    reached_here h l = record { inside = omega (arith, many); passed = p; there = λ k. omega (arith, g.start j h) }

    pub reached_end : j ≤ n → n ≤ j → Reached (olds_of n dir) target j
    reached_end h l = record { inside = omega (arith, many); passed = p; there = λ k. absurd (omega (arith, many)) }

  -- ---- those that start at it
  module _ (d : ℕ) where
    module _ (j : ℕ) (s : Seeking (olds_of n dir) target d j) where
      pub seeking_next : j < n → (get_or dir (j * entry_words + 2) 0 ≡ d → ⊥) → Seeking (olds_of n dir) target d (j + 1)
      seeking_next h o =
          record {
            there = λ k. omega (arith, s.there (omega (arith, many)), next_start j h);
            rest = s.rest
                ∙ rw (next_start j h, add-one j, piece j h)
                (from_other target d (old_sizes (take j (olds_of n dir))) (size_at dir j) (first_at dir j) (count_at dir j) (counter_at dir j) (drop (suc j) (olds_of n dir)) o);
          }

      pub found_here : j < n → hi (get_or dir (j * entry_words) 0) ≤ target → get_or dir (j * entry_words + 2) 0 ≡ d → FoundAt (olds_of n dir) target d j
      found_here h l o =
          let q : old_sizes (take j (olds_of n dir)) ≡ target = omega (arith, g.start j h, s.there (omega (arith, many))) in
          record {
            is = s.rest ∙ rw (piece j h) (from_here target d (old_sizes (take j (olds_of n dir))) (size_at dir j) (first_at dir j) (count_at dir j) (counter_at dir j) (drop (suc j) (olds_of n dir)) q o);
            inside = omega (arith, many);
            start = q;
          }

      module _ (first : ℕ) (r : Reached (olds_of n dir) target first) where
        pub found_none : j < n → target < hi (get_or dir (j * entry_words) 0) → FoundNot (olds_of n dir) target d first
        found_none h l =
            record {
              is = s.rest ∙ from_none target d (old_sizes (take j (olds_of n dir))) (drop j (olds_of n dir)) (omega (arith, g.start j h));
              inside = r.inside;
              passed = r.passed;
            }

        pub found_end : n ≤ j → FoundNot (olds_of n dir) target d first
        unfolding from
        found_end h = record { is = s.rest ∙ rw (drop_of_length-le (olds_of n dir) {i = j} (omega (arith, many))); inside = r.inside; passed = r.passed }

-- ---- behind a head or block just read
module _ (c olen : ℕ) (os : List Old) (d : ℕ) (s : List ℕ) where
  joins_far : c < length s → joins c olen os d s ≡ none
  unfolding joins
  joins_far h = let t : leb (length s) c ≡ false = lt-leb (length s) c h in rw (joins, t)

  joins_near : length s ≤ c → joins c olen os d s ≡ from_blocks (olen - length s) d os
  unfolding joins
  joins_near h = let t : leb (length s) c ≡ true = le-leb (length s) c h in rw (joins, t)

module _ (c olen left d : ℕ) (os : List Old) (j : ℕ) where
  pub too_far : c < left → j ≤ length os → Passed os j (olen - left) → JoinsNot os c olen left d j
  too_far h l p = record { is = λ s e. joins_far c olen os d s (omega arith); inside = l; passed = p }

  pub joins_found : left ≤ c → FoundAt os (olen - left) d j → JoinsAt os c olen left d j
  joins_found h f = record { is = λ s e. joins_near c olen os d s (omega arith) ∙ ap (λ (k : ℕ). from_blocks (olen - k) d os) e ∙ f.is; near = h; inside = f.inside; start = f.start }

  pub joins_none : left ≤ c → FoundNot os (olen - left) d j → JoinsNot os c olen left d j
  joins_none h f = record { is = λ s e. joins_near c olen os d s (omega arith) ∙ ap (λ (k : ℕ). from_blocks (olen - k) d os) e ∙ f.is; inside = f.inside; passed = f.passed }

pub joins_is : (c olen left d : ℕ) (os : List Old) (r : Result ℕ ℕ) → left ≤ c → Finds os (olen - left) d r → Joins os c olen left d r
joins_is c olen left d os (Ok j) h f = joins_found c olen left d os j h f
joins_is c olen left d os (Err j) h f = joins_none c olen left d os j h f

-- The old pieces from there on are no longer than the text that remains.
pub kept_size_lem : (T W n : ℕ) (dir : List ℕ) (c left d j : ℕ) → Chained T W n dir → c ≤ T → JoinsAt (olds_of n dir) c T left d j → old_sizes (drop j (olds_of n dir)) ≤ left
kept_size_lem T W n dir c left d j g h f = omega (arith, sizes_split j (olds_of n dir), g.in_text, f.start, f.near)
