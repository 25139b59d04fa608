-- The older directory as the code has it: the first n entries of a list of words.
-- Assumes nothing.
use Rattle.std.specs.Prelude.{◌≡◌, Bool, true, false, List, [], ◌∷◌, ◌++◌, ℕ, zero, suc, ◌+◌, ◌-◌, ◌*◌, ◌≤◌, ◌<◌, length, get_or, take, drop}
use Rattle.std.proofs.Math.Option.{Option, none, some}
use Rattle.std.proofs.Math.Seq.{paste}
use Rattle.program.specs.Class.{is_word}
use Rattle.records.specs.Words.{pack, hi, lo}
use Rattle.records.specs.Limits.{half_limit, counter_limit, entry_words}
use Rattle.records.specs.Pieces.{Old, old, olds, old_sizes, old_words, first_counter, kept_front, from, from_blocks, joins}

-- Question 22 as a truth value.
unfoldable pub answers : Option (List Old) → Bool
answers none = false
answers (some os) = true

-- The pieces that n entries name, whether or not question 22 refuses them.
unfoldable pub olds_of : ℕ → List ℕ → List Old
olds_of zero dir = []
olds_of (suc n) [] = []
olds_of (suc n) (x ∷ []) = []
olds_of (suc n) (x ∷ y ∷ []) = []
olds_of (suc n) (x ∷ y ∷ c ∷ dir) = old (lo x) (hi y) (lo y) c ∷ olds_of n dir

-- The n entries stand within the array, and each starts, in text and words, where the last ended.
pub record Joined (n : ℕ) (dir : List ℕ) : Type 0 where
  pub inside : n * entry_words ≤ length dir
  pub start : (m : ℕ) → m < n → hi (get_or dir (m * entry_words) 0) ≡ old_sizes (take m (olds_of n dir))
  pub first : (m : ℕ) → m < n → hi (get_or dir (m * entry_words + 1) 0) ≡ old_words (take m (olds_of n dir))
  pub counter : (m : ℕ) → m < n → get_or dir (m * entry_words + 2) 0 ≡ first_counter (drop m (olds_of n dir))

-- What question 22 grants where it does not refuse.
pub record Chained (text words n : ℕ) (dir : List ℕ) : Type 0 where
  pub is : olds text words n dir ≡ some (olds_of n dir)
  pub two : 2 ≤ n
  pub joined : Joined n dir
  pub in_text : old_sizes (olds_of n dir) ≤ text
  pub in_words : old_words (olds_of n dir) ≤ words
  pub low : (m : ℕ) → m < n → get_or dir (m * entry_words + 2) 0 ≤ counter_limit

-- The bytes of s from `from` up to r are letters, digits or `_`, and the one at r, if s has it, is not.
pub record WordEnd (s : List ℕ) (from r : ℕ) : Type 0 where
  pub behind : from ≤ r
  pub inside : r ≤ length s
  pub wordy : (k : ℕ) → from ≤ k → k < r → is_word (get_or s k 0) ≡ true
  pub stops : r < length s → is_word (get_or s r 0) ≡ false

-- The counter with which reading begins at piece number k: "reading begins with that of the old piece it starts at, and with 0 at the head" (02:
-- M-106).
unfoldable pub begins : ℕ → List Old → ℕ
begins zero os = 0
begins (suc k) os = first_counter (drop (suc k) os)

-- So many of the pieces os are kept in front, where s is common to both texts; there they end, and reading begins with that counter.
pub record FrontIs (s : List ℕ) (os : List Old) (count pos word counter : ℕ) : Type 0 where
  pub kept : count ≡ kept_front s os
  pub size : pos ≡ old_sizes (take count os)
  pub words : word ≡ old_words (take count os)
  pub begin : counter ≡ begins count os

-- Of the pieces os, those before j, but for the head, start before t.
pub record Passed (os : List Old) (j t : ℕ) : Type 0 where
  pub skips : (u d : ℕ) → t ≤ u → from_blocks u d os ≡ from u d (old_sizes (take j os)) (drop j os)

-- Of the pieces os, number j is the first but the head that starts at the target or behind it, or there is none.
pub record Reached (os : List Old) (target j : ℕ) : Type 0 where
  pub inside : j ≤ length os
  pub passed : Passed os j target
  pub there : j < length os → target ≤ old_sizes (take j os)

-- Of the pieces os, number j is the first but the head that starts at the target with the counter d.
pub record FoundAt (os : List Old) (target d j : ℕ) : Type 0 where
  pub is : from_blocks target d os ≡ some (drop j os)
  pub inside : j < length os
  pub start : old_sizes (take j os) ≡ target

-- None does, and a later one is looked for from j on.
pub record FoundNot (os : List Old) (target d j : ℕ) : Type 0 where
  pub is : from_blocks target d os ≡ none
  pub inside : j ≤ length os
  pub passed : Passed os j target

-- Behind a piece, `left` bytes from the text's end and with the counter d, the old pieces from number j on are kept.
pub record JoinsAt (os : List Old) (c olen left d j : ℕ) : Type 0 where
  pub is : (s : List ℕ) → length s ≡ left → joins c olen os d s ≡ some (drop j os)
  pub near : left ≤ c
  pub inside : j < length os
  pub start : old_sizes (take j os) ≡ olen - left

-- None is; behind a later piece they are looked for from j on.
pub record JoinsNot (os : List Old) (c olen left d j : ℕ) : Type 0 where
  pub is : (s : List ℕ) → length s ≡ left → joins c olen os d s ≡ none
  pub inside : j ≤ length os
  pub passed : Passed os j (olen - left)

-- The first n entries of a directory, moved so that they start at pos and at `word`; "A kept piece keeps its third word" (02: M-106).
unfoldable pub moved : (n pos word : ℕ) → List ℕ → List ℕ
moved zero pos word dir = []
moved (suc n) pos word [] = []
moved (suc n) pos word (x ∷ []) = []
moved (suc n) pos word (x ∷ y ∷ []) = []
moved (suc n) pos word (x ∷ y ∷ c ∷ dir) = pack pos (lo x) ∷ pack word (lo y) ∷ c ∷ moved n (pos + lo x) (word + lo y) dir

-- Old pieces, if any, have room as pieces i and so on, with their words from `word` on.
pub record RoomFor (W D i word : ℕ) (os : List Old) : Type 0 where
  pub in_words : word + old_words os ≤ W
  pub small : 0 < length os → word + old_words os < half_limit
  pub entries : (i + length os) * entry_words ≤ D

-- The old pieces from number f on have become pieces t and so on, from pos and from `word` on; r is the end of their words.
pub record KeptBehind (ws dir : List ℕ) (n f t pos word r : ℕ) (ws2 dir2 : List ℕ) : Type 0 where
  pub end : r ≡ word + old_words (drop f (olds_of n dir))
  pub words : ws2 ≡ paste ws word (drop (old_words (take f (olds_of n dir))) ws) (old_words (drop f (olds_of n dir)))
  pub entries : dir2 ≡ take (t * entry_words) dir ++ (moved (n - f) pos word (drop (f * entry_words) dir) ++ drop ((t + (n - f)) * entry_words) dir)
