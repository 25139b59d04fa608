-- One piece of a text, as the code reads it: its words come to stand in a stretch of the lent ones.
-- Assumes nothing.
use Rattle.std.specs.Prelude.{◌≡◌, List, ◌++◌, ℕ, ◌+◌, ◌≤◌, length, take, drop}

-- Only the words from `word` up to `to` may have changed.
pub record Within (word to : ℕ) (words words' : List ℕ) : Type 0 where
  pub front : take word words' ≡ take word words
  pub behind : drop to words' ≡ drop to words
  pub long : length words' ≡ length words

-- A piece of n words was read, and f says which: they stand from `word` on, if they end at `to` or before.
pub record Stands (f : List ℕ → Type 0) (n word to : ℕ) (words words' : List ℕ) : Type 0 where
  pub ws : List ℕ
  pub is : f ws
  pub many : n ≡ length ws
  pub stands : word + n ≤ to → take (word + n) words' ≡ take word words ++ ws
  pub within : Within word to words words'

-- "two escape errors can put it one past the text's length": a refusal's number and place, at the start of s
pub record Stops (f : Type 0) (p : ℕ) (s : List ℕ) : Type 0 where
  pub is : f
  pub inside : p ≤ length s + 1

-- A piece of n words was read, and f says which; the words are only counted.
pub record Counts (f : List ℕ → Type 0) (n : ℕ) : Type 0 where
  pub ws : List ℕ
  pub is : f ws
  pub many : n ≡ length ws
