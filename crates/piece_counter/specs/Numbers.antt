-- The number that a name's bytes write.
-- Assumes nothing.
use Rattle.std.specs.Prelude.{◌≡◌, List, ℕ, ◌≤◌, ◌<◌, Option, Some, is_some}
use Rattle.records.specs.Limits.{counter_limit}
use Rattle.grammar.specs.Numbers.{value_of}
use Rattle.grammar.specs.Counter.{is_number}

-- v is the number a, or both are not below 2^32: a number of any length, of which no more is kept than question 26 asks.
pub record Near (a v : ℕ) : Type 0 where
  pub low : v < counter_limit → a ≡ v
  pub high : counter_limit ≤ v → counter_limit ≤ a

-- are all of them digits, and their value if they are
pub record NumberIs (raw : List ℕ) (r : Option ℕ) : Type 0 where
  pub all : is_some r ≡ is_number raw
  pub worth : (v : ℕ) → r ≡ Some v → Near (value_of 0 raw) v
