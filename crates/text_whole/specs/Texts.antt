-- How far two texts have been compared.
-- Assumes nothing.
use Rattle.std.specs.Prelude.{◌≡◌, List, reverse, ℕ, ◌+◌, ◌-◌, ◌≤◌, ◌<◌, length, get_or, drop}
use Rattle.records.specs.Limits.{byte_limit}
use Rattle.records.specs.Pieces.{common}

-- question 2 refuses none of the first n bytes
abbrev pub AllLow : List ℕ → ℕ → Type 0
AllLow xs n = (k : ℕ) → k < n → get_or xs k 0 ≤ byte_limit

-- the n bytes at p of one and at q of the other are the same
abbrev pub Same : (n p q : ℕ) → List ℕ → List ℕ → Type 0
Same n p q xs ys = (k : ℕ) → k < n → get_or xs (p + k) 0 ≡ get_or ys (q + k) 0

-- the first r bytes are common
pub record Shares (xs ys : List ℕ) (r : ℕ) : Type 0 where
  pub left : r ≤ length xs
  pub right : r ≤ length ys
  pub rest : length (common xs ys) ≡ r + length (common (drop r xs) (drop r ys))

-- of what stands behind a, the last r bytes are common
pub record Ends (xs ys : List ℕ) (a r : ℕ) : Type 0 where
  pub left : r ≤ length xs - a
  pub right : r ≤ length ys - a
  pub rest : Shares (reverse (drop a xs)) (reverse (drop a ys)) r
