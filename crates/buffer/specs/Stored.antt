-- Bytes stored in a lent buffer, as far as it reaches and as far as a written text may go (27). A place goes up to one more than that, and stays there.
-- Assumes nothing.
use Rattle.std.specs.Prelude.{◌≡◌, true, false, List, [], ◌∷◌, ℕ, suc, ltb, set}
use Rattle.records.specs.Limits.{text_limit}

-- the place behind a byte
unfoldable pub onward : ℕ → ℕ
onward at = elim (ltb at text_limit) [ true ↦ suc at | false ↦ suc text_limit ]

-- the buffer with a byte at a place
unfoldable pub with_byte : ℕ → ℕ → List ℕ → List ℕ
with_byte at b out = elim (ltb at text_limit) [ true ↦ set out at b | false ↦ out ]

-- the buffer behind storing bytes from a place on
unfoldable pub stored : ℕ → List ℕ → List ℕ → List ℕ
stored at [] out = out
stored at (b ∷ bs) out = stored (onward at) bs (with_byte at b out)

-- the place behind them
unfoldable pub placed : ℕ → List ℕ → ℕ
placed at [] = at
placed at (b ∷ bs) = placed (onward at) bs

-- The code stored these bytes from a place on: the place behind them, and the buffer, are those.
pub record Stores (bytes : List ℕ) (at : ℕ) (out : List ℕ) (r : ℕ) (end : List ℕ) : Type 0 where
  pub place : r ≡ placed at bytes
  pub buffer : end ≡ stored at bytes out
