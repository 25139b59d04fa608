-- M-109: what the call leaves in the lent buffer.
-- Assumes nothing.
use Rattle.std.specs.Prelude.{true, false, ◌&&◌, List, [], ℕ, leb, length}
use Rattle.records.specs.Limits.{text_limit}
use Rattle.records.specs.Pieces.{pad}
use Rattle.map_spec.specs.Blocks.{map_in}

-- A map of so many bytes, or 27; and the buffer.
pub data Outcome : Type 0 where
  drawn : (length : ℕ) → List ℕ → Outcome
  too_long : List ℕ → Outcome

-- "27: the text is longer than the lent buffer or 16,777,216 bytes". Behind the text there are zeros; where it is refused, zeros alone.
unfoldable pub outcome : (room : ℕ) (text : List ℕ) → Outcome
outcome room text = elim (leb (length text) text_limit && leb (length text) room) [ true ↦ drawn (length text) (pad room text) | false ↦ too_long (pad room []) ]

-- The block map of n entries of a directory, into a buffer of so many bytes.
unfoldable pub block_map : (room n : ℕ) (text words dir : List ℕ) → Outcome
block_map room n text words dir = outcome room (map_in n text words dir)
