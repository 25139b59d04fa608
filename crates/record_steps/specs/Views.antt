-- The answers of the steps, as the definitions have them.
-- Assumes nothing.
use Rattle.std.specs.Prelude.{Option, Some, None, List, [], ℕ, length, take, drop}
use Rattle.std.proofs.Math.Option as maybe
use Rattle.trees.specs.Steps.{Part, part, part_of}
use Rattle.record_steps.specs.declared.names.Text.{Text}

-- the place that a step goes to
abbrev pub reached : Option ℕ → maybe.Option ℕ
reached (Some n) = maybe.some n
reached None = maybe.none

-- the part that a name is
abbrev pub part_in : Option Text → maybe.Option Part
part_in (Some t) = maybe.some (part t.start t.length)
part_in None = maybe.none

-- a part cut out of the piece
abbrev pub cut_out : List ℕ → Part → List ℕ
cut_out piece (part start n) = take n (drop start piece)

-- the bytes of a name's word: its part of the piece; none where it is no name or reaches past the piece
unfoldable pub text_of : (piece : List ℕ) (w : ℕ) → List ℕ
text_of piece w = elim (part_of (length piece) w) [ maybe.some p ↦ cut_out piece p | maybe.none ↦ [] ]
