-- What the code's answers are, in the definitions' terms.
-- Assumes nothing.
use Rattle.std.specs.Prelude.{Option, Some, None, Bool, true, false, List, ℕ}
use Rattle.map_spec.specs.Drawing.{Shown, node_of, edges_of}
use Rattle.map_spec.specs.Buffer.{Outcome, drawn, too_long}

-- the lines of a pass: those of the edges, or of the nodes
abbrev pub sort_of_lines : Bool → Shown → List ℕ
sort_of_lines true = edges_of
sort_of_lines false = node_of

-- a map of so many bytes, or one that is too long
abbrev pub drawn_by : Option ℕ → (buffer : List ℕ) → Outcome
drawn_by (Some n) buffer = drawn n buffer
drawn_by None buffer = too_long buffer
