-- A payload's length, by the number of its kind.
-- Assumes nothing.
use Rattle.std.specs.Prelude.{Option, Some, None, List, [], ◌∷◌, ℕ, ◌+◌}
use Rattle.std.proofs.Math.Option as maybe
use Rattle.records.specs.Kinds.{Kind, Void, Int, IntConst, Load, Alloca, Switch}
use Rattle.trees.specs.Forms.{payload_length}
use Rattle.trees.specs.Steps.{kind_among, step_to}
use Rattle.record_steps.specs.declared.payloads.Payload.{Payload}
use Rattle.record_steps.specs.declared.payloads.Payload.TheVariants.{Words, Cases}

-- the length with detail d and first payload word w; none where none of the kinds has the number n
unfoldable pub length_among : List Kind → (n d w : ℕ) → maybe.Option ℕ
length_among ks n d w = elim (kind_among ks n) [ maybe.some k ↦ maybe.some (payload_length k d w) | maybe.none ↦ maybe.none ]

-- the first kind of each way in which payloads are counted
abbrev pub ways : List Kind
ways = Void ∷ Int ∷ IntConst ∷ Load ∷ Alloca ∷ Switch ∷ []

-- a switch has its case count, and two words for each case
abbrev pub words_in : Option Payload → maybe.Option ℕ
words_in (Some (Words n)) = maybe.some n
words_in (Some (Cases m)) = maybe.some (1 + (m + m))
words_in None = maybe.none

-- the step behind a header and a payload of so many words
abbrev pub step_behind : List ℕ → (at : ℕ) → maybe.Option ℕ → maybe.Option ℕ
step_behind ws at (maybe.some n) = step_to ws (at + (1 + n))
step_behind ws at maybe.none = maybe.none
