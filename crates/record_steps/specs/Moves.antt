-- What a step does to a handle.
-- Assumes nothing.
use Rattle.std.specs.Prelude.{Bool, true, false, ℕ}
use Rattle.std.proofs.Math.Option.{Option, none, some}
use Rattle.record_steps.specs.declared.handle.Handle.{Handle}

-- the place that is reached, or the one where the step was asked
abbrev pub place_or : ℕ → Option ℕ → ℕ
place_or at (some to) = to
place_or at none = at

-- A step that is made moves the handle over the same words, and one that is not moves nothing; r says which.
pub data Moves : Option ℕ → (before : Handle) (r : Bool) (after : Handle) → Type 0 where
  made : {h : Handle} {to : ℕ} → Moves (some to) h true (record { words = h.words; at = to })
  stays : {h : Handle} → Moves none h false h
