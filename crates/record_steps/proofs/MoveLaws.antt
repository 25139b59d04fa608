-- A step that is made changes the place, since it goes forward: so the new place tells whether it was made.
-- Assumes nothing.
use mathlib.Core.Path.{◌≡◌, refl}
use mathlib.Core.Bool.{Bool, not}
use mathlib.Core.Option.{Option, none, some}
use Prim.Native.Nat.{ℕ, ◌<◌}
use native.Mathlib.Omega.{arith}
use lib.Dec.{eqb}
use borrow.Author.Tests.{eq-eqb, ne_eqb}
use Rattle.record_steps.specs.Moves.{place_or, Moves, made, stays}
use Rattle.record_steps.specs.declared.handle.Handle.{Handle}

pub moves : (h : Handle) (o : Option ℕ) (to : ℕ) → to ≡ place_or h.at o → ((n : ℕ) → o ≡ some n → h.at < n) → Moves o h (not (eqb to h.at)) (record { words = h.words; at = to })
moves h (some n) to e f = rw (e, ne_eqb n h.at (λ i. omega (arith, f n refl))) made
moves h none to e f = rw (e, eq-eqb h.at h.at refl) stays

-- where a handle then stands
pub place_after : {o : Option ℕ} {h h' : Handle} {r : Bool} → Moves o h r h' → h'.at ≡ place_or h.at o
place_after made = refl
place_after stays = refl
