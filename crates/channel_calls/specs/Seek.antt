-- Seeking the n-th of some calls, which are looked at one behind the other.
-- Assumes nothing.
use Rattle.std.specs.Prelude.{◌≡◌, refl, List, [], ◌∷◌, ◌++◌, ℕ, zero, suc}
use Rattle.channel_spec.specs.declared.Fired.{Fired}
use Rattle.channel_spec.specs.Fires.{nth}
use Rattle.std.specs.declared.ops.ControlFlow.{ControlFlow}
use Rattle.std.specs.declared.ops.ControlFlow.TheVariants.{Break, Continue}

-- the call that is sought, or its number among those behind
abbrev pub Search : Type 0
Search = ControlFlow Fired ℕ

-- number k of the calls, or its number among those behind them
unfoldable pub seek : (k : ℕ) → List Fired → Search
seek k [] = Continue k
seek zero (f ∷ fs) = Break f
seek (suc k) (f ∷ fs) = seek k fs

-- the same, where more calls stand behind those that were looked at
abbrev pub seek_on : Search → List Fired → Search
seek_on (Break f) fs = Break f
seek_on (Continue k) fs = seek k fs

abbrev pub nth_on : Search → List Fired → Fired
nth_on (Break f) fs = f
nth_on (Continue k) fs = nth k fs

pub seek_append : (k : ℕ) (fs gs : List Fired) → seek k (fs ++ gs) ≡ seek_on (seek k fs) gs
unfolding seek
seek_append k [] gs = refl
seek_append zero (f ∷ fs) gs = refl
seek_append (suc k) (f ∷ fs) gs = seek_append k fs gs

pub nth_append : (k : ℕ) (fs gs : List Fired) → nth k (fs ++ gs) ≡ nth_on (seek k fs) gs
unfolding seek nth
nth_append k [] gs = refl
nth_append zero (f ∷ fs) gs = refl
nth_append (suc k) (f ∷ fs) gs = nth_append k fs gs
