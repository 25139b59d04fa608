-- A fold of digits: cut anywhere, the rest goes on from the first part's state; and what holds a number holds the number that digits write.
-- Assumes nothing.
use mathlib.Core.Bool.{Bool, true, false, ◌&&◌}
use mathlib.Core.List.{List, [], ◌∷◌, ◌++◌}
use mathlib.Core.Path.{◌≡◌, refl, sym, ap, ◌∙◌}
use Prim.Native.Nat.{ℕ, ◌+◌, ◌*◌}
use lib.Dec.{eqb}
use Rattle.program.specs.Bytes.{byte}
use Rattle.program.specs.Choice.{pick}
use Rattle.program.specs.Class.{class_of}
use Rattle.grammar.specs.Numbers.{value_of}
use Rattle.number_integers.specs.Folds.{folded}

pub cut : {S : Type 0} (more : S → ℕ → S) (s : S) (a b : List ℕ) → folded more s (a ++ b) ≡ folded more (folded more s a) b
unfolding folded
cut more s [] b = refl
cut more s (x ∷ a) b = cut more (pick (eqb x (byte "_")) s (more s (class_of x))) a b

picked : {A C : Type 0} (f : A → C) (t : Bool) (a b : A) → f (pick t a b) ≡ pick t (f a) (f b)
picked f true a b = refl
picked f false a b = refl

module _ {S : Type 0} (more : S → ℕ → S) (holds : ℕ → S) (step : (v d : ℕ) → more (holds v) d ≡ holds (v * 10 + d)) where
  pub holds_value : (w : List ℕ) (v : ℕ) → folded more (holds v) w ≡ holds (value_of v w)
  unfolding folded value_of
  holds_value [] v = refl
  holds_value (x ∷ r) v =
      ap (λ (s : S). folded more (pick (eqb x (byte "_")) (holds v) s) r) (step v (class_of x))
      ∙ ap (λ (s : S). folded more s r) (sym (picked holds (eqb x (byte "_")) v (v * 10 + class_of x)))
      ∙ holds_value r (pick (eqb x (byte "_")) v (v * 10 + class_of x))

-- both hold
pub and_left : (a b : Bool) → (a && b) ≡ true → a ≡ true
and_left true b e = refl
and_left false b e = e

pub and_right : (a b : Bool) → (a && b) ≡ true → b ≡ true
and_right true b e = e
and_right false b e = let z : false ≡ true = e in cc
