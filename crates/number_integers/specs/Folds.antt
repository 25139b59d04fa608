-- Digits folded one by one, underscores passed over. 01: "A number begins with a digit; later underscores are passed over."
-- Assumes nothing.
use Rattle.std.specs.Prelude.{Bool, true, ◌&&◌, ◌||◌, List, [], ◌∷◌, ℕ, eqb}
use Rattle.program.specs.Bytes.{byte}
use Rattle.program.specs.Choice.{pick}
use Rattle.program.specs.Class.{class_of, is_digit}

-- where `more s d` is the state s and a digit more
unfoldable pub folded : {S : Type 0} → (S → ℕ → S) → S → List ℕ → S
folded more s [] = s
folded more s (x ∷ r) = folded more (pick (eqb x (byte "_")) s (more s (class_of x))) r

-- digits and underscores alone
unfoldable pub all_digits : List ℕ → Bool
all_digits [] = true
all_digits (x ∷ r) = (is_digit x || eqb x (byte "_")) && all_digits r

-- "A number begins with a digit"
unfoldable pub begins : List ℕ → Bool
begins [] = true
begins (x ∷ r) = is_digit x
