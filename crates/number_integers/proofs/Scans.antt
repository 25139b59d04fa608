-- What the scans of the grammar pass over: digits and underscores that begin with a digit, and hex digits.
-- Assumes nothing.
use mathlib.Core.Bool.{Bool, true, false}
use mathlib.Core.List.{List, [], ◌∷◌}
use mathlib.Core.Option.{Option, none, some}
use mathlib.Core.Path.{◌≡◌, refl}
use Prim.Native.Nat.{ℕ}
use lib.Dec.{eqb}
use lib.ListN.{take}
use Rattle.program.specs.Bytes.{byte}
use Rattle.program.specs.Class.{is_digit, is_hex}
use Rattle.program.specs.Prog.{scan_len}
use Rattle.grammar.specs.Numbers.{digit_step, hex_step}
use Rattle.number_integers.specs.Folds.{all_digits, begins}
use Rattle.number_integers.specs.Hex.{all_hex}

-- a scan that goes on, and one that stops
goes : (f : ℕ → ℕ → Option ℕ) (q r x : ℕ) (s : List ℕ) → f q x ≡ some r → take (scan_len f q (x ∷ s)) (x ∷ s) ≡ x ∷ take (scan_len f r s) s
unfolding scan_len
goes f q r x s e = rw (scan_len, e)

stops : (f : ℕ → ℕ → Option ℕ) (q x : ℕ) (s : List ℕ) → f q x ≡ none → take (scan_len f q (x ∷ s)) (x ∷ s) ≡ []
unfolding scan_len
stops f q x s e = rw (scan_len, e)

pub digits_all : (q : ℕ) (s : List ℕ) → all_digits (take (scan_len digit_step q s) s) ≡ true
unfolding scan_len all_digits digit_step
digits_all q [] = refl
digits_all q (x ∷ s) = go (is_digit x) refl (eqb x (byte "_")) refl (eqb q 0) refl (digits_all 1 s)
  where
    go : (a : Bool) → is_digit x ≡ a → (b : Bool) → eqb x (byte "_") ≡ b → (t : Bool) → eqb q 0 ≡ t → all_digits (take (scan_len digit_step 1 s) s) ≡ true →
        all_digits (take (scan_len digit_step q (x ∷ s)) (x ∷ s)) ≡ true
    go true e b f t g ih = rw (goes digit_step q 1 x s (simp e)) (simp (e, ih))
    go false e true f true g ih = rw (stops digit_step q x s (simp (e, f, g)))
    go false e true f false g ih = rw (goes digit_step q 1 x s (simp (e, f, g))) (simp (e, f, ih))
    go false e false f t g ih = rw (stops digit_step q x s (simp (e, f)))

pub digits_begin : (s : List ℕ) → begins (take (scan_len digit_step 0 s) s) ≡ true
unfolding scan_len begins digit_step
digits_begin [] = refl
digits_begin (x ∷ s) = go (is_digit x) refl (eqb x (byte "_")) refl
  where
    go : (a : Bool) → is_digit x ≡ a → (b : Bool) → eqb x (byte "_") ≡ b → begins (take (scan_len digit_step 0 (x ∷ s)) (x ∷ s)) ≡ true
    go true e b f = rw (goes digit_step 0 1 x s (simp e)) e
    go false e true f = rw (stops digit_step 0 x s (simp (e, f)))
    go false e false f = rw (stops digit_step 0 x s (simp (e, f)))

pub hex_all : (q : ℕ) (s : List ℕ) → all_hex (take (scan_len hex_step q s) s) ≡ true
unfolding scan_len all_hex hex_step
hex_all q [] = refl
hex_all q (x ∷ s) = go (is_hex x) refl (hex_all 0 s)
  where
    go : (a : Bool) → is_hex x ≡ a → all_hex (take (scan_len hex_step 0 s) s) ≡ true → all_hex (take (scan_len hex_step q (x ∷ s)) (x ∷ s)) ≡ true
    go true e ih = rw (goes hex_step q 0 x s (simp e)) (simp (e, ih))
    go false e ih = rw (stops hex_step q x s (simp e))
