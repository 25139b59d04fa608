-- A letter is one byte or four, stored one behind the other; digits are letters that stand as they are.
-- Assumes nothing.
use mathlib.Core.Path.{◌≡◌, refl}
use mathlib.Core.Bool.{Bool, true, false, ◌&&◌, not}
use mathlib.Core.List.{List, [], ◌∷◌}
use Prim.Native.Nat.{ℕ, zero, suc, ◌+◌, ◌/◌, ◌%◌, ◌≤◌, ◌<◌}
use native.Mathlib.Omega.{arith}
use native.Mathlib.Nat.{mod-eq_of_lt}
use lib.Dec.{ltb, leb, eqb}
use borrow.Author.Tests.{leb-true, ltb-true, le-leb, ne_eqb}
use Rattle.program.specs.Choice.{test}
use Rattle.grammar.specs.Lexer.{unescape, spelled}
use Rattle.lexer_names.specs.Names.{is_quoted, inner, raw_word}
use Rattle.lexer.proofs.Laws.{true_false}
use Rattle.buffer.specs.Stored.{onward, with_byte, stored, placed, Stores}
use Rattle.buffer.specs.Decimal.{digits_in, decimal}
use Rattle.map_spec.specs.Drawing.{is_plain, escape, letter, letters}

-- one byte
pub one : {at b r : ℕ} {out end : List ℕ} → (r ≡ onward at) × (end ≡ with_byte at b out) → Stores (b ∷ []) at out r end
unfolding placed stored
one p = record { place = p.0; buffer = p.1 }

-- a plain letter is below 256
below_byte : (x : ℕ) → is_plain x ≡ true → x % 256 ≡ x
unfolding is_plain
below_byte x e = go (leb 32 x) (leb x 126) refl e
  where
    go : (a b : Bool) → leb x 126 ≡ b → ((a && b) && (not (eqb x 34) && not (eqb x 92))) ≡ true → x % 256 ≡ x
    go true true f e = let l : x ≤ 126 = leb-true x 126 f in mod-eq_of_lt (omega (arith, l))
    go true false f e = true_false e
    go false b f e = true_false e

pub plain_letter : (x : ℕ) → is_plain x ≡ true → letter x ≡ (x % 256) ∷ []
unfolding letter
plain_letter x e = rw (below_byte x e, e)

pub other_letter : (x : ℕ) → is_plain x ≡ false → letter x ≡ escape x
unfolding letter
other_letter x e = rw e

-- a digit
digit_plain : (d : ℕ) → d < 10 → letter (48 + d) ≡ (48 + d) ∷ []
unfolding letter is_plain
digit_plain d h =
    let a : 48 + d ≡ 34 → ⊥ = λ z. omega (arith, z) in
    let b : 48 + d ≡ 92 → ⊥ = λ z. omega (arith, z) in
    rw (le-leb 32 (48 + d) (omega arith), le-leb (48 + d) 126 (omega arith), ne_eqb (48 + d) 34 a, ne_eqb (48 + d) 92 b)

digit_first : (d : ℕ) (acc : List ℕ) → d < 10 → letters acc ≡ acc → letters ((48 + d) ∷ acc) ≡ (48 + d) ∷ acc
unfolding letters
digit_first d acc h e = rw (digit_plain d h, e)

digits : (u n : ℕ) (acc : List ℕ) → letters acc ≡ acc → letters (digits_in u n acc) ≡ digits_in u n acc
unfolding digits_in
digits zero n acc e = e
digits (suc u) n acc e = go (ltb n 10) refl (λ f. digits u (n / 10) ((48 + n % 10) ∷ acc) f)
  where
    go : (t : Bool) → ltb n 10 ≡ t → (letters ((48 + n % 10) ∷ acc) ≡ (48 + n % 10) ∷ acc → letters (digits_in u (n / 10) ((48 + n % 10) ∷ acc)) ≡ digits_in u (n / 10) ((48 + n % 10) ∷ acc)) → letters (test t (λ _. (48 + n) ∷ acc) (λ _. digits_in u (n / 10) ((48 + n % 10) ∷ acc))) ≡ test t (λ _. (48 + n) ∷ acc) (λ _. digits_in u (n / 10) ((48 + n % 10) ∷ acc))
    go true f ih = digit_first n acc (ltb-true n 10 f) e
    go false f ih = ih (digit_first (n % 10) acc (omega arith) e)

-- a number stands as it is
pub decimal_letters : (n : ℕ) → letters (decimal n) ≡ decimal n
unfolding decimal letters
decimal_letters n = digits 20 n [] refl

-- a name's spelling: between quotes escapes are undone
pub spelled_quoted : (raw : List ℕ) → is_quoted raw ≡ true → spelled (raw_word raw) ≡ unescape 0 0 (inner raw)
unfolding spelled raw_word
spelled_quoted raw e = rw (raw_word, e)

pub spelled_plain : (raw : List ℕ) → is_quoted raw ≡ false → spelled (raw_word raw) ≡ raw
unfolding spelled raw_word
spelled_plain raw e = rw (raw_word, e)
