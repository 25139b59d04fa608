-- A number in decimal is what std writes: by induction on the digits, where a number below 10 is one whose tenth is 0.
-- Assumes nothing.
use mathlib.Core.Path.{◌≡◌, refl, ap, ◌∙◌}
use mathlib.Core.Bool.{Bool, true, false}
use mathlib.Core.List.{List, [], ◌∷◌}
use Prim.Native.Nat.{ℕ, zero, suc, ◌+◌, ◌/◌, ◌%◌, ◌^◌, ◌≤◌, ◌<◌}
use native.Mathlib.Omega.{arith}
use native.Mathlib.Nat.{mod-eq_of_lt, pow-suc}
use lib.Dec.{ltb}
use borrow.Author.Tests.{lt-ltb, ltb-true, ltb-false, ne_eqb}
use Rattle.program.specs.Choice.{test}
use Rattle.std.specs.Fmt.{digits, digits_onto}
use Rattle.std.proofs.Common as std
use Rattle.buffer.specs.Decimal.{digits_in, decimal}

-- the last digit that is made, and any other
one : (m n : ℕ) (acc : List ℕ) → n < 10 → digits_onto (suc m) 10 false n acc ≡ (48 + n) ∷ acc
one m n acc h =
    let z : n / 10 ≡ 0 = omega arith in
    rw (z, mod-eq_of_lt h, lt-ltb n 10 h)

more : (m n : ℕ) (acc : List ℕ) → 10 ≤ n → digits_onto (suc m) 10 false n acc ≡ digits_onto m 10 false (n / 10) ((48 + n % 10) ∷ acc)
more m n acc h =
    let z : n / 10 ≡ 0 → ⊥ = λ e. omega (arith, e) in
    let d : n % 10 < 10 = omega arith in
    rw (ne_eqb (n / 10) 0 z, lt-ltb (n % 10) 10 d)

same : (k j n : ℕ) (acc : List ℕ) → n < 10 ^ suc k → digits_onto (suc (k + j)) 10 false n acc ≡ digits_in (suc k) n acc
unfolding digits_in
same zero j n acc h = let l : n < 10 = omega (arith, h) in rw (lt-ltb n 10 l) (one (zero + j) n acc l)
same (suc k) j n acc h = go (ltb n 10) refl (λ l. same k j (n / 10) ((48 + n % 10) ∷ acc) l)
  where
    go : (t : Bool) → ltb n 10 ≡ t → (n / 10 < 10 ^ suc k → digits_onto (suc (k + j)) 10 false (n / 10) ((48 + n % 10) ∷ acc) ≡ digits_in (suc k) (n / 10) ((48 + n % 10) ∷ acc)) → digits_onto (suc (suc k + j)) 10 false n acc ≡ test t (λ _. (48 + n) ∷ acc) (λ _. digits_in (suc k) (n / 10) ((48 + n % 10) ∷ acc))
    go true e ih = one (suc k + j) n acc (ltb-true n 10 e)
    go false e ih =
        let z : suc k + j ≡ suc (k + j) = omega arith in
        more (suc k + j) n acc (ltb-false n 10 e) ∙ ap (λ (m : ℕ). digits_onto m 10 false (n / 10) ((48 + n % 10) ∷ acc)) z ∙ ih (omega (arith, h, pow-suc 10 (suc k)))

pub decimal_same : (n : ℕ) → n < 2 ^ 64 → std.decimal n ≡ decimal n
unfolding decimal digits
decimal_same n h = same 19 44 n [] (omega arith)
