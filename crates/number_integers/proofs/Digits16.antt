-- Hex digits w fold to the number that w writes, and the literal is what 01 says of w.
-- Assumes nothing.
use mathlib.Core.Bool.{Bool, true, false}
use mathlib.Core.List.{List, [], ◌∷◌}
use mathlib.Core.Path.{◌≡◌, refl, sym, ap, ◌∙◌, subst}
use Prim.Native.Nat.{ℕ, ◌+◌, ◌*◌, ◌^◌, ◌<◌, ◌≤◌}
use native.Mathlib.Nat.{le_trans, lt_of_lt_of_le, add-zero, zero-add, add-suc, suc-add, pow-suc, pow-le-pow_right, mod-eq_of_lt}
use native.Mathlib.Numerals.{add-one}
use native.Mathlib.Omega.{arith}
use lib.Arith.{digits_lt}
use lib.Dec.{ltb, eqb, lit<, lit≤}
use lib.ListN.{length}
use borrow.Author.Tests.{lt-ltb, le-ltb, le-leb, lt-leb, ltb-true, ltb-false, eqb-true}
use Rattle.std.specs.Prelude.{Ok, Err}
use Rattle.program.specs.Choice.{pick}
use Rattle.program.specs.Class.{class_of, inside, is_hex}
use Rattle.program.specs.Prog.{ret}
use Rattle.grammar.specs.Lexer.{refuse}
use Rattle.grammar.specs.Numbers.{hex_of, widen}
use Rattle.number_integers.specs.Hex.{hex_held, hex_pushed, hex_folded, all_hex}
use Rattle.number_integers.specs.Literals.{bits_in, hex_literal, f0x_literal}
use Rattle.number_integers.proofs.Folds.{and_left, and_right}

more_small : (v n d : ℕ) → v < 16 ^ n → d < 16 → v * 16 + d < 16 ^ (n + 1)
more_small v n d h k = rw (add-one n, pow-suc 16 n) (digits_lt h k)

pub hex_more : (v n d : ℕ) → v < 16 ^ n → d < 16 → hex_pushed (hex_held v n) d ≡ hex_held (v * 16 + d) (n + 1)
unfolding hex_pushed hex_held
hex_more v n d h k = go (ltb n 16) refl
  where
    go : (t : Bool) → ltb n 16 ≡ t → hex_pushed (hex_held v n) d ≡ hex_held (v * 16 + d) (n + 1)
    go true e =
        let b : n < 16 = ltb-true n 16 e in
        let c : v < 2 ^ 60 = lt_of_lt_of_le h (le_trans (pow-le-pow_right (lit< tt) (lit_pred n b)) (lit≤ tt)) in
        simp (lt-ltb n 17 (omega arith), e, lt-ltb (n + 1) 17 (omega arith), mod-eq_of_lt c, mod-eq_of_lt k)
      where
        lit_pred : (n : ℕ) → n < 16 → n ≤ 15
        lit_pred n b = omega arith
    go false e = long (ltb n 17) refl
      where
        b : 16 ≤ n
        b = ltb-false n 16 e

        past : (n : ℕ) → 16 ≤ n → 17 ≤ n + 1
        past n h = omega arith

        long : (t : Bool) → ltb n 17 ≡ t → hex_pushed (hex_held v n) d ≡ hex_held (v * 16 + d) (n + 1)
        long true f = simp (f, e, le-ltb (n + 1) 17 (past n b))
        long false f = simp (f, le-ltb (n + 1) 17 (past n b))

pub hex_value_lem : (w : List ℕ) (v n : ℕ) → all_hex w ≡ true → v < 16 ^ n → hex_folded (hex_held v n) w ≡ hex_held (hex_of v w) (n + length w)
unfolding hex_folded hex_of all_hex is_hex
hex_value_lem [] v n a h = ap (hex_held v) (sym (add-zero n))
hex_value_lem (x ∷ r) v n a h =
    let d = ltb-true (class_of x) 16 (and_left (is_hex x) (all_hex r) a) in
    ap (λ s. hex_folded s r) (hex_more v n (class_of x) h d)
    ∙ hex_value_lem r (v * 16 + class_of x) (n + 1) (and_right (is_hex x) (all_hex r) a) (more_small v n (class_of x) h d)
    ∙ ap (hex_held (hex_of (v * 16 + class_of x) r)) (simp (add-one, suc-add, add-suc))

pub hex_small : (w : List ℕ) (v n : ℕ) → all_hex w ≡ true → v < 16 ^ n → hex_of v w < 16 ^ (n + length w)
unfolding hex_of all_hex is_hex
hex_small [] v n a h = rw (add-zero n) h
hex_small (x ∷ r) v n a h =
    let d = ltb-true (class_of x) 16 (and_left (is_hex x) (all_hex r) a) in
    subst (λ (k : ℕ). hex_of (v * 16 + class_of x) r < 16 ^ k) (simp (add-one, suc-add, add-suc))
    (hex_small r (v * 16 + class_of x) (n + 1) (and_right (is_hex x) (all_hex r) a) (more_small v n (class_of x) h d))

from_nothing : (w : List ℕ) → all_hex w ≡ true → hex_folded (hex_held 0 0) w ≡ hex_held (hex_of 0 w) (length w)
from_nothing w a = hex_value_lem w 0 0 a (lit< tt) ∙ ap (hex_held (hex_of 0 w)) (zero-add (length w))

-- behind `0x`
taken_hex : (v n : ℕ) → bits_in (hex_literal (hex_held v n)) ≡ elim (inside 1 16 n) [ true ↦ ret v | false ↦ refuse 7 ]
unfolding bits_in hex_literal hex_held
taken_hex v n = go (ltb n 17) refl
  where
    most : (t : Bool) → bits_in (pick t (Ok v) (Err 7)) ≡ elim t [ true ↦ ret v | false ↦ refuse 7 ]
    most true = refl
    most false = refl

    go : (t : Bool) → ltb n 17 ≡ t → bits_in (hex_literal (hex_held v n)) ≡ elim (inside 1 16 n) [ true ↦ ret v | false ↦ refuse 7 ]
    go true e = simp e (most (inside 1 16 n))
    go false e = simp (e, lt-leb n 16 (ltb-false n 17 e), le-leb 1 n (le_trans (lit≤ tt) (ltb-false n 17 e)))

pub hex_literal_lem : (w : List ℕ) → all_hex w ≡ true →
    bits_in (hex_literal (hex_folded (hex_held 0 0) w)) ≡ elim (inside 1 16 (length w)) [ true ↦ ret (hex_of 0 w) | false ↦ refuse 7 ]
hex_literal_lem w a = ap (λ h. bits_in (hex_literal h)) (from_nothing w a) ∙ taken_hex (hex_of 0 w) (length w)

-- behind `f0x`
taken_f0x : (v n : ℕ) → (n ≡ 8 → v < 2 ^ 32) →
    bits_in (f0x_literal (hex_held v n)) ≡ elim (eqb n 8) [ true ↦ ret (widen v) | false ↦ elim (eqb n 16) [ true ↦ ret v | false ↦ refuse 7 ] ]
unfolding bits_in f0x_literal hex_held
taken_f0x v n h = go (eqb n 8) refl (eqb n 16) refl
  where
    go : (t : Bool) → eqb n 8 ≡ t → (u : Bool) → eqb n 16 ≡ u →
        bits_in (f0x_literal (hex_held v n)) ≡ elim (eqb n 8) [ true ↦ ret (widen v) | false ↦ elim (eqb n 16) [ true ↦ ret v | false ↦ refuse 7 ] ]
    go true e u f = let k = eqb-true n 8 e in rw (k, mod-eq_of_lt (h k))
    go false e true f = let k = eqb-true n 16 f in simp (lt-ltb n 17 (omega arith), e, f)
    go false e false f = long (ltb n 17) refl
      where
        long : (t : Bool) → ltb n 17 ≡ t →
            bits_in (f0x_literal (hex_held v n)) ≡ elim (eqb n 8) [ true ↦ ret (widen v) | false ↦ elim (eqb n 16) [ true ↦ ret v | false ↦ refuse 7 ] ]
        long true g = simp (g, e, f)
        long false g = simp (g, e, f)

pub f0x_literal_lem : (w : List ℕ) → all_hex w ≡ true →
    bits_in (f0x_literal (hex_folded (hex_held 0 0) w)) ≡
    elim (eqb (length w) 8) [ true ↦ ret (widen (hex_of 0 w)) | false ↦ elim (eqb (length w) 16) [ true ↦ ret (hex_of 0 w) | false ↦ refuse 7 ] ]
f0x_literal_lem w a =
    ap (λ h. bits_in (f0x_literal h)) (from_nothing w a)
    ∙ taken_f0x (hex_of 0 w) (length w) (λ e. subst (λ (n : ℕ). hex_of 0 w < 16 ^ n) (zero-add (length w) ∙ e) (hex_small w 0 0 a (lit< tt)))
