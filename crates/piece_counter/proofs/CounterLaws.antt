-- The laws of the counter's programs: none of them moves the cursor, so each is one test of numbers.
-- Assumes nothing.
use mathlib.Core.Path.{◌≡◌, refl, sym, ap, ◌∙◌, subst}
use mathlib.Core.List.{List, [], ◌∷◌}
use mathlib.Core.Bool.{Bool, true, false}
use Prim.Native.Nat.{ℕ, ◌+◌, ◌*◌, ◌≤◌, ◌<◌}
use native.Mathlib.Omega.{arith}
use lib.Dec.{leb, ltb, eqb}
use lib.ListN.{length, get_or, drop, drop_of_length-le}
use borrow.Author.Tests.{le-leb, lt-leb, lt-ltb, le-ltb, eqb-true, ne_eqb, ltb-true, ltb-false}
use Rattle.program.specs.Choice.{pick}
use Rattle.program.specs.Class.{class_of, is_digit}
use Rattle.program.specs.Prog.{fail}
use Rattle.program.specs.Lists.{drop_next}
use Rattle.grammar.specs.Lexer.{plain, quoted}
use Rattle.grammar.specs.Numbers.{value_of}
use Rattle.grammar.specs.Counter.{takes, is_number, named}
use Rattle.lexer.specs.Step.{refused_at}
use Rattle.lexer.specs.Reads.{Gives}
use Rattle.lexer.specs.Parsed.{Parsed}
use Rattle.lexer.proofs.Laws.{true_false, g_done, g_turn, g_fail_at}
use Rattle.lexer_names.specs.Names.{is_quoted, inner, raw_word}
use Rattle.std.specs.Prelude.{Some, None}
use Rattle.piece_counter.specs.Numbers.{Near, NumberIs}

-- ---- a number
pub takes_yes : {text : List ℕ} {p : Parsed} (i c v : ℕ) → c ≤ v → v < 4294967296 → Gives (takes i c v) (v + 1) text p p
unfolding takes
takes_yes i c v h k = rw (takes, le-leb _ _ h, lt-ltb _ _ k) g_done

pub takes_low : {text : List ℕ} {p p' : Parsed} {a : ℕ} (i c v : ℕ) → v < c → p' ≡ refused_at 26 i p → Gives (takes i c v) a text p p'
unfolding takes
takes_low i c v h e = rw (takes, lt-leb _ _ h) (g_fail_at 26 i e)

pub takes_high : {text : List ℕ} {p p' : Parsed} {a : ℕ} (i c v : ℕ) → 4294967296 ≤ v → p' ≡ refused_at 26 i p → Gives (takes i c v) a text p p'
unfolding takes
takes_high {text} {p} {p'} {a} i c v h e = go (leb c v) refl
  where
    go : (b : Bool) → leb c v ≡ b → Gives (takes i c v) a text p p'
    go true t = rw (takes, t, le-ltb _ _ h) (g_fail_at 26 i e)
    go false t = rw (takes, t) (g_fail_at 26 i e)

takes_none : (i c v : ℕ) → 4294967296 ≤ v → takes i c v ≡ fail 26 i
unfolding takes
takes_none i c v h = go (leb c v) refl
  where
    go : (b : Bool) → leb c v ≡ b → takes i c v ≡ fail 26 i
    go true t = rw (takes, t, le-ltb _ _ h)
    go false t = rw (takes, t)

-- as good as the number itself
pub takes_near : {text : List ℕ} {p p' : Parsed} {x : ℕ} (i c : ℕ) {a v : ℕ} → Near a v → Gives (takes i c v) x text p p' → Gives (takes i c a) x text p p'
takes_near {text} {p} {p'} {x} i c {a} {v} n g = go (ltb v 4294967296) refl
  where
    go : (b : Bool) → ltb v 4294967296 ≡ b → Gives (takes i c a) x text p p'
    go true t = subst (λ (u : ℕ). Gives (takes i c u) x text p p') (sym (n.low (ltb-true _ _ t))) g
    go false t = g_turn (takes_none i c a (n.high (ltb-false _ _ t)) ∙ sym (takes_none i c v (ltb-false _ _ t))) g

-- ---- a name
number_quoted : (raw : List ℕ) → is_quoted raw ≡ true → is_number raw ≡ false
unfolding is_quoted is_number is_digit class_of
number_quoted [] h = true_false h
number_quoted (x ∷ r) h = let e : x ≡ 34 = eqb-true _ _ h in rw e

pub named_number : {text : List ℕ} {p p' : Parsed} {a : ℕ} (i c : ℕ) (raw : List ℕ) → is_number raw ≡ true → Gives (takes i c (value_of 0 raw)) a text p p' → Gives (named i c (raw_word raw)) a text p p'
unfolding named raw_word
named_number {text} {p} {p'} {a} i c raw h g = go (is_quoted raw) refl
  where
    go : (b : Bool) → is_quoted raw ≡ b → Gives (named i c (elim b [ true ↦ quoted (inner raw) | false ↦ plain raw ])) a text p p'
    go true e = true_false (sym (number_quoted raw e) ∙ h)
    go false e = rw (named, h) g

pub named_other : {text : List ℕ} {p : Parsed} (i c : ℕ) (raw : List ℕ) → is_number raw ≡ false → Gives (named i c (raw_word raw)) c text p p
unfolding named raw_word
named_other {text} {p} i c raw h = go (is_quoted raw)
  where
    go : (b : Bool) → Gives (named i c (elim b [ true ↦ quoted (inner raw) | false ↦ plain raw ])) c text p p
    go true = g_done
    go false = rw (named, h) g_done

pub named_as : {text : List ℕ} {p p' : Parsed} {a : ℕ} (i c : ℕ) {l raw : List ℕ} → raw ≡ l → Gives (named i c (raw_word l)) a text p p' → Gives (named i c (raw_word raw)) a text p p'
named_as {text} {p} {p'} {a} i c e g = subst (λ (n : List ℕ). Gives (named i c (raw_word n)) a text p p') (sym e) g

-- ---- the digits of a name
-- those up to i are read
pub record Digits (raw : List ℕ) (i v : ℕ) : Type 0 where
  pub acc : ℕ
  pub near : Near acc v
  pub all : is_number raw ≡ is_number (drop i raw)
  pub worth : value_of 0 raw ≡ value_of acc (drop i raw)

pub digits_none : (raw : List ℕ) → Digits raw 0 0
digits_none raw = record { acc = 0; near = record { low = λ l. refl; high = λ h. absurd (omega arith) }; all = refl; worth = refl }

no_underscore : (x : ℕ) → class_of x < 10 → x ≡ 95 → ⊥
unfolding class_of
no_underscore x h e = let k : class_of 95 < 10 = subst (λ (y : ℕ). class_of y < 10) e h in omega arith

near_more : (a v d r : ℕ) → Near a v → r ≡ pick (ltb v 4294967296) (v * 10 + d) v → Near (a * 10 + d) r
near_more a v d r n e = go (ltb v 4294967296) refl
  where
    go : (b : Bool) → ltb v 4294967296 ≡ b → Near (a * 10 + d) r
    go true t =
        let s : r ≡ v * 10 + d = e ∙ rw t in
        let l : a ≡ v = n.low (ltb-true _ _ t) in
        record { low = λ h. omega arith; high = λ h. omega arith }
    go false t =
        let s : r ≡ v = e ∙ rw t in
        let h : 4294967296 ≤ v = ltb-false _ _ t in
        let k : 4294967296 ≤ a = n.high h in
        record { low = λ l. absurd (omega arith); high = λ l. omega arith }

module _ (raw : List ℕ) (i d : ℕ) (h : i < length raw) (e : d ≡ class_of (get_or raw i 0)) {v : ℕ} (n : Digits raw i v) where
  more : class_of (get_or raw i 0) < 10 → pick (eqb (get_or raw i 0) 95) n.acc (n.acc * 10 + class_of (get_or raw i 0)) ≡ n.acc * 10 + d
  more k = rw (ne_eqb _ _ (no_underscore _ k), e)

  pub digits_more : d < 10 → {r : ℕ} → r ≡ pick (ltb v 4294967296) (v * 10 + d) v → Digits raw (i + 1) r
  unfolding is_number is_digit value_of
  digits_more l {r} s =
      let k : class_of (get_or raw i 0) < 10 = omega arith in
      record {
        acc = n.acc * 10 + d;
        near = near_more n.acc v d r n.near s;
        all = n.all ∙ rw (drop_next raw i h, lt-ltb _ _ k);
        worth = n.worth ∙ ap (value_of n.acc) (drop_next raw i h) ∙ ap (λ (a : ℕ). value_of a (drop (i + 1) raw)) (more k);
      }

  pub digits_not : 10 ≤ d → NumberIs raw None
  unfolding is_number is_digit
  digits_not l =
      let k : 10 ≤ class_of (get_or raw i 0) = omega arith in
      record { all = sym (n.all ∙ rw (drop_next raw i h, le-ltb _ _ k)); worth = λ v e. cc }

pub digits_all : (raw : List ℕ) (i : ℕ) {v : ℕ} → length raw ≤ i → Digits raw i v → NumberIs raw (Some v)
unfolding is_number value_of
digits_all raw i {v} h n =
    let z : drop i raw ≡ [] = drop_of_length-le raw h in
    record { all = sym (n.all ∙ rw z); worth = λ w t. let e : v ≡ w = cc in subst (λ (a : ℕ). Near a w) (sym (n.worth ∙ rw z)) (subst (Near n.acc) e n.near) }
