-- The counter (02: M-106): each program that moves it refuses inside the text; no number makes it less, nor more than 2^32; and a name lies where it was read.
-- Assumes nothing.
use Rattle.std.specs.Prelude.{◌≡◌, refl, Bool, true, false, ◌&&◌, ℕ, ◌+◌, ◌≤◌, ltb, leb}
use Rattle.std.proofs.Common.{arith, ltb-true, leb-true}
use Rattle.program.specs.Local.{and_left}
use Rattle.program.specs.Prog.{ret, fail}
use Rattle.records.specs.Limits.{counter_limit}
use Rattle.records.specs.Questions.{q_counter}
use Rattle.grammar.specs.Lexer.{Word, plain, quoted}
use Rattle.grammar.specs.Numbers.{value_of}
use Rattle.grammar.specs.Counter.{Counted, counter_of, item_of, takes, takes_next, is_number, named, counted_name}
use Rattle.trees.specs.Forms.{NameIn}
use Rattle.theorem_refusals.specs.Inside.{Scope, and_right, Inside, gives, then_with, fails, either}
use Rattle.theorem_refusals.specs.Lexer.{in_place, word_here, in_name_of}

-- From the counter c on: d is not below it, and at most 2^32 where c is. An older directory may begin a reading with any c that question 22 lets
-- through.
abbrev pub From : (c d : ℕ) → Type 0
From c d = (c ≤ d) × (c ≤ counter_limit → d ≤ counter_limit)

pub stays : (c : ℕ) → From c c
stays c = (omega arith, λ l. l)

pub goes_on : {b c d : ℕ} → From b c → From c d → From b d
goes_on h k = (omega (arith, h.0, k.0), λ l. k.1 (h.1 l))

-- the counter behind what was read
abbrev pub Counts : {A : Type 0} → ℕ → Counted A → Type 0
Counts c x = From c (counter_of x)

pub in_takes : {n : Scope} (i c v : ℕ) → i ≤ n.size → Inside n (From c) (takes i c v)
unfolding takes
in_takes {n} i c v l = go (leb c v && ltb v counter_limit) refl
  where
    go : (b : Bool) → (leb c v && ltb v counter_limit) ≡ b → Inside {A = ℕ} n (From c) (elim b [ true ↦ ret (v + 1) | false ↦ fail q_counter i ])
    go true e =
        let a : c ≤ v = leb-true c v (and_left (leb c v) (ltb v counter_limit) e) in
        let b : v + 1 ≤ counter_limit = omega (arith, ltb-true v counter_limit (and_right (leb c v) (ltb v counter_limit) e)) in
        gives (omega (arith, a), λ _. b)
    go false e = fails 26 i tt l

pub in_takes_next : {n : Scope} (i c : ℕ) → i ≤ n.size → Inside n (From c) (takes_next i c)
unfolding takes_next
in_takes_next i c l = in_takes i c c l

pub in_named : {n : Scope} (i c : ℕ) (w : Word) → i ≤ n.size → Inside n (From c) (named i c w)
unfolding named
in_named i c (plain w) l = either (is_number w) (in_takes i c (value_of 0 w) l) (gives (stays c))
in_named i c (quoted w) l = gives (stays c)

pub in_counted_name : {n : Scope} (c : ℕ) → Inside n (λ x. Counts c x × NameIn n.limit (item_of x)) (counted_name c)
unfolding counted_name
in_counted_name c =
    word_here λ i _ w b. then_with (in_name_of i w b) λ x p. then_with in_place λ j l. then_with (in_named j c w l) λ d h. gives (h, p)
