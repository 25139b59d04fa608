-- What the lexer's definitions say at a place of a text: the text from i on is its byte at i and the text from i + 1 on (`drop_next`).
-- Assumes nothing.
use mathlib.Core.Path.{◌≡◌, refl, sym, ap, ◌∙◌}
use mathlib.Core.List.{List, [], ◌∷◌}
use mathlib.Core.Bool.{Bool, true, false, ◌&&◌}
use mathlib.Core.Option.{Option, none, some}
use Prim.Native.Nat.{ℕ, ◌+◌, ◌≤◌, ◌<◌}
use native.Mathlib.Nat.{add-zero}
use native.Mathlib.Omega.{arith}
use lib.ListN.{length, get_or, drop, length-drop, drop_of_length-le}
use Rattle.std.proofs.Math.Nat.{le-max_left, le-max_right, max-le}
use Rattle.program.specs.Local.{scan_len_le}
use lib.Dec.{ltb, leb, eqb}
use borrow.Author.Tests.{eq-eqb, ne_eqb, lt-ltb, le-ltb, le-leb, lt-leb, leb-true, leb-false, ltb-true, ltb-false, eqb-true}
use Rattle.program.specs.Lists.{drop_next}
use Rattle.program.specs.Class.{class_of, is_word, is_space}
use Rattle.program.specs.Prog.{byte_at, lead_word, scan_len}
use Rattle.grammar.specs.Lexer.{is_byte, same_word, starts_with, state_of, space_step}
use Rattle.std.specs.Prelude.{Some, None, max}
use Rattle.lexer.specs.Step.{step_of, taken, StopAt}

pub byte_in : (s : List ℕ) (i b : ℕ) → b < 256 → i < length s → is_byte b (byte_at (drop i s)) ≡ eqb (get_or s i 0) b
unfolding is_byte byte_at
byte_in s i b k h = rw (drop_next s i h, lt-ltb _ _ k)

pub byte_out : (s : List ℕ) (i b : ℕ) → b < 256 → length s ≤ i → is_byte b (byte_at (drop i s)) ≡ false
unfolding is_byte byte_at
byte_out s i b k h =
    let n : (256 ≡ b → ⊥) = λ e. omega arith in
    rw (drop_of_length-le s h, lt-ltb _ _ k, ne_eqb _ _ n)

-- an automaton's steps
pub scan_out : (f : ℕ → ℕ → Option ℕ) (s : List ℕ) (i q : ℕ) → length s ≤ i → i + scan_len f q (drop i s) ≡ i
unfolding scan_len
scan_out f s i q h = rw (drop_of_length-le s h) (add-zero i)

pub scan_stop : (f : ℕ → ℕ → Option ℕ) (s : List ℕ) (i q : ℕ) → i < length s → f q (get_or s i 0) ≡ none → i + scan_len f q (drop i s) ≡ i
unfolding scan_len
scan_stop f s i q h z = rw (drop_next s i h, scan_len, z) (omega arith)

pub scan_some : (f : ℕ → ℕ → Option ℕ) (s : List ℕ) (i q r : ℕ) → i < length s → f q (get_or s i 0) ≡ some r → i + scan_len f q (drop i s) ≡ i + 1 + scan_len f r (drop (i + 1) s)
unfolding scan_len
scan_some f s i q r h z = rw (drop_next s i h, scan_len, z) (omega arith)

-- keywords: r is the class of the byte at i
pub wordy : (x r : ℕ) → r ≡ class_of x → r ≤ 16 → is_word x ≡ true
unfolding is_word
wordy x r e h = rw (← e, le-leb _ _ h)

pub wordless : (x r : ℕ) → r ≡ class_of x → 16 < r → is_word x ≡ false
unfolding is_word
wordless x r e h = rw (← e, lt-leb _ _ h)

and_false : (a : Bool) → (a && false) ≡ false
and_false true = refl
and_false false = refl

-- ---- a keyword: a word that begins with it and ends with it
no_bool : {A : Type 0} → ◌≡◌ {A = Bool} false true → A
no_bool e = absurd (let z : ◌≡◌ {A = ℕ} 0 1 = cc in omega arith)

both_true : (a b : Bool) → (a && b) ≡ true → (a ≡ true) × (b ≡ true)
both_true true b e = (refl, e)
both_true false b e = no_bool e

-- the word begins with another one
pub not_begun : (k s : List ℕ) → starts_with k (lead_word s) ≡ false → same_word (lead_word s) k ≡ false
unfolding starts_with lead_word same_word
not_begun [] s e = no_bool (sym e)
not_begun (y ∷ k) [] e = refl
not_begun (y ∷ k) (x ∷ s) e = go (is_word x) (not_begun k s) e
  where
    go : (b : Bool) → (starts_with k (lead_word s) ≡ false → same_word (lead_word s) k ≡ false) → starts_with (y ∷ k) (elim b [ true ↦ x ∷ lead_word s | false ↦ [] ]) ≡ false → same_word (elim b [ true ↦ x ∷ lead_word s | false ↦ [] ]) (y ∷ k) ≡ false
    go true i t = two (eqb y x) refl t
      where
        two : (z : Bool) → eqb y x ≡ z → (z && starts_with k (lead_word s)) ≡ false → (eqb x y && same_word (lead_word s) k) ≡ false
        two true h u = rw (i u) (and_false (eqb x y))
        two false h u = let n : (x ≡ y → ⊥) = λ q. no_bool (sym h ∙ eq-eqb y x (sym q)) in rw (ne_eqb _ _ n)
    go false i t = refl

-- behind the keyword: r is the class of the next byte, or the text ends
pub begun_in : (k s : List ℕ) (r : ℕ) → starts_with k (lead_word s) ≡ true → length k < length s → r ≡ class_of (get_or s (length k) 0) → same_word (lead_word s) k ≡ ltb 16 r
unfolding starts_with lead_word same_word is_word
begun_in k [] r e h c = absurd (omega arith)
begun_in [] (x ∷ s) r e h c = rw c (go (leb (class_of x) 16) refl)
  where
    go : (b : Bool) → leb (class_of x) 16 ≡ b → same_word (elim b [ true ↦ x ∷ lead_word s | false ↦ [] ]) [] ≡ ltb 16 (class_of x)
    go true t = sym (le-ltb 16 _ (leb-true _ 16 t))
    go false t = sym (lt-ltb 16 _ (leb-false _ 16 t))
begun_in (y ∷ k) (x ∷ s) r e h c = go (leb (class_of x) 16) (λ u. begun_in k s r u (omega arith) c) e
  where
    go : (b : Bool) → (starts_with k (lead_word s) ≡ true → same_word (lead_word s) k ≡ ltb 16 r) → starts_with (y ∷ k) (elim b [ true ↦ x ∷ lead_word s | false ↦ [] ]) ≡ true → same_word (elim b [ true ↦ x ∷ lead_word s | false ↦ [] ]) (y ∷ k) ≡ ltb 16 r
    go true i t =
        let u = both_true (eqb y x) (starts_with k (lead_word s)) t in
        let q : x ≡ y = sym (eqb-true y x u.0) in
        rw (eq-eqb x y q) (i u.1)
    go false i t = no_bool t

pub begun_out : (k s : List ℕ) → starts_with k (lead_word s) ≡ true → length s ≤ length k → same_word (lead_word s) k ≡ true
unfolding starts_with lead_word same_word is_word
begun_out [] [] e h = refl
begun_out [] (x ∷ s) e h = absurd (omega arith)
begun_out (y ∷ k) [] e h = no_bool e
begun_out (y ∷ k) (x ∷ s) e h = go (leb (class_of x) 16) (λ u. begun_out k s u (omega arith)) e
  where
    go : (b : Bool) → (starts_with k (lead_word s) ≡ true → same_word (lead_word s) k ≡ true) → starts_with (y ∷ k) (elim b [ true ↦ x ∷ lead_word s | false ↦ [] ]) ≡ true → same_word (elim b [ true ↦ x ∷ lead_word s | false ↦ [] ]) (y ∷ k) ≡ true
    go true i t =
        let u = both_true (eqb y x) (starts_with k (lead_word s)) t in
        let q : x ≡ y = sym (eqb-true y x u.0) in
        rw (eq-eqb x y q) (i u.1)
    go false i t = no_bool t

-- where a loop over the places from `at` on ends, which an automaton has passed from there
pub end_at : (f : ℕ → ℕ → Option ℕ) (q : ℕ) (s : List ℕ) {at i m : ℕ} → at ≤ i → length s ≤ i → m ≡ max at (length s) → at + scan_len f q (drop at s) ≡ i → m ≡ i
end_at f q s {at} {i} {m} l h e g =
    let a : at ≤ max at (length s) = le-max_left at (length s) in
    let b : length s ≤ max at (length s) = le-max_right at (length s) in
    let c : max at (length s) ≤ i = max-le l h in
    omega (arith, scan_len_le f q (drop at s), length-drop at s)

-- an automaton and the state in which it stops
pub record Going (f : ℕ → ℕ → Option ℕ) (text : List ℕ) (at i q : ℕ) : Type 0 where
  pub place : at + scan_len f 0 (drop at text) ≡ i + scan_len f q (drop i text)
  pub state : state_of f 0 (taken f 0 (drop at text)) ≡ state_of f q (taken f q (drop i text))

module _ (f : ℕ → ℕ → Option ℕ) (text : List ℕ) (at : ℕ) where
  pub going_start : Going f text at at 0
  going_start = record { place = refl; state = refl }

  module _ (i q : ℕ) where
    taken_more : (r : ℕ) → i < length text → f q (get_or text i 0) ≡ some r → state_of f q (taken f q (drop i text)) ≡ state_of f r (taken f r (drop (i + 1) text))
    unfolding scan_len state_of
    taken_more r h z = rw (drop_next text i h, scan_len, z, state_of, z)

    taken_stop : i < length text → f q (get_or text i 0) ≡ none → state_of f q (taken f q (drop i text)) ≡ q
    unfolding scan_len state_of
    taken_stop h z = rw (drop_next text i h, scan_len, z)

    taken_out : length text ≤ i → state_of f q (taken f q (drop i text)) ≡ q
    unfolding scan_len state_of
    taken_out h = rw (drop_of_length-le text h)

    pub going_more : (r : ℕ) → i < length text → f q (get_or text i 0) ≡ some r → Going f text at i q → Going f text at (i + 1) r
    going_more r h z g = record {
      place = g.place ∙ scan_some f text i q r h z;
      state = g.state ∙ taken_more r h z;
    }

    pub going_stop : i < length text → f q (get_or text i 0) ≡ none → Going f text at i q → StopAt f text at (record { at = i; q = q })
    going_stop h z g = record {
      place = sym (g.place ∙ scan_stop f text i q h z);
      state = sym (g.state ∙ taken_stop h z);
    }

    pub going_out : length text ≤ i → Going f text at i q → StopAt f text at (record { at = i; q = q })
    going_out h g = record {
      place = sym (g.place ∙ scan_out f text i q h);
      state = sym (g.state ∙ taken_out h);
    }

    -- the same, as a loop over the places has it at its end
    pub going_past : {m : ℕ} → at ≤ i → length text ≤ i → m ≡ max at (length text) → Going f text at i q → StopAt f text at (record { at = m; q = q })
    going_past {m} l h e g =
        let d : m ≡ i = end_at f 0 text l h e (g.place ∙ scan_out f text i q h) in
        rw d (going_out h g)

-- a step of the code, as the automaton's
pub passed_none : {o : Option ℕ} → step_of None ≡ o → o ≡ none
passed_none e = sym e

pub passed_some : {o : Option ℕ} {q : ℕ} → step_of (Some q) ≡ o → o ≡ some q
passed_some e = sym e

-- a byte that is there is inside the text
pub byte_inside : (s : List ℕ) (i b : ℕ) → is_byte b (byte_at (drop i s)) ≡ true → i < length s
unfolding is_byte byte_at
byte_inside s i b e = go (ltb i (length s)) refl
  where
    go : (z : Bool) → ltb i (length s) ≡ z → i < length s
    go true t = ltb-true _ _ t
    go false t =
        let h : is_byte b 256 ≡ true = rw (drop_of_length-le s (ltb-false i (length s) t)) at e in
        absurd (no_end (ltb b 256) refl h)
      where
        no_end : (z : Bool) → ltb b 256 ≡ z → (z && eqb 256 b) ≡ true → ⊥
        no_end true u k =
            let l : b < 256 = ltb-true _ _ u in
            let q : 256 ≡ b = eqb-true _ _ k in
            omega arith
        no_end false u k = let z : ◌≡◌ {A = ℕ} 0 1 = cc in omega arith

-- no comment begins with white space
spaceless : 18 ≡ class_of 59 → ⊥
unfolding class_of
spaceless e = absurd (omega arith)

-- ---- white space: r is the class of the byte at i
module _ (s : List ℕ) (i r : ℕ) (h : i < length s) (e : r ≡ class_of (get_or s i 0)) where
  pub space_more : r ≡ 18 → i + scan_len space_step 0 (drop i s) ≡ i + 1 + scan_len space_step 0 (drop (i + 1) s)
  unfolding space_step is_space
  space_more k =
      let n : (get_or s i 0 ≡ 59 → ⊥) = λ x. spaceless (sym k ∙ (e ∙ ap class_of x)) in
      scan_some space_step s i 0 0 h (rw (ne_eqb _ _ n, ← e, eq-eqb _ _ k))

  pub space_stop : (r ≡ 18 → ⊥) → (get_or s i 0 ≡ 59 → ⊥) → i + scan_len space_step 0 (drop i s) ≡ i
  unfolding space_step is_space
  space_stop k n = scan_stop space_step s i 0 h (rw (ne_eqb _ _ n, ← e, ne_eqb _ _ k))
