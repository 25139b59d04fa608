-- The laws of the tests at the cursor, for programs that write: a test reads only, so what holds behind it holds with it.
-- Assumes nothing.
use mathlib.Core.Path.{◌≡◌, refl, sym, ap, ◌∙◌, subst}
use mathlib.Core.List.{List, [], ◌∷◌}
use mathlib.Core.Bool.{Bool, true, false, ◌&&◌}
use Prim.Native.Nat.{ℕ, suc, ◌+◌, ◌*◌, ◌≤◌, ◌<◌}
use native.Mathlib.Omega.{arith}
use lib.Dec.{ltb, eqb}
use lib.ListN.{length, get_or, drop, drop_of_length-le}
use borrow.Author.Tests.{eq-eqb, ne_eqb, eqb-true}
use Rattle.program.specs.Class.{class_of, is_digit, is_word, is_name}
use Rattle.program.specs.Prog.{Prog, Res, run, byte_at, lead_word}
use Rattle.grammar.specs.Lexer.{is_byte, byte_if, starts_with, eat_n}
use Rattle.grammar.specs.Values.{prefix_if, digit_if}
use Rattle.lexer.specs.Step.{looks_p, passed}
use Rattle.lexer.specs.Reads.{Leads, Goal}
use Rattle.lexer.specs.declared.Cursor.{Cursor}
use Rattle.lexer.specs.Parsed.{Parsed, Ok, Err}
use Rattle.program.specs.Lists.{drop_next}
use Rattle.lexer.proofs.Scan.{wordy, wordless}
use Rattle.lexer.proofs.Laws.{moved, run_eat_n, true_false, byte_no}
use Rattle.lexer.specs.Tests.{starts_p, digit_p}

-- ---- kw byte by byte: r is the class of the byte at i
module _ (k s : List ℕ) (j i : ℕ) (hj : j < length k) where
  pub start_short : length s ≤ i → starts_with (drop j k) (lead_word (drop i s)) ≡ false
  unfolding starts_with lead_word
  start_short hi = rw (drop_next k j hj, drop_of_length-le s hi)

  module _ (hi : i < length s) where
    pub start_other : (get_or s i 0 ≡ get_or k j 0 → ⊥) → starts_with (drop j k) (lead_word (drop i s)) ≡ false
    unfolding starts_with lead_word
    start_other q = rw (drop_next k j hj, drop_next s i hi) (go (is_word (get_or s i 0)))
      where
        n : get_or k j 0 ≡ get_or s i 0 → ⊥
        n e = q (sym e)

        go : (b : Bool) → starts_with (get_or k j 0 ∷ drop (j + 1) k) (elim b [ true ↦ get_or s i 0 ∷ lead_word (drop (i + 1) s) | false ↦ [] ]) ≡ false
        go true = rw (ne_eqb _ _ n)
        go false = refl

    pub start_ends : (r : ℕ) → r ≡ class_of (get_or s i 0) → 16 < r → starts_with (drop j k) (lead_word (drop i s)) ≡ false
    unfolding starts_with lead_word
    start_ends r e h =
        let z : is_word (get_or s i 0) ≡ false = wordless _ r e h in
        rw (drop_next k j hj, drop_next s i hi, lead_word, z)

    pub start_more : (r : ℕ) → r ≡ class_of (get_or s i 0) → r ≤ 16 → get_or s i 0 ≡ get_or k j 0 → starts_with (drop j k) (lead_word (drop i s)) ≡ starts_with (drop (j + 1) k) (lead_word (drop (i + 1) s))
    unfolding starts_with lead_word
    start_more r e h q =
        let z : is_word (get_or s i 0) ≡ true = wordy _ r e h in
        rw (drop_next k j hj, drop_next s i hi, lead_word, z, eq-eqb _ _ (sym q))

pub start_out : (k s : List ℕ) (i : ℕ) → length s ≤ i → starts_with k (lead_word (drop i s)) ≡ eqb (length k) 0
unfolding starts_with lead_word
start_out [] s i h = refl
start_out (x ∷ k) s i h = rw (drop_of_length-le s h) (sym (ne_eqb _ _ (λ e. omega arith)))

pub start_end : (k w : List ℕ) (j : ℕ) → length k ≤ j → starts_with (drop j k) w ≡ true
unfolding starts_with
start_end k w j h = rw (drop_of_length-le k h)

-- ---- a digit at a place
pub digit_in : (s : List ℕ) (i r : ℕ) → i < length s → r ≡ class_of (get_or s i 0) → is_digit (byte_at (drop i s)) ≡ ltb r 10
unfolding is_digit byte_at
digit_in s i r h e = rw (drop_next s i h, e)

pub digit_out : (s : List ℕ) (i : ℕ) → length s ≤ i → is_digit (byte_at (drop i s)) ≡ false
unfolding is_digit byte_at class_of
digit_out s i h = rw (drop_of_length-le s h)

-- ---- what a test of the code says of the text under the cursor
begun : (text : List ℕ) {p : Parsed} {cur : Cursor} (kw : List ℕ) {r z : Bool} → r ≡ starts_p text p kw → r ≡ z → p ≡ Ok cur → starts_with kw (lead_word (drop cur.at text)) ≡ z
begun text kw e y t = rw t at (sym e ∙ y)

digital : (text : List ℕ) {p : Parsed} {cur : Cursor} {r z : Bool} → r ≡ digit_p text p → r ≡ z → p ≡ Ok cur → is_digit (byte_at (drop cur.at text)) ≡ z
digital text e y t = rw t at (sym e ∙ y)

pub some_start : (kw s : List ℕ) → starts_with kw (lead_word s) ≡ true → length kw ≤ length s
unfolding starts_with lead_word
some_start [] s e = omega arith
some_start (k ∷ ks) [] e = true_false e
some_start (k ∷ ks) (x ∷ s) e = go (is_word x) (some_start ks s) e
  where
    two : (d : Bool) → (starts_with ks (lead_word s) ≡ true → length ks ≤ length s) → (d && starts_with ks (lead_word s)) ≡ true → suc (length ks) ≤ suc (length s)
    two true h e = omega (arith, h e)
    two false h e = true_false e

    go : (b : Bool) → (starts_with ks (lead_word s) ≡ true → length ks ≤ length s) → starts_with (k ∷ ks) (elim b [ true ↦ x ∷ lead_word s | false ↦ [] ]) ≡ true → suc (length ks) ≤ suc (length s)
    go true h e = two (eqb k x) h e
    go false h e = true_false e

prefix_run : {A : Type 0} (kw : List ℕ) (f g : Prog A) (text : List ℕ) (i : ℕ) (z : Bool) → starts_with kw (lead_word (drop i text)) ≡ z → run (prefix_if kw f g) i (drop i text) ≡ run (elim z [ true ↦ eat_n (length kw) f | false ↦ g ]) i (drop i text)
unfolding run prefix_if
prefix_run kw f g text i z e = ap (λ (y : Bool). run (elim y [ true ↦ eat_n (length kw) f | false ↦ g ]) i (drop i text)) e

digit_run : {A : Type 0} (f g : Prog A) (text : List ℕ) (i : ℕ) (z : Bool) → is_digit (byte_at (drop i text)) ≡ z → run (digit_if f g) i (drop i text) ≡ run (elim z [ true ↦ f | false ↦ g ]) i (drop i text)
unfolding run digit_if
digit_run f g text i z e = ap (λ (y : Bool). run (elim y [ true ↦ f | false ↦ g ]) i (drop i text)) e

module _ {A : Type 0} {mid : List ℕ} {E : Goal A} {text : List ℕ} {p0 : Parsed} {p' : Parsed} {w w' : List ℕ} {c : ℕ} {p : Parsed} where
  pub prefix_yes : {f : Prog A} (kw : List ℕ) (g : Prog A) {q : Parsed} {r : Bool} → r ≡ starts_p text p kw → r ≡ true → q ≡ passed text (length kw) p → Leads f (c + 3 * length kw) mid E text p0 q w p' w' → Leads (prefix_if kw f g) c mid E text p0 p w p' w'
  prefix_yes {f} kw g {q} e y i h = record {
    runs = λ o low k cur t a.
        let z : starts_with kw (lead_word (drop cur.at text)) ≡ true = begun text kw e y t in
        let l : length kw ≤ length (drop cur.at text) = some_start kw (drop cur.at text) z in
        subst (λ (v : Res A). E.ends o k low v p' w') (sym (prefix_run kw f g text cur.at true z ∙ run_eat_n (length kw) f text cur.at l)) (moved c (length kw) (c + 3 * length kw) cur (i ∙ ap (passed text (length kw)) t) l (omega arith) o low k a h);
    hands = λ n x t. true_false (rw t at (sym e ∙ y));
  }

  pub prefix_no : {g : Prog A} (kw : List ℕ) (f : Prog A) {r : Bool} → r ≡ starts_p text p kw → r ≡ false → Leads g c mid E text p0 p w p' w' → Leads (prefix_if kw f g) c mid E text p0 p w p' w'
  prefix_no {g} kw f e y h = record {
    runs = λ o low k cur t a. subst (λ (v : Res A). E.ends o k low v p' w') (sym (prefix_run kw f g text cur.at false (begun text kw e y t))) (h.runs o low k cur t a);
    hands = h.hands;
  }

  pub digit_yes : {f : Prog A} (g : Prog A) {r : Bool} → r ≡ digit_p text p → r ≡ true → Leads f c mid E text p0 p w p' w' → Leads (digit_if f g) c mid E text p0 p w p' w'
  digit_yes {f} g e y h = record {
    runs = λ o low k cur t a. subst (λ (v : Res A). E.ends o k low v p' w') (sym (digit_run f g text cur.at true (digital text e y t))) (h.runs o low k cur t a);
    hands = h.hands;
  }

  pub digit_no : {g : Prog A} (f : Prog A) {r : Bool} → r ≡ digit_p text p → r ≡ false → Leads g c mid E text p0 p w p' w' → Leads (digit_if f g) c mid E text p0 p w p' w'
  digit_no {g} f e y h = record {
    runs = λ o low k cur t a. subst (λ (v : Res A). E.ends o k low v p' w') (sym (digit_run f g text cur.at false (digital text e y t))) (h.runs o low k cur t a);
    hands = h.hands;
  }

-- ---- what one test says of another
is_byte_lem : (b x : ℕ) → is_byte b x ≡ true → x ≡ b
unfolding is_byte
is_byte_lem b x e = go (ltb b 256) e
  where
    go : (z : Bool) → (z && eqb x b) ≡ true → x ≡ b
    go true h = eqb-true _ _ h
    go false h = true_false h

off : (z : Bool) → (z ≡ true → ⊥) → z ≡ false
off true h = absurd (h refl)
off false h = refl

digit_other : (b : ℕ) → is_digit b ≡ false → (text : List ℕ) (p : Parsed) → digit_p text p ≡ true → looks_p text p b ≡ false
digit_other b n text (Ok c) h = off _ (λ z. let o : is_digit b ≡ true = rw (is_byte_lem b (byte_at (drop c.at text)) z) at h in true_false (sym n ∙ o))
digit_other b n text (Err r) h = refl

-- what is no byte of a name is none of these
pub name_other : (b x : ℕ) → is_name b ≡ true → is_name x ≡ false → is_byte b x ≡ false
name_other b x n h = off _ (λ z. true_false (sym (rw (is_byte_lem b x z) at h) ∙ n))

byte_other : (a b : ℕ) → is_byte b a ≡ false → (text : List ℕ) (p : Parsed) → looks_p text p a ≡ true → looks_p text p b ≡ false
byte_other a b n text (Ok c) h = rw (is_byte_lem a (byte_at (drop c.at text)) h) n
byte_other a b n text (Err r) h = refl

module _ {A : Type 0} {mid : List ℕ} {E : Goal A} {text : List ℕ} {p0 : Parsed} {p' : Parsed} {w w' : List ℕ} {c : ℕ} {p : Parsed} {g : Prog A} (b : ℕ) (f : Prog A) where
  -- a digit is no such byte
  pub digit_first : is_digit b ≡ false → {r : Bool} → r ≡ digit_p text p → r ≡ true → Leads g c mid E text p0 p w p' w' → Leads (byte_if b f g) c mid E text p0 p w p' w'
  digit_first n e y h = byte_no b f refl (digit_other b n text p (sym e ∙ y)) h

  -- nor is another byte
  pub byte_first : (a : ℕ) → is_byte b a ≡ false → {r : Bool} → r ≡ looks_p text p a → r ≡ true → Leads g c mid E text p0 p w p' w' → Leads (byte_if b f g) c mid E text p0 p w p' w'
  byte_first a n e y h = byte_no b f refl (byte_other a b n text p (sym e ∙ y)) h
