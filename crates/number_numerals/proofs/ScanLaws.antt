-- Digits alone, and their value: the scan of digits and its sum go one byte on together, so where the scan stops the sum is the value of all digits
-- passed.
-- Assumes nothing.
use mathlib.Core.Path.{◌≡◌, refl, sym, ap, ◌∙◌}
use mathlib.Core.List.{List}
use mathlib.Core.Bool.{true, false}
use mathlib.Core.Option.{none, some}
use Prim.Native.Nat.{ℕ, ◌+◌, ◌*◌, ◌≤◌, ◌<◌}
use native.Mathlib.Omega.{arith}
use lib.ListN.{length, get_or, drop, length-drop, drop_of_length-le}
use borrow.Author.Tests.{ne_eqb, lt-ltb, le-ltb, lt-leb}
use Rattle.program.specs.Class.{class_of, is_digit, is_name}
use Rattle.program.specs.Prog.{ret, run, ok, scan_len, byte_at}
use Rattle.program.specs.Local.{scan_len_le}
use Rattle.grammar.specs.Numbers.{digit_step, value_of, digits}
use Rattle.lexer.specs.Step.{taken}
use Rattle.program.specs.Lists.{drop_next}
use Rattle.lexer.proofs.Folding.{FoldsTo, Folding, folding_start, folding_out, folding_stop, folding_more}
use Rattle.lexer.proofs.Laws.{scan_run, true_false}
use Rattle.number_numerals.specs.Scans.{ShortAt}

-- ---- digits: d is the class of the byte at i
no_score : is_digit 95 ≡ false
unfolding is_digit class_of
no_score = refl

digital : (x d : ℕ) → d ≡ class_of x → d < 10 → is_digit x ≡ true
unfolding is_digit
digital x d e h = rw (← e, lt-ltb _ _ h)

other : (x d : ℕ) → d ≡ class_of x → 10 ≤ d → is_digit x ≡ false
unfolding is_digit
other x d e h = rw (← e, le-ltb _ _ h)

step_digit : (q x : ℕ) → is_digit x ≡ true → digit_step q x ≡ some 1
unfolding digit_step
step_digit q x e = rw e

step_stop : (q x : ℕ) → is_digit x ≡ false → (x ≡ 95 → ⊥) → digit_step q x ≡ none
unfolding digit_step
step_stop q x e n = rw (e, ne_eqb _ _ n)

-- ---- digits alone, and their value: the scan goes on from i in some state, and its value from v
pub record Summing (text : List ℕ) (at i v : ℕ) : Type 0 where
  pub q : ℕ
  pub going : Folding digit_step value_of text at 0 i q v

-- `_` is a byte of a name, and the text's end is none
score_named : 18 ≤ class_of 95 → ⊥
unfolding class_of
score_named h = omega arith

name_out : (text : List ℕ) (i : ℕ) → length text ≤ i → is_name (byte_at (drop i text)) ≡ false
unfolding is_name byte_at class_of
name_out text i h = rw (drop_of_length-le text h)

name_none : (text : List ℕ) (i d : ℕ) → i < length text → d ≡ class_of (get_or text i 0) → 18 ≤ d → is_name (byte_at (drop i text)) ≡ false
unfolding is_name byte_at
name_none text i d h e k = rw (drop_next text i h, ← e, lt-leb _ _ k)

pub short_start : (text : List ℕ) (at : ℕ) → Summing text at at 0
short_start text at = record { q = 0; going = folding_start digit_step value_of text at 0 }

module _ {text : List ℕ} {at i v : ℕ} (a : Summing text at i v) where
  short_out : length text ≤ i → at < i → ShortAt text at i v
  unfolding value_of
  short_out h k =
      let f : FoldsTo digit_step value_of text at 0 i v = folding_out digit_step value_of text at 0 i a.q v a.going refl h in
      record { some = k; place = f.place; value = f.state; ends = name_out text i h }

  -- where a loop over the places from `at` on ends
  pub short_past : length text ≤ i → at ≤ i → at < length text → ShortAt text at (length text) v
  short_past h l k =
      let d : length text ≡ i = omega (arith, a.going.place, scan_len_le digit_step 0 (drop at text), length-drop at text) in
      rw d (short_out h (omega arith))

  module _ {d : ℕ} (h : i < length text) (e : d ≡ class_of (get_or text i 0)) where
    pub short_more : {u : ℕ} → d < 10 → u ≡ v * 10 + d → Summing text at (i + 1) u
    unfolding value_of
    short_more {u} k n =
        let z : is_digit (get_or text i 0) ≡ true = digital _ d e (omega arith) in
        let o : (get_or text i 0 ≡ 95 → ⊥) = λ x. true_false (sym no_score ∙ (rw x at z)) in
        record { q = 1; going = folding_more digit_step value_of text at 0 i a.q v a.going 1 u (λ l. rw (ne_eqb _ _ o, ← e, ← n)) h (step_digit a.q _ z) }

    pub short_stop : 18 ≤ d → at < i → ShortAt text at i v
    unfolding value_of
    short_stop k m =
        let o : (get_or text i 0 ≡ 95 → ⊥) = λ x. score_named (rw (← x, ← e) k) in
        let f : FoldsTo digit_step value_of text at 0 i v = folding_stop digit_step value_of text at 0 i a.q v a.going refl h (step_stop a.q _ (other _ d e (omega arith)) o) in
        record { some = m; place = f.place; value = f.state; ends = name_none text i d h e k }

-- ---- the digits at the cursor
pub digits_run : (text : List ℕ) (at i : ℕ) → i ≡ at + scan_len digit_step 0 (drop at text) → run digits at (drop at text) ≡ ok (taken digit_step 0 (drop at text)) i
unfolding digits run
digits_run text at i e = scan_run digit_step 0 ret text at ∙ ap (ok (taken digit_step 0 (drop at text))) (sym e)
