-- The digits at a place: each turn of the loop is one digit of `value_of`.
-- Assumes nothing.
use mathlib.Core.Path.{◌≡◌, refl, sym, ap, ◌∙◌}
use mathlib.Core.List.{List, [], ◌∷◌}
use mathlib.Core.Bool.{Bool, true, false, ◌&&◌}
use mathlib.Core.Option.{none, some}
use Prim.Native.Nat.{ℕ, zero, suc, ◌+◌, ◌*◌, ◌≤◌, ◌<◌}
use native.Mathlib.Omega.{arith}
use lib.ListN.{length, get_or, take, drop, drop_of_length-le}
use lib.Dec.{leb, eqb}
use borrow.Author.Tests.{le-leb, lt-leb, leb-true, leb-false, eq-eqb, ne_eqb}
use Rattle.program.specs.Choice.{pick}
use Rattle.program.specs.Class.{class_of}
use Rattle.program.specs.Prog.{ret, fail, ok, no_at, run, ◌>>=◌, scan_len}
use Rattle.program.specs.Local.{scan_len_le}
use Rattle.grammar.specs.Lexer.{refuse, place}
use Rattle.grammar.specs.Numbers.{digit_step, digits, value_of, number_of, parse_int}
use Rattle.records.specs.Limits.{number_limit}
use Rattle.lexer.specs.Step.{taken}
use Rattle.number_bits.specs.Number.{capped, shifted}
use Rattle.number_bits.proofs.Shifts.{small, shifted_more}
use Rattle.number_counts.specs.Number.{added, NumAt}
use Rattle.std.specs.Prelude.{max}
use Rattle.std.proofs.Common.{Option as Maybe, Some}
use Rattle.program.specs.Lists.{drop_next}
use Rattle.lexer.proofs.Scan.{scan_some, scan_stop, scan_out, end_at}
use Rattle.lexer.proofs.Laws.{scan_run}

pub add_none : (n : Maybe ℕ) (x : ℕ) → x ≡ 95 → n ≡ added n x
add_none n x e = rw (eq-eqb _ _ e)

pub add_some : (n r : Maybe ℕ) (x d : ℕ) → (x ≡ 95 → ⊥) → d ≡ class_of x → r ≡ shifted n d → r ≡ added n x
add_some n r x d e f s = rw (ne_eqb _ _ e, ← f) s

added_more : (a x : ℕ) → added (capped a) x ≡ capped (pick (eqb x 95) a (a * 10 + class_of x))
added_more a x = go (eqb x 95)
  where
    go : (z : Bool) → pick z (capped a) (shifted (capped a) (class_of x)) ≡ capped (pick z a (a * 10 + class_of x))
    go true = refl
    go false = shifted_more a (class_of x)

-- ---- the digits up to a place are read
taken_more : (s : List ℕ) (i q r : ℕ) → i < length s → digit_step q (get_or s i 0) ≡ some r → taken digit_step q (drop i s) ≡ get_or s i 0 ∷ taken digit_step r (drop (i + 1) s)
unfolding scan_len
taken_more s i q r h e = rw (drop_next s i h, scan_len, e)

taken_stop : (s : List ℕ) (i q : ℕ) → i < length s → digit_step q (get_or s i 0) ≡ none → taken digit_step q (drop i s) ≡ []
unfolding scan_len
taken_stop s i q h e = rw (drop_next s i h, scan_len, e)

taken_out : (s : List ℕ) (i q : ℕ) → length s ≤ i → taken digit_step q (drop i s) ≡ []
unfolding scan_len
taken_out s i q h = rw (drop_of_length-le s h)

pub record Counts (text : List ℕ) (at i q : ℕ) (val : Maybe ℕ) : Type 0 where
  pub acc : ℕ
  pub means : val ≡ capped acc
  pub worth : value_of 0 (taken digit_step 0 (drop at text)) ≡ value_of acc (taken digit_step q (drop i text))
  pub place : at + scan_len digit_step 0 (drop at text) ≡ i + scan_len digit_step q (drop i text)

pub count_none : (text : List ℕ) (at : ℕ) → Counts text at at 0 (Some 0)
count_none text at = record { acc = 0; means = sym (small 0 (omega arith)); worth = refl; place = refl }

module _ (text : List ℕ) (at i q : ℕ) (val : Maybe ℕ) where
  pub count_more : (r : ℕ) (t : Maybe ℕ) → i < length text → digit_step q (get_or text i 0) ≡ some r → Counts text at i q val → t ≡ added val (get_or text i 0) → Counts text at (i + 1) r t
  unfolding value_of
  count_more r t h e n d = record {
    acc = pick (eqb (get_or text i 0) 95) n.acc (n.acc * 10 + class_of (get_or text i 0));
    means = d ∙ ap (λ (y : Maybe ℕ). added y (get_or text i 0)) n.means ∙ added_more n.acc (get_or text i 0);
    worth = n.worth ∙ ap (value_of n.acc) (taken_more text i q r h e);
    place = n.place ∙ scan_some digit_step text i q r h e;
  }

  pub count_stop : i < length text → digit_step q (get_or text i 0) ≡ none → Counts text at i q val → NumAt text at (record { at = i; val = val })
  unfolding value_of
  count_stop h e n = record { behind = sym (n.place ∙ scan_stop digit_step text i q h e); worth = n.means ∙ ap capped (sym (n.worth ∙ ap (value_of n.acc) (taken_stop text i q h e))) }

  -- where the loop over the places from `at` on ends
  pub count_past : (m : ℕ) → at ≤ i → length text ≤ i → m ≡ max at (length text) → Counts text at i q val → NumAt text at (record { at = m; val = val })
  unfolding value_of
  count_past m l h e n =
      let g : _ = n.place ∙ scan_out digit_step text i q h in
      record { behind = end_at digit_step 0 text l h e g ∙ sym g; worth = n.means ∙ ap capped (sym (n.worth ∙ ap (value_of n.acc) (taken_out text i q h))) }

-- ---- a number from lo to hi, whose first digit stands at `at`
module _ (lo hi at i : ℕ) (r : List ℕ) where
  number_run : (x : ℕ) (l : List ℕ) (z : Bool) → (leb lo (value_of 0 (x ∷ l)) && leb (value_of 0 (x ∷ l)) hi) ≡ z → run (number_of lo hi at (x ∷ l)) i r ≡ run (elim z [ true ↦ ret (value_of 0 (x ∷ l)) | false ↦ fail 15 at ]) i r
  unfolding number_of
  number_run x l z e = ap (λ (y : Bool). run (elim y [ true ↦ ret (value_of 0 (x ∷ l)) | false ↦ fail 15 at ]) i r) e

  number_low : (l : List ℕ) → (l ≡ [] → ⊥) → value_of 0 l < lo → run (number_of lo hi at l) i r ≡ no_at 15 at
  unfolding run
  number_low [] n h = absurd (n refl)
  number_low (d ∷ l) n h = number_run d l false (rw (lt-leb _ _ h))

  number_high : (l : List ℕ) → (l ≡ [] → ⊥) → lo ≤ value_of 0 l → hi < value_of 0 l → run (number_of lo hi at l) i r ≡ no_at 15 at
  unfolding run
  number_high [] n h k = absurd (n refl)
  number_high (d ∷ l) n h k = number_run d l false (rw (le-leb _ _ h, lt-leb _ _ k))

  number_fits : (l : List ℕ) → (l ≡ [] → ⊥) → lo ≤ value_of 0 l → value_of 0 l ≤ hi → run (number_of lo hi at l) i r ≡ ok (value_of 0 l) i
  unfolding run
  number_fits [] n h k = absurd (n refl)
  number_fits (d ∷ l) n h k = number_run d l true (rw (le-leb _ _ h, le-leb _ _ k))

  number_none : (l : List ℕ) → l ≡ [] → run (number_of lo hi at l) i r ≡ no_at 4 i
  unfolding run number_of refuse
  number_none l e = rw e

take_some : (n : ℕ) (s : List ℕ) → (n ≡ 0 → ⊥) → n ≤ length s → take n s ≡ [] → ⊥
take_some zero s h k e = h refl
take_some (suc n) [] h k e = omega arith
take_some (suc n) (x ∷ s) h k e = let z : ◌≡◌ {A = ℕ} 0 1 = cc in omega arith

module _ (text : List ℕ) (lo hi at i : ℕ) (e : i ≡ at + scan_len digit_step 0 (drop at text)) where
  behind : run (parse_int lo hi) at (drop at text) ≡ run (number_of lo hi at (taken digit_step 0 (drop at text))) i (drop i text)
  unfolding run parse_int place digits ◌>>=◌
  behind = scan_run digit_step 0 (number_of lo hi at) text at ∙ ap (λ (j : ℕ). run (number_of lo hi at (taken digit_step 0 (drop at text))) j (drop j text)) (sym e)

  pub no_digits_lem : i ≡ at → run (parse_int lo hi) at (drop at text) ≡ no_at 4 at
  no_digits_lem h =
      let z : scan_len digit_step 0 (drop at text) ≡ 0 = omega arith in
      behind ∙ number_none lo hi at i (drop i text) (taken digit_step 0 (drop at text)) (ap (λ (n : ℕ). take n (drop at text)) z) ∙ ap (no_at 4) h

  module _ (h : i ≡ at → ⊥) where
    nonempty : taken digit_step 0 (drop at text) ≡ [] → ⊥
    nonempty = take_some (scan_len digit_step 0 (drop at text)) (drop at text) (λ z. h (omega arith)) (scan_len_le digit_step 0 (drop at text))

    pub too_low : value_of 0 (taken digit_step 0 (drop at text)) < lo → run (parse_int lo hi) at (drop at text) ≡ no_at 15 at
    too_low l = behind ∙ number_low lo hi at i (drop i text) (taken digit_step 0 (drop at text)) nonempty l

    pub too_high : lo ≤ value_of 0 (taken digit_step 0 (drop at text)) → hi < value_of 0 (taken digit_step 0 (drop at text)) → run (parse_int lo hi) at (drop at text) ≡ no_at 15 at
    too_high l m = behind ∙ number_high lo hi at i (drop i text) (taken digit_step 0 (drop at text)) nonempty l m

    pub fits : (v : ℕ) → v ≡ value_of 0 (taken digit_step 0 (drop at text)) → lo ≤ v → v ≤ hi → run (parse_int lo hi) at (drop at text) ≡ ok v i
    fits v w l m = behind ∙ number_fits lo hi at i (drop i text) (taken digit_step 0 (drop at text)) nonempty (rw w at l) (rw w at m) ∙ ap (λ (u : ℕ). ok u i) (sym w)

    -- over 64 bits
    pub too_far : number_limit < value_of 0 (taken digit_step 0 (drop at text)) → hi ≤ number_limit → run (parse_int lo hi) at (drop at text) ≡ no_at 15 at
    too_far o m = go (leb lo (value_of 0 (taken digit_step 0 (drop at text)))) refl
      where
        go : (b : Bool) → leb lo (value_of 0 (taken digit_step 0 (drop at text))) ≡ b → run (parse_int lo hi) at (drop at text) ≡ no_at 15 at
        go true t = too_high (leb-true _ _ t) (omega arith)
        go false t = too_low (leb-false _ _ t)
