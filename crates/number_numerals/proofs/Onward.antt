-- The fold of a numeral goes on from wherever it is: behind k bytes it is in a state t, and ends as it does from t on what is left.
-- Assumes nothing.
use mathlib.Core.Path.{◌≡◌, refl, sym, ap, ◌∙◌}
use mathlib.Core.Bool.{Bool, true, false}
use mathlib.Core.List.{List, [], ◌∷◌}
use mathlib.Core.Option.{Option, none, some}
use Prim.Native.Nat.{ℕ, suc, ◌+◌, ◌≤◌, ◌<◌, zero-le}
use native.Mathlib.Omega.{arith}
use lib.Dec.{eqb}
use lib.ListN.{length, get_or, drop, length-drop, drop_of_length-le}
use lib.Seq.{drop-drop}
use borrow.Author.Tests.{eqb-true}
use Rattle.std.specs.Prelude.{max}
use Rattle.program.specs.Bytes.{byte}
use Rattle.program.specs.Choice.{pick}
use Rattle.program.specs.Class.{class_of, is_digit}
use Rattle.program.specs.Lists.{drop_next}
use Rattle.program.specs.Prog.{scan_len}
use Rattle.grammar.specs.Numbers.{digit_step}
use Rattle.lexer.specs.Step.{taken}
use Rattle.lexer.specs.declared.Cursor.{Cursor}
use Rattle.lexer.specs.Parsed.{Ok}
use Rattle.lexer.proofs.Laws.{true_false}
use Rattle.number_integers.specs.Folds.{folded}
use Rattle.number_numerals.specs.Numerals.{next_phase, taken_in, takes, step, onward, reach}
use Rattle.number_numerals.specs.Reads.{FoldedAt}
use Rattle.number_numerals.specs.declared.folds.Phase.{Phase}
use Rattle.number_numerals.specs.declared.folds.Fold.{Fold}

pub record Goes (s : Fold) (r : List ℕ) (k : ℕ) (t : Fold) : Type 0 where
  pub place : reach s r ≡ k + reach t (drop k r)
  pub state : onward s r ≡ onward t (drop k r)

pub goes_none : (s : Fold) (r : List ℕ) → Goes s r 0 s
goes_none s r = record { place = omega arith; state = refl }

pub goes_then : {s t u : Fold} {r : List ℕ} {k m : ℕ} → Goes s r k t → Goes t (drop k r) m u → Goes s r (k + m) u
goes_then {s} {t} {u} {r} {k} {m} a b =
    let e : drop m (drop k r) ≡ drop (k + m) r = drop-drop m k r in
    record {
      place = omega (arith, a.place, b.place, ap (reach u) e);
      state = a.state ∙ b.state ∙ ap (onward u) e;
    }

pub behind_one : {s t u : Fold} {x : ℕ} {r : List ℕ} {k : ℕ} → Goes s (x ∷ r) 1 t → Goes t r k u → Goes s (x ∷ r) (suc k) u
behind_one a b = record { place = omega (arith, a.place, b.place); state = a.state ∙ b.state }

-- what a step does at the next byte, and none at the end
unfoldable pub first : (ℕ → Option Fold) → List ℕ → Option Fold
first f [] = none
first f (x ∷ r) = f x

pub goes_one : {s t : Fold} {x : ℕ} {r : List ℕ} → step s x ≡ some t → Goes s (x ∷ r) 1 t
unfolding reach onward
goes_one {s} {t} {x} {r} e = record { place = rw (reach, e) (omega arith); state = rw (onward, e) }

pub ends : (s : Fold) (r : List ℕ) → first (step s) r ≡ none → (reach s r ≡ 0) × (onward s r ≡ s)
unfolding first reach onward
ends s [] e = (refl, refl)
ends s (x ∷ r) e = (rw (reach, e), rw (onward, e))

-- ---- a run of digits: `more` takes a digit, `rest` what is none
no_score : is_digit (byte "_") ≡ false
unfolding is_digit class_of
no_score = refl

pub unscored : (x : ℕ) → is_digit x ≡ true → eqb x (byte "_") ≡ false
unscored x d = go (eqb x (byte "_")) refl
  where
    go : (t : Bool) → eqb x (byte "_") ≡ t → eqb x (byte "_") ≡ false
    go true e = true_false (sym no_score ∙ (rw (eqb-true x (byte "_") e) at d))
    go false e = e

module _ (more : Fold → ℕ → Fold) (rest : Fold → ℕ → Option Fold) where
  abbrev pub enter : Fold → ℕ → Option Fold
  enter s x = pick (is_digit x) (some (more s (class_of x))) (rest s x)

  -- behind a digit: an underscore is passed over
  abbrev pub score_or : Fold → ℕ → Option Fold
  score_or s x = pick (eqb x (byte "_")) (some s) (enter s x)

  abbrev pub Digital : Fold → Type 0
  Digital s = (x : ℕ) → step s x ≡ score_or s x

  -- behind n bytes the digits are folded, and no digit follows
  pub record Run (s : Fold) (r : List ℕ) (n : ℕ) (w : List ℕ) : Type 0 where
    pub goes : Goes s r n (folded more s w)
    pub left : first (step (folded more s w)) (drop n r) ≡ first (rest (folded more s w)) (drop n r)

  -- a digit or an underscore in front
  run_more : {s : Fold} {x : ℕ} {r : List ℕ} {n : ℕ} {w : List ℕ} → Run (more s (class_of x)) r n w → step s x ≡ some (more s (class_of x)) → eqb x (byte "_") ≡ false → Run s (x ∷ r) (suc n) (x ∷ w)
  unfolding folded
  run_more {s} {x} {r} {n} {w} i y z =
      let e : folded more s (x ∷ w) ≡ folded more (more s (class_of x)) w = simp z in
      record { goes = rw e (behind_one (goes_one y) i.goes); left = rw e i.left }

  run_score : {s : Fold} {x : ℕ} {r : List ℕ} {n : ℕ} {w : List ℕ} → Run s r n w → step s x ≡ some s → eqb x (byte "_") ≡ true → Run s (x ∷ r) (suc n) (x ∷ w)
  unfolding folded
  run_score {s} {x} {r} {n} {w} i y z =
      let e : folded more s (x ∷ w) ≡ folded more s w = simp z in
      record { goes = rw e (behind_one (goes_one y) i.goes); left = rw e i.left }

  module _ (digital : (s : Fold) (d : ℕ) → Digital (more s d)) where
    run_on : (s : Fold) (r : List ℕ) → Digital s → Run s r (scan_len digit_step 1 r) (taken digit_step 1 r)
    unfolding scan_len digit_step folded first
    run_on s [] h = record { goes = goes_none s []; left = refl }
    run_on s (x ∷ r) h = go (is_digit x) refl (eqb x (byte "_")) refl (run_on (more s (class_of x)) r (digital s (class_of x))) (run_on s r h)
      where
        go : (a : Bool) → is_digit x ≡ a → (b : Bool) → eqb x (byte "_") ≡ b →
            Run (more s (class_of x)) r (scan_len digit_step 1 r) (taken digit_step 1 r) → Run s r (scan_len digit_step 1 r) (taken digit_step 1 r) →
            Run s (x ∷ r) (scan_len digit_step 1 (x ∷ r)) (taken digit_step 1 (x ∷ r))
        go true e b f i j =
            let z : eqb x (byte "_") ≡ false = unscored x e in
            let y : step s x ≡ some (more s (class_of x)) = h x ∙ simp (z, e) in
            rw (scan_len, digit_step, e) (run_more i y z)
        go false e true f i j =
            let y : step s x ≡ some s = h x ∙ simp f in
            rw (scan_len, digit_step, e, f) (run_score j y f)
        go false e false f i j = rw (scan_len, digit_step, e, f) (record { goes = goes_none s (x ∷ r); left = h x ∙ simp (f, e) })

    pub run_from : (s : Fold) (r : List ℕ) → first (step s) r ≡ first (enter s) r → Run s r (scan_len digit_step 0 r) (taken digit_step 0 r)
    unfolding scan_len digit_step folded first
    run_from s [] h = record { goes = goes_none s []; left = refl }
    run_from s (x ∷ r) h = go (is_digit x) refl (eqb x (byte "_")) refl
      where
        go : (a : Bool) → is_digit x ≡ a → (b : Bool) → eqb x (byte "_") ≡ b → Run s (x ∷ r) (scan_len digit_step 0 (x ∷ r)) (taken digit_step 0 (x ∷ r))
        go true e b f =
            let z : eqb x (byte "_") ≡ false = unscored x e in
            let y : step s x ≡ some (more s (class_of x)) = h ∙ simp e in
            rw (scan_len, digit_step, e) (run_more (run_on (more s (class_of x)) r (digital s (class_of x))) y z)
        go false e true f = rw (scan_len, digit_step, e, f) (record { goes = goes_none s (x ∷ r); left = h ∙ simp e })
        go false e false f = rw (scan_len, digit_step, e, f) (record { goes = goes_none s (x ∷ r); left = h ∙ simp e })

-- no more bytes than there are
reach_len : (s : Fold) (r : List ℕ) → reach s r ≤ length r
unfolding reach
reach_len s [] = zero-le
reach_len s (x ∷ r) = go (step s x) refl (λ t. reach_len t r)
  where
    go : (o : Option Fold) → step s x ≡ o → ((t : Fold) → reach t r ≤ length r) → reach s (x ∷ r) ≤ suc (length r)
    go none e ih = rw (reach, e) zero-le
    go (some t) e ih = rw (reach, e) (omega (arith, ih t))

-- ---- the loop: the fold from `at` in s0 goes on from i in s
pub record Going (text : List ℕ) (at : ℕ) (s0 : Fold) (i : ℕ) (s : Fold) : Type 0 where
  pub place : at + reach s0 (drop at text) ≡ i + reach s (drop i text)
  pub state : onward s0 (drop at text) ≡ onward s (drop i text)

pub going_start : (text : List ℕ) (at : ℕ) (s0 : Fold) → Going text at s0 at s0
going_start text at s0 = record { place = refl; state = refl }

module _ {text : List ℕ} {s0 : Fold} (cur : Cursor) {i : ℕ} {s : Fold} (a : Going text cur.at s0 i s) where
  pub going_on : {t : Fold} (f : Phase) → i < length text → next_phase s.phase (get_or text i 0) ≡ some f → t ≡ taken_in f s (get_or text i 0) → Going text cur.at s0 (i + 1) t
  going_on {t} f h e k =
      let y : step s (get_or text i 0) ≡ some t = ap (λ (o : Option Phase). takes o s (get_or text i 0)) e ∙ ap some (sym k) in
      let g : Goes s (get_or text i 0 ∷ drop (i + 1) text) 1 t = goes_one y in
      record {
        place = omega (arith, a.place, ap (reach s) (drop_next text i h), g.place);
        state = a.state ∙ ap (onward s) (drop_next text i h) ∙ g.state;
      }

  there : first (step s) (drop i text) ≡ none → FoldedAt s0 text (Ok cur) (Ok (record { at = i; w = cur.w })) s
  there e =
      let z : (reach s (drop i text) ≡ 0) × (onward s (drop i text) ≡ s) = ends s (drop i text) e in
      let n : i ≡ cur.at + reach s0 (drop cur.at text) = omega (arith, a.place, z.0) in
      record { place = rw n refl; state = sym (a.state ∙ z.1) }

  pub going_stop : i < length text → next_phase s.phase (get_or text i 0) ≡ none → FoldedAt s0 text (Ok cur) (Ok (record { at = i; w = cur.w })) s
  unfolding first
  going_stop h e = there (rw (drop_next text i h) (ap (λ (o : Option Phase). takes o s (get_or text i 0)) e))

  -- where a loop over the places from the cursor on ends
  pub going_past : {m : ℕ} → cur.at ≤ i → length text ≤ i → m ≡ max cur.at (length text) → FoldedAt s0 text (Ok cur) (Ok (record { at = m; w = cur.w })) s
  unfolding first
  going_past {m} l h e =
      let d : m ≡ i = omega (arith, a.place, reach_len s0 (drop cur.at text), length-drop cur.at text) in
      rw d (there (rw (drop_of_length-le text h)))
