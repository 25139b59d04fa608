-- What `read_numeric` reads is what the fold takes, byte for byte: the digits, the point, the exponent, each from the state that the one before left.
-- Assumes nothing.
use mathlib.Core.Path.{◌≡◌, refl, sym, ap, ◌∙◌}
use mathlib.Core.Bool.{Bool, true, false, ◌||◌}
use mathlib.Core.List.{List, [], ◌∷◌}
use mathlib.Core.Option.{Option, none, some}
use Prim.Native.Nat.{ℕ, suc, ◌+◌, ◌≤◌}
use native.Mathlib.Omega.{arith}
use lib.Dec.{eqb}
use lib.ListN.{length, drop, length-drop}
use lib.Seq.{length-take-le}
use borrow.Author.Tests.{eqb-true}
use Rattle.program.specs.Bytes.{byte}
use Rattle.program.specs.Choice.{pick}
use Rattle.program.specs.Class.{is_digit}
use Rattle.program.specs.Prog.{Prog, run, ok, scan_len, byte_at, ◌>>=◌}
use Rattle.program.specs.Local.{scan_len_le}
use Rattle.grammar.specs.Lexer.{is_byte, byte_if}
use Rattle.grammar.specs.Numbers.{Numeral, digit_step, digits, read_sign, read_exponent, behind_point, read_numeric}
use Rattle.lexer.specs.Step.{taken}
use Rattle.lexer.proofs.Laws.{true_false}
use Rattle.number_integers.specs.Folds.{folded, all_digits, begins}
use Rattle.number_integers.proofs.Scans.{digits_all, digits_begin}
use Rattle.number_numerals.specs.Numerals.{started, sign_passed, in_phase, whole_pushed, part_pushed, power_signed, power_pushed, letter_next, whole_next, part_next, power_next, is_sign, next_phase, pushed_in, taken_in, takes, step, onward, reach}
use Rattle.number_numerals.specs.declared.folds.Phase.{Phase}
use Rattle.number_numerals.specs.declared.folds.Phase.TheVariants.{Whole, Point, Behind, Letter, Power}
use Rattle.number_numerals.specs.declared.folds.Fold.{Fold}
use Rattle.number_numerals.proofs.NumeralFolds.{Written, signed_if, exponent_of, part_of, fold_of}
use Rattle.number_numerals.proofs.Onward.{Goes, goes_one, first, ends, unscored, enter, Digital, Run, run_from}

few_taken : (r : List ℕ) → length (taken digit_step 0 r) ≤ length r
few_taken r = omega (arith, length-take-le (scan_len digit_step 0 r) r (scan_len_le digit_step 0 r), scan_len_le digit_step 0 r)

-- ---- the state behind a byte: what `takes` gives for each part of `next_phase`
abbrev letter_in : Fold → ℕ → Option Fold
letter_in s x = pick (eqb x (byte "e") || eqb x (byte "E")) (some (in_phase Letter s)) none

abbrev behind_whole : Fold → ℕ → Option Fold
behind_whole s x = pick (eqb x (byte ".")) (some (in_phase Point s)) (letter_in s x)

abbrev no_rest : Fold → ℕ → Option Fold
no_rest s x = none

abbrev power_in : Fold → ℕ → Option Fold
power_in s x = enter power_pushed no_rest s x

letter_takes : (s : Fold) (x : ℕ) → takes (letter_next x) s x ≡ letter_in s x
unfolding letter_next taken_in pushed_in
letter_takes s x = go (eqb x (byte "e")) refl (eqb x (byte "E")) refl
  where
    go : (a : Bool) → eqb x (byte "e") ≡ a → (b : Bool) → eqb x (byte "E") ≡ b → takes (letter_next x) s x ≡ letter_in s x
    go true e b f = rw (eqb-true x (byte "e") e)
    go false e true f = rw (eqb-true x (byte "E") f)
    go false e false f = simp (e, f)

whole_takes : (s : Fold) (x : ℕ) → takes (whole_next x) s x ≡ enter whole_pushed behind_whole s x
unfolding whole_next taken_in pushed_in
whole_takes s x = go (is_digit x) refl (eqb x (byte ".")) refl
  where
    go : (a : Bool) → is_digit x ≡ a → (b : Bool) → eqb x (byte ".") ≡ b → takes (whole_next x) s x ≡ enter whole_pushed behind_whole s x
    go true e b f = simp (e, unscored x e)
    go false e true f = simp (e, f, point_unscored (eqb-true x (byte ".") f))
      where
        point_unscored : x ≡ byte "." → eqb x (byte "_") ≡ false
        point_unscored k = rw k
    go false e false f = simp (e, f) (letter_takes s x)

part_takes : (s : Fold) (x : ℕ) → takes (part_next x) s x ≡ enter part_pushed letter_in s x
unfolding part_next taken_in pushed_in
part_takes s x = go (is_digit x) refl
  where
    go : (a : Bool) → is_digit x ≡ a → takes (part_next x) s x ≡ enter part_pushed letter_in s x
    go true e = simp (e, unscored x e)
    go false e = simp e (letter_takes s x)

power_takes : (s : Fold) (x : ℕ) → takes (power_next x) s x ≡ power_in s x
unfolding power_next taken_in pushed_in
power_takes s x = go (is_digit x) refl
  where
    go : (a : Bool) → is_digit x ≡ a → takes (power_next x) s x ≡ power_in s x
    go true e = simp (e, unscored x e)
    go false e = simp e

-- an underscore behind a digit
score_takes : (f : Phase) (o : Option Phase) (t : Option Fold) (s : Fold) (x : ℕ) → takes o s x ≡ t → takes (pick (eqb x (byte "_")) (some f) o) s x ≡ pick (eqb x (byte "_")) (some s) t
unfolding taken_in
score_takes f o t s x e = go (eqb x (byte "_")) refl
  where
    go : (b : Bool) → eqb x (byte "_") ≡ b → takes (pick (eqb x (byte "_")) (some f) o) s x ≡ pick (eqb x (byte "_")) (some s) t
    go true k = simp k
    go false k = simp k e

whole_digital : (s : Fold) (d : ℕ) → Digital whole_pushed behind_whole (whole_pushed s d)
unfolding whole_pushed next_phase
whole_digital s d x = score_takes Whole (whole_next x) _ (whole_pushed s d) x (whole_takes (whole_pushed s d) x)

part_digital : (s : Fold) (d : ℕ) → Digital part_pushed letter_in (part_pushed s d)
unfolding part_pushed next_phase
part_digital s d x = score_takes Behind (part_next x) _ (part_pushed s d) x (part_takes (part_pushed s d) x)

power_digital : (s : Fold) (d : ℕ) → Digital power_pushed no_rest (power_pushed s d)
unfolding power_pushed next_phase
power_digital s d x = score_takes Power (power_next x) _ (power_pushed s d) x (power_takes (power_pushed s d) x)

-- at the next byte
first_same : {f g : ℕ → Option Fold} → ((x : ℕ) → f x ≡ g x) → (r : List ℕ) → first f r ≡ first g r
unfolding first
first_same e [] = refl
first_same e (x ∷ r) = e x

-- ---- the digits of the exponent are the rest of the numeral
pub record PowerOf (s : Fold) (i : ℕ) (r : List ℕ) : Type 0 where
  pub place : i + scan_len digit_step 0 r ≡ i + reach s r
  pub state : onward s r ≡ folded power_pushed s (taken digit_step 0 r)

power_digits : (s : Fold) (i : ℕ) (r : List ℕ) → first (step s) r ≡ first (power_in s) r → PowerOf s i r
unfolding first
power_digits s i r h =
    let a : Run power_pushed no_rest s r (scan_len digit_step 0 r) (taken digit_step 0 r) = run_from power_pushed no_rest power_digital s r h in
    let t = folded power_pushed s (taken digit_step 0 r) in
    let z : (reach t (drop (scan_len digit_step 0 r) r) ≡ 0) × (onward t (drop (scan_len digit_step 0 r) r) ≡ t) = ends t (drop (scan_len digit_step 0 r) r) (a.left ∙ nothing (drop (scan_len digit_step 0 r) r)) in
    record { place = omega (arith, a.goes.place, z.0); state = a.goes.state ∙ z.1 }
  where
    nothing : (l : List ℕ) → first (no_rest (folded power_pushed s (taken digit_step 0 r))) l ≡ none
    nothing [] = refl
    nothing (x ∷ l) = refl

-- ---- the exponent behind its letter
pub record ExponentOf (w : List ℕ) (b : Bool) (f : List ℕ) (s : Fold) (i : ℕ) (r : List ℕ) : Type 0 where
  pub sign : Bool
  pub down : Bool
  pub power : List ℕ
  pub runs : run (read_exponent w b f) i r ≡ ok (record { whole = w; point = b; part = f; exponent = true; down = down; power = power }) (i + reach s r)
  pub state : onward s r ≡ folded power_pushed (signed_if sign s down) power
  pub begun : begins power ≡ true
  pub unsigned : sign ≡ false → down ≡ false

module _ (w : List ℕ) (b : Bool) (f : List ℕ) (t : Fold) (i : ℕ) where
  abbrev letter : Fold
  letter = in_phase Letter t

  signed_exponent : (down : Bool) (x : ℕ) (r : List ℕ) → step letter x ≡ some (power_signed letter down) →
      run (read_exponent w b f) i (x ∷ r) ≡ ok (record { whole = w; point = b; part = f; exponent = true; down = down; power = taken digit_step 0 r }) (suc i + scan_len digit_step 0 r) →
      ExponentOf w b f letter i (x ∷ r)
  unfolding power_signed next_phase
  signed_exponent down x r e h =
      let s = power_signed letter down in
      let a : PowerOf s (suc i) r = power_digits s (suc i) r (first_same (power_takes s) r) in
      let g : Goes letter (x ∷ r) 1 s = goes_one e in
      let n : suc i + scan_len digit_step 0 r ≡ i + reach letter (x ∷ r) = omega (arith, a.place, g.place) in
      record {
        sign = true;
        down = down;
        power = taken digit_step 0 r;
        runs = rw (← n) h;
        state = g.state ∙ a.state;
        begun = digits_begin r;
        unsigned = λ e. true_false (sym e);
      }

  plain_exponent : (r : List ℕ) → first (step letter) r ≡ first (power_in letter) r →
      run (read_exponent w b f) i r ≡ ok (record { whole = w; point = b; part = f; exponent = true; down = false; power = taken digit_step 0 r }) (i + scan_len digit_step 0 r) →
      ExponentOf w b f letter i r
  plain_exponent r e h =
      let a : PowerOf letter i r = power_digits letter i r e in
      record {
        sign = false;
        down = false;
        power = taken digit_step 0 r;
        runs = rw (← a.place) h;
        state = a.state;
        begun = digits_begin r;
        unsigned = λ e. refl;
      }

  letter_plus : (x : ℕ) → x ≡ byte "+" → step letter x ≡ some (power_signed letter false)
  unfolding in_phase next_phase is_sign taken_in pushed_in
  letter_plus x e = rw e

  letter_minus : (x : ℕ) → x ≡ byte "-" → step letter x ≡ some (power_signed letter true)
  unfolding in_phase next_phase is_sign taken_in pushed_in
  letter_minus x e = rw e

  letter_none : (x : ℕ) → eqb x (byte "+") ≡ false → eqb x (byte "-") ≡ false → step letter x ≡ power_in letter x
  unfolding in_phase next_phase is_sign
  letter_none x e g = simp (e, g) (power_takes letter x)

  exponent_of_lem : (r : List ℕ) → ExponentOf w b f letter i r
  unfolding read_exponent read_sign byte_if is_byte byte_at digits run ◌>>=◌ first
  exponent_of_lem [] = plain_exponent [] refl refl
  exponent_of_lem (x ∷ r) = go (eqb x (byte "+")) refl (eqb x (byte "-")) refl
    where
      go : (a : Bool) → eqb x (byte "+") ≡ a → (c : Bool) → eqb x (byte "-") ≡ c → ExponentOf w b f letter i (x ∷ r)
      go true e c g = signed_exponent false x r (letter_plus x (eqb-true x (byte "+") e)) (rw (run, ◌>>=◌, e))
      go false e true g = signed_exponent true x r (letter_minus x (eqb-true x (byte "-") g)) (rw (run, ◌>>=◌, e, g))
      go false e false g = plain_exponent (x ∷ r) (letter_none x e g) (rw (run, ◌>>=◌, e, g))

-- ---- the exponent, or none
pub record TailOf (w : List ℕ) (b : Bool) (f : List ℕ) (t : Fold) (i : ℕ) (r : List ℕ) : Type 0 where
  pub exponent : Bool
  pub sign : Bool
  pub down : Bool
  pub power : List ℕ
  pub runs : run (behind_point w b f) i r ≡ ok (record { whole = w; point = b; part = f; exponent = exponent; down = down; power = power }) (i + reach t r)
  pub state : onward t r ≡ elim exponent [ true ↦ folded power_pushed (signed_if sign (in_phase Letter t) down) power | false ↦ t ]
  pub begun : begins power ≡ true
  pub no_power : exponent ≡ false → power ≡ []
  pub unsigned : sign ≡ false → down ≡ false
  pub no_sign : exponent ≡ false → down ≡ false

module _ (w : List ℕ) (b : Bool) (f : List ℕ) (t : Fold) (i : ℕ) where
  tail_none : (r : List ℕ) → first (step t) r ≡ none →
      run (behind_point w b f) i r ≡ ok (record { whole = w; point = b; part = f; exponent = false; down = false; power = [] }) i → TailOf w b f t i r
  unfolding begins
  tail_none r e h =
      let z : (reach t r ≡ 0) × (onward t r ≡ t) = ends t r e in
      let n : i ≡ i + reach t r = omega (arith, z.0) in
      let m : Numeral = record { whole = w; point = b; part = f; exponent = false; down = false; power = [] } in
      record {
        exponent = false;
        sign = false;
        down = false;
        power = [];
        runs = h ∙ ap (ok m) n;
        state = z.1;
        begun = refl;
        no_power = λ e. refl;
        unsigned = λ e. refl;
        no_sign = λ e. refl;
      }

  tail_letter : (x : ℕ) (r : List ℕ) → step t x ≡ some (in_phase Letter t) → run (behind_point w b f) i (x ∷ r) ≡ run (read_exponent w b f) (suc i) r → TailOf w b f t i (x ∷ r)
  tail_letter x r e h =
      let a : ExponentOf w b f (in_phase Letter t) (suc i) r = exponent_of_lem w b f t (suc i) r in
      let g : Goes t (x ∷ r) 1 (in_phase Letter t) = goes_one e in
      let n : suc i + reach (in_phase Letter t) r ≡ i + reach t (x ∷ r) = omega (arith, g.place) in
      let m : Numeral = record { whole = w; point = b; part = f; exponent = true; down = a.down; power = a.power } in
      record {
        exponent = true;
        sign = a.sign;
        down = a.down;
        power = a.power;
        runs = h ∙ a.runs ∙ ap (ok m) n;
        state = g.state ∙ a.state;
        begun = a.begun;
        no_power = λ e. true_false (sym e);
        unsigned = a.unsigned;
        no_sign = λ e. true_false (sym e);
      }

  pub tail_of_lem : (r : List ℕ) → first (step t) r ≡ first (letter_in t) r → TailOf w b f t i r
  unfolding behind_point byte_if is_byte byte_at run first
  tail_of_lem [] h = tail_none [] refl refl
  tail_of_lem (x ∷ r) h = go (eqb x (byte "e")) refl (eqb x (byte "E")) refl
    where
      go : (a : Bool) → eqb x (byte "e") ≡ a → (c : Bool) → eqb x (byte "E") ≡ c → TailOf w b f t i (x ∷ r)
      go true e c g = tail_letter x r (h ∙ simp e) (rw (run, e))
      go false e true g = tail_letter x r (h ∙ simp (e, g)) (rw (run, e, g))
      go false e false g = tail_none (x ∷ r) (h ∙ simp (e, g)) (rw (run, e, g))

-- ---- the numeral behind its sign
-- a numeral and its state
pub record NumeralOf (neg : Bool) (i : ℕ) (r : List ℕ) : Type 0 where
  pub numeral : Numeral
  pub sign : Bool
  pub runs : run read_numeric i r ≡ ok numeral (i + reach (sign_passed started neg) r)
  pub state : onward (sign_passed started neg) r ≡ fold_of neg sign numeral
  pub proper : length r ≤ 16777216 → Written sign numeral

module _ (neg : Bool) (i : ℕ) (r : List ℕ) where
  abbrev s0 : Fold
  s0 = sign_passed started neg

  abbrev n0 : ℕ
  n0 = scan_len digit_step 0 r

  whole_run : Run whole_pushed behind_whole s0 r n0 (taken digit_step 0 r)
  unfolding sign_passed next_phase
  whole_run = run_from whole_pushed behind_whole whole_digital s0 r (first_same (whole_takes s0) r)

  abbrev s1 : Fold
  s1 = folded whole_pushed s0 (taken digit_step 0 r)

  -- no point: what follows the whole digits
  unpointed : (l : List ℕ) → drop n0 r ≡ l → first (step s1) l ≡ first (letter_in s1) l →
      run read_numeric i r ≡ run (behind_point (taken digit_step 0 r) false []) (i + n0) l → NumeralOf neg i r
  unfolding fold_of exponent_of part_of all_digits begins
  unpointed l e h g =
      let a : TailOf (taken digit_step 0 r) false [] s1 (i + n0) l = tail_of_lem (taken digit_step 0 r) false [] s1 (i + n0) l h in
      let n : i + n0 + reach s1 l ≡ i + reach s0 r = omega (arith, whole_run.goes.place, ap (reach s1) e) in
      let m : Numeral = record { whole = taken digit_step 0 r; point = false; part = []; exponent = a.exponent; down = a.down; power = a.power } in
      record {
        numeral = m;
        sign = a.sign;
        runs = g ∙ a.runs ∙ ap (ok m) n;
        state = whole_run.goes.state ∙ ap (onward s1) e ∙ a.state;
        proper = λ k. record {
          whole_digits = digits_all 0 r;
          part_digits = refl;
          whole_begins = digits_begin r;
          part_begins = refl;
          power_begins = a.begun;
          no_part = λ e. refl;
          no_power = a.no_power;
          unsigned = a.unsigned;
          no_sign = a.no_sign;
          few = omega (arith, few_taken r);
        };
      }

  -- a point in front of l
  module _ (x : ℕ) (l : List ℕ) (e : drop n0 r ≡ x ∷ l) (h : step s1 x ≡ some (in_phase Point s1)) where
    abbrev s2 : Fold
    s2 = in_phase Point s1

    part_run : Run part_pushed letter_in s2 l (scan_len digit_step 0 l) (taken digit_step 0 l)
    unfolding in_phase next_phase
    part_run = run_from part_pushed letter_in part_digital s2 l (first_same (part_takes s2) l)

    pointed : run read_numeric i r ≡ run (behind_point (taken digit_step 0 r) true (taken digit_step 0 l)) (suc (i + n0) + scan_len digit_step 0 l) (drop (scan_len digit_step 0 l) l) → NumeralOf neg i r
    unfolding fold_of exponent_of part_of
    pointed g =
        let s3 = folded part_pushed s2 (taken digit_step 0 l) in
        let m = scan_len digit_step 0 l in
        let o : Goes s1 (x ∷ l) 1 s2 = goes_one h in
        let a : TailOf (taken digit_step 0 r) true (taken digit_step 0 l) s3 (suc (i + n0) + m) (drop m l) = tail_of_lem (taken digit_step 0 r) true (taken digit_step 0 l) s3 (suc (i + n0) + m) (drop m l) part_run.left in
        let n : suc (i + n0) + m + reach s3 (drop m l) ≡ i + reach s0 r = omega (arith, whole_run.goes.place, ap (reach s1) e, o.place, part_run.goes.place) in
        let f : length l ≤ length r = omega (arith, length-drop n0 r, ap length e) in
        let u : Numeral = record { whole = taken digit_step 0 r; point = true; part = taken digit_step 0 l; exponent = a.exponent; down = a.down; power = a.power } in
        record {
          numeral = u;
          sign = a.sign;
          runs = g ∙ a.runs ∙ ap (ok u) n;
          state = whole_run.goes.state ∙ ap (onward s1) e ∙ o.state ∙ part_run.goes.state ∙ a.state;
          proper = λ k. record {
            whole_digits = digits_all 0 r;
            part_digits = digits_all 0 l;
            whole_begins = digits_begin r;
            part_begins = digits_begin l;
            power_begins = a.begun;
            no_part = λ e. true_false (sym e);
            no_power = a.no_power;
            unsigned = a.unsigned;
            no_sign = a.no_sign;
            few = omega (arith, few_taken r, few_taken l, f);
          };
        }

  -- the program behind the whole digits
  abbrev behind : Prog Numeral
  behind = byte_if (byte ".") (digits >>= λ f. behind_point (taken digit_step 0 r) true f) (behind_point (taken digit_step 0 r) false [])

  behind_run : (l : List ℕ) → drop n0 r ≡ l → run read_numeric i r ≡ run behind (i + n0) l
  unfolding read_numeric digits run ◌>>=◌
  behind_run l e = ap (run behind (i + n0)) e

  pub numeral_of : NumeralOf neg i r
  unfolding digits byte_if is_byte byte_at run ◌>>=◌ first
  numeral_of = go (drop n0 r) refl whole_run.left
    where
      go : (l : List ℕ) → drop n0 r ≡ l → first (step s1) (drop n0 r) ≡ first (behind_whole s1) (drop n0 r) → NumeralOf neg i r
      go [] e h = unpointed [] e refl (behind_run [] e)
      go (x ∷ l) e h = at_point (eqb x (byte ".")) refl
        where
          h2 : step s1 x ≡ behind_whole s1 x
          h2 = rw e at h

          at_point : (a : Bool) → eqb x (byte ".") ≡ a → NumeralOf neg i r
          at_point true f = pointed x l e (h2 ∙ simp f) (behind_run (x ∷ l) e ∙ rw (run, f))
          at_point false f = unpointed (x ∷ l) e (h2 ∙ simp f) (behind_run (x ∷ l) e ∙ rw (run, f))
