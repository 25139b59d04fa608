-- A numeral folded in order is the literal that 01 says.
-- Assumes nothing.
use mathlib.Core.Bool.{Bool, true, false, not, ◌&&◌, ◌||◌}
use mathlib.Core.List.{List, [], ◌∷◌}
use mathlib.Core.Option.{Option, none, some}
use mathlib.Core.Path.{◌≡◌, refl, sym, ap, ◌∙◌, subst}
use Prim.Native.Nat.{ℕ, ◌+◌, ◌≤◌, ◌^◌}
use native.Mathlib.Omega.{arith}
use lib.Dec.{leb, eqb}
use lib.ListN.{length}
use borrow.Author.Tests.{eqb-true}
use Rattle.std.proofs.Common.{Option as Maybe, Some, None, Err}
use Rattle.program.specs.Bytes.{byte}
use Rattle.program.specs.Choice.{pick}
use Rattle.program.specs.Class.{class_of, is_digit}
use Rattle.program.specs.Prog.{ret}
use Rattle.grammar.specs.Lexer.{refuse, is_empty}
use Rattle.grammar.specs.Numbers.{Numeral, value_of, largest, twos, halves, is_float, is_valid, float_of, signed, int, float, integer_of, decimal_of, literal_of}
use Rattle.number_decimals.specs.Decimals.{counted, digit_pushed}
use Rattle.number_integers.specs.Folds.{folded, all_digits, begins}
use Rattle.number_integers.specs.Integers.{magnitude_of, pushed, signed_of}
use Rattle.number_bits.specs.Number.{capped, shifted}
use Rattle.number_integers.specs.Literals.{given}
use Rattle.number_numerals.specs.Numerals.{started, sign_passed, in_phase, whole_pushed, part_pushed, power_signed, power_pushed, float_literal, decimal_in, words_literal, integer_in, literal_at, literal_in}
use Rattle.number_numerals.specs.declared.folds.Phase.{Phase}
use Rattle.number_numerals.specs.declared.folds.Phase.TheVariants.{Front, Whole, Point, Behind, Letter, Sign, Power}
use Rattle.number_numerals.specs.declared.folds.Fold.{Fold}
use Rattle.number_numerals.proofs.DecimalFolds.{mantissa_of, behind_of, float_right}
use Rattle.number_numerals.proofs.IntegerFolds.{magnitude_value, signed_value}

-- A numeral as `read_numeric` gives it: digits and underscores that begin with a digit, none where there is no point or no exponent, and fewer
-- than any text has bytes; `sign` says whether a sign stands in front of the exponent.
pub record Written (sign : Bool) (n : Numeral) : Type 0 where
  pub whole_digits : all_digits n.whole ≡ true
  pub part_digits : all_digits n.part ≡ true
  pub whole_begins : begins n.whole ≡ true
  pub part_begins : begins n.part ≡ true
  pub power_begins : begins n.power ≡ true
  pub no_part : n.point ≡ false → n.part ≡ []
  pub no_power : n.exponent ≡ false → n.power ≡ []
  pub unsigned : sign ≡ false → n.down ≡ false
  pub no_sign : n.exponent ≡ false → n.down ≡ false
  pub few : length n.whole + length n.part ≤ 2 ^ 62

-- its parts in order
abbrev pub signed_if : Bool → Fold → Bool → Fold
signed_if true s down = power_signed s down
signed_if false s down = s

unfoldable pub exponent_of : Bool → Numeral → Fold → Fold
exponent_of sign n s = elim n.exponent [ true ↦ folded power_pushed (signed_if sign (in_phase Letter s) n.down) n.power | false ↦ s ]

unfoldable pub part_of : Numeral → Fold → Fold
part_of n s = elim n.point [ true ↦ folded part_pushed (in_phase Point s) n.part | false ↦ s ]

unfoldable pub fold_of : Bool → Bool → Numeral → Fold
fold_of neg sign n = exponent_of sign n (part_of n (folded whole_pushed (sign_passed started neg) n.whole))

-- is there a digit?
unfoldable pub has_digit : List ℕ → Bool
has_digit [] = false
has_digit (x ∷ r) = pick (eqb x (byte "_")) (has_digit r) true

and_true : (a : Bool) → (a && true) ≡ a
and_true true = refl
and_true false = refl

or_true : (a : Bool) → (a || true) ≡ true
or_true true = refl
or_true false = refl

no_score : is_digit (byte "_") ≡ true → ⊥
unfolding is_digit class_of
no_score e = let f : false ≡ true = e in let z : ◌≡◌ {A = ℕ} 0 1 = cc in omega arith

begun : (w : List ℕ) → begins w ≡ true → has_digit w ≡ not (is_empty w)
unfolding has_digit begins is_empty
begun [] b = refl
begun (x ∷ r) b = go (eqb x (byte "_")) refl
  where
    go : (t : Bool) → eqb x (byte "_") ≡ t → pick t (has_digit r) true ≡ true
    go true e = absurd (no_score (subst (λ (y : ℕ). is_digit y ≡ true) (eqb-true x (byte "_") e) b))
    go false e = refl

-- what each run of digits does to the state
abbrev pub whole_folded : Fold → List ℕ → Fold
whole_folded s w = record {
  phase = pick (has_digit w) Whole s.phase;
  neg = s.neg;
  any = has_digit w || s.any;
  whole = folded pushed s.whole w;
  mantissa = folded digit_pushed s.mantissa w;
  behind = s.behind;
  down = s.down;
  power = s.power;
}

abbrev pub part_folded : Fold → List ℕ → Fold
part_folded s w = record {
  phase = pick (has_digit w) Behind s.phase;
  neg = s.neg;
  any = has_digit w || s.any;
  whole = s.whole;
  mantissa = folded digit_pushed s.mantissa w;
  behind = folded (λ b d. counted (b + 1)) s.behind w;
  down = s.down;
  power = s.power;
}

abbrev pub power_folded : Fold → List ℕ → Fold
power_folded s w = record {
  phase = pick (has_digit w) Power s.phase;
  neg = s.neg;
  any = s.any;
  whole = s.whole;
  mantissa = s.mantissa;
  behind = s.behind;
  down = s.down;
  power = folded shifted s.power w;
}

same_phase : (t : Bool) (f : Phase) → pick t f f ≡ f
same_phase true f = refl
same_phase false f = refl

pub whole_fold : (w : List ℕ) (s : Fold) → folded whole_pushed s w ≡ whole_folded s w
unfolding folded has_digit whole_pushed
whole_fold [] s = refl
whole_fold (x ∷ r) s = go (eqb x (byte "_")) refl (whole_fold r)
  where
    go : (t : Bool) → eqb x (byte "_") ≡ t → ((s : Fold) → folded whole_pushed s r ≡ whole_folded s r) → folded whole_pushed s (x ∷ r) ≡ whole_folded s (x ∷ r)
    go true e ih = simp e (ih s)
    go false e ih = simp e (ih (whole_pushed s (class_of x)) ∙ simp (or_true, same_phase))

pub part_fold : (w : List ℕ) (s : Fold) → folded part_pushed s w ≡ part_folded s w
unfolding folded has_digit part_pushed
part_fold [] s = refl
part_fold (x ∷ r) s = go (eqb x (byte "_")) refl (part_fold r)
  where
    go : (t : Bool) → eqb x (byte "_") ≡ t → ((s : Fold) → folded part_pushed s r ≡ part_folded s r) → folded part_pushed s (x ∷ r) ≡ part_folded s (x ∷ r)
    go true e ih = simp e (ih s)
    go false e ih = simp e (ih (part_pushed s (class_of x)) ∙ simp (or_true, same_phase))

pub power_fold : (w : List ℕ) (s : Fold) → folded power_pushed s w ≡ power_folded s w
unfolding folded has_digit power_pushed
power_fold [] s = refl
power_fold (x ∷ r) s = go (eqb x (byte "_")) refl (power_fold r)
  where
    go : (t : Bool) → eqb x (byte "_") ≡ t → ((s : Fold) → folded power_pushed s r ≡ power_folded s r) → folded power_pushed s (x ∷ r) ≡ power_folded s (x ∷ r)
    go true e ih = simp e (ih s)
    go false e ih = simp e (ih (power_pushed s (class_of x)) ∙ simp same_phase)

-- the state of a whole numeral
abbrev mid_of : Bool → Numeral → Fold
mid_of neg n = record {
  phase = pick n.point (pick (has_digit n.part) Behind Point) (pick (has_digit n.whole) Whole Front);
  neg = neg;
  any = has_digit n.part || (has_digit n.whole || false);
  whole = folded pushed (magnitude_of 0) n.whole;
  mantissa = mantissa_of n;
  behind = behind_of n;
  down = false;
  power = capped 0;
}

abbrev phase_of : Bool → Numeral → Phase
phase_of sign n = pick n.exponent (pick (has_digit n.power) Power (pick sign Sign Letter)) (pick n.point (pick (has_digit n.part) Behind Point) (pick (has_digit n.whole) Whole Front))

abbrev state_of : Bool → Bool → Numeral → Fold
state_of neg sign n = record {
  phase = phase_of sign n;
  neg = neg;
  any = has_digit n.part || (has_digit n.whole || false);
  whole = folded pushed (magnitude_of 0) n.whole;
  mantissa = mantissa_of n;
  behind = behind_of n;
  down = n.down;
  power = folded shifted (capped 0) n.power;
}

module _ (neg sign : Bool) (n : Numeral) (h : Written sign n) where
  part_is : part_of n (folded whole_pushed (sign_passed started neg) n.whole) ≡ mid_of neg n
  unfolding started sign_passed part_of in_phase folded has_digit
  part_is = go n.point refl
    where
      go : (t : Bool) → n.point ≡ t → part_of n (folded whole_pushed (sign_passed started neg) n.whole) ≡ mid_of neg n
      go true e = rw (part_of, e) (part_fold n.part (in_phase Point (folded whole_pushed (sign_passed started neg) n.whole)) ∙ ap (λ (s : Fold). part_folded (in_phase Point s) n.part) (whole_fold n.whole (sign_passed started neg)))
      go false e = rw (part_of, e, h.no_part e) (whole_fold n.whole (sign_passed started neg))

  fold_is : fold_of neg sign n ≡ state_of neg sign n
  unfolding fold_of exponent_of in_phase power_signed folded has_digit
  fold_is = ap (exponent_of sign n) part_is ∙ go n.exponent refl sign refl
    where
      go : (t : Bool) → n.exponent ≡ t → (u : Bool) → sign ≡ u → exponent_of sign n (mid_of neg n) ≡ state_of neg sign n
      go true e true f = rw (exponent_of, e, f) (power_fold n.power (power_signed (in_phase Letter (mid_of neg n)) n.down))
      go true e false f = rw (exponent_of, e, f, h.unsigned f) (power_fold n.power (in_phase Letter (mid_of neg n)))
      go false e u f = rw (exponent_of, e, h.no_power e, h.no_sign e)

  -- the tests of a numeral
  any_is : (has_digit n.part || (has_digit n.whole || false)) ≡ not (is_empty n.whole && is_empty n.part)
  any_is = rw (begun n.part h.part_begins, begun n.whole h.whole_begins) (either (is_empty n.whole) (is_empty n.part))
    where
      either : (a b : Bool) → (not b || (not a || false)) ≡ not (a && b)
      either true true = refl
      either true false = refl
      either false true = refl
      either false false = refl

  -- without a digit behind `e` it is not valid, else it is where there is one before or behind the point
  open_is : (n.exponent && is_empty n.power) ≡ true → is_valid n ≡ false
  unfolding is_valid
  open_is e = rw (is_valid, e) (and_false (not (is_empty n.whole && is_empty n.part)))
    where
      and_false : (a : Bool) → (a && false) ≡ false
      and_false true = refl
      and_false false = refl

  valid_is : (n.exponent && is_empty n.power) ≡ false → (has_digit n.part || (has_digit n.whole || false)) ≡ is_valid n
  unfolding is_valid
  valid_is e = any_is ∙ sym (rw (is_valid, e) (and_true (not (is_empty n.whole && is_empty n.part))))

given_float : (neg : Bool) (o : Option ℕ) → given (float_literal neg o) ≡ elim o [ some b ↦ ret (float (signed neg b)) | none ↦ refuse 17 ]
unfolding given float_literal
given_float neg (some b) = refl
given_float neg none = refl

given_words : (neg : Bool) (v : ℕ) →
    given (words_literal (signed_of neg (magnitude_of v))) ≡ elim (leb v (largest neg)) [ true ↦ ret (int (halves (twos neg v))) | false ↦ refuse 7 ]
unfolding given words_literal
given_words neg v = ap (λ (r : Maybe ℕ). given (words_literal r)) (signed_value neg v) ∙ go (leb v (largest neg))
  where
    go : (t : Bool) → given (words_literal (pick t (Some (twos neg v)) None)) ≡ elim t [ true ↦ ret (int (halves (twos neg v))) | false ↦ refuse 7 ]
    go true = refl
    go false = refl

words_are : (neg : Bool) (w : List ℕ) →
    given (elim (not (is_empty w)) [ true ↦ words_literal (signed_of neg (folded pushed (magnitude_of 0) w)) | false ↦ Err 7 ]) ≡ integer_of neg w
unfolding is_empty integer_of given
words_are neg [] = refl
words_are neg (x ∷ r) = ap (λ (a : Maybe ℕ). given (words_literal (signed_of neg a))) (magnitude_value (x ∷ r) 0) ∙ given_words neg (value_of 0 (x ∷ r))

module _ (neg sign : Bool) (n : Numeral) (h : Written sign n) where
  float_is : (n.exponent && is_empty n.power) ≡ false → given (decimal_in (state_of neg sign n)) ≡ decimal_of neg n
  unfolding decimal_in decimal_of given
  float_is o = go (is_valid n) refl
    where
      go : (t : Bool) → is_valid n ≡ t → given (decimal_in (state_of neg sign n)) ≡ decimal_of neg n
      go true e =
          rw (decimal_in, valid_is neg sign n h o, decimal_of, e)
          (ap (λ (o : Option ℕ). given (float_literal neg o)) (float_right n h.whole_digits h.part_digits h.few) ∙ given_float neg (float_of n))
      go false e = rw (decimal_in, valid_is neg sign n h o, decimal_of, e)

  open_out : (n.exponent && is_empty n.power) ≡ true → given (Err 7) ≡ decimal_of neg n
  unfolding decimal_of given
  open_out o = sym (rw (decimal_of, open_is neg sign n h o))

  integer_is : n.point ≡ false → given (integer_in (state_of neg sign n)) ≡ integer_of neg n.whole
  unfolding integer_in is_empty
  integer_is e = rw (integer_in, any_is neg sign n h, h.no_part e) (rw (and_true (is_empty n.whole)) (words_are neg n.whole))

  -- by its phase
  in_phase_lem : (f : Phase) → phase_of sign n ≡ f → given (literal_in (state_of neg sign n)) ≡ given (literal_at f (state_of neg sign n))
  in_phase_lem f e = ap (λ (g : Phase). given (literal_at g (state_of neg sign n))) e

  powered_is : (m : Bool) → is_empty n.power ≡ m → has_digit n.power ≡ not m
  powered_is m e = begun n.power h.power_begins ∙ ap not e

  -- "with `e` or `E`, one behind that"
  exponent_literal : n.exponent ≡ true → given (literal_in (state_of neg sign n)) ≡ decimal_of neg n
  unfolding literal_at
  exponent_literal e = go (is_empty n.power) refl sign refl
    where
      go : (m : Bool) → is_empty n.power ≡ m → (f : Bool) → sign ≡ f → given (literal_in (state_of neg sign n)) ≡ decimal_of neg n
      go true i true j = in_phase_lem Sign (rw (e, powered_is true i, j)) ∙ open_out (rw (e, i))
      go true i false j = in_phase_lem Letter (rw (e, powered_is true i, j)) ∙ open_out (rw (e, i))
      go false i f j = in_phase_lem Power (rw (e, powered_is false i)) ∙ float_is (rw (e, i))

  point_literal : n.exponent ≡ false → n.point ≡ true → given (literal_in (state_of neg sign n)) ≡ decimal_of neg n
  unfolding literal_at
  point_literal e p = go (has_digit n.part) refl
    where
      go : (t : Bool) → has_digit n.part ≡ t → given (literal_in (state_of neg sign n)) ≡ decimal_of neg n
      go true i = in_phase_lem Behind (rw (e, p, i)) ∙ float_is (rw e)
      go false i = in_phase_lem Point (rw (e, p, i)) ∙ float_is (rw e)

  whole_literal : n.exponent ≡ false → n.point ≡ false → given (literal_in (state_of neg sign n)) ≡ integer_of neg n.whole
  unfolding literal_at
  whole_literal e p = go (has_digit n.whole) refl
    where
      go : (t : Bool) → has_digit n.whole ≡ t → given (literal_in (state_of neg sign n)) ≡ integer_of neg n.whole
      go true i = in_phase_lem Whole (rw (e, p, i)) ∙ integer_is p
      go false i = in_phase_lem Front (rw (e, p, i)) ∙ integer_is p

  -- "One with `.`, `e` or `E` is the binary64 nearest its value"; else an integer
  a_decimal : is_float n ≡ true → decimal_of neg n ≡ literal_of neg n
  unfolding literal_of
  a_decimal e = sym (rw (literal_of, e))

  an_integer : is_float n ≡ false → integer_of neg n.whole ≡ literal_of neg n
  unfolding literal_of
  an_integer e = sym (rw (literal_of, e))

  state_literal : given (literal_in (state_of neg sign n)) ≡ literal_of neg n
  unfolding is_float
  state_literal = go n.exponent refl n.point refl
    where
      go : (e : Bool) → n.exponent ≡ e → (p : Bool) → n.point ≡ p → given (literal_in (state_of neg sign n)) ≡ literal_of neg n
      go true e true p = exponent_literal e ∙ a_decimal (rw p)
      go true e false p = exponent_literal e ∙ a_decimal (rw (p, e))
      go false e true p = point_literal e p ∙ a_decimal (rw p)
      go false e false p = whole_literal e p ∙ an_integer (rw (p, e))

  pub numeral_literal : given (literal_in (fold_of neg sign n)) ≡ literal_of neg n
  numeral_literal = ap (λ (s : Fold). given (literal_in s)) (fold_is neg sign n h) ∙ state_literal
