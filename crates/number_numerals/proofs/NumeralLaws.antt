-- The literal of a numeral at the cursor is that of the fold's state behind it; digits alone are the integer that they write.
-- Assumes nothing.
use mathlib.Core.Path.{◌≡◌, refl, ap, ◌∙◌, subst}
use mathlib.Core.List.{List, [], ◌∷◌}
use mathlib.Core.Bool.{Bool, true, false}
use Prim.Native.Nat.{ℕ, ◌+◌, ◌-◌, ◌%◌, ◌^◌, ◌<◌, ◌≤◌}
use native.Mathlib.Omega.{arith}
use lib.Dec.{leb}
use lib.ListN.{length, drop, length-drop}
use lib.Seq.{length-take-le}
use Rattle.std.proofs.Common.{Result}
use borrow.Author.Tests.{le-leb}
use Rattle.program.specs.Class.{class_of, is_name}
use Rattle.program.specs.Prog.{Prog, ret, scan_len, byte_at}
use Rattle.program.specs.Local.{scan_len_le}
use Rattle.grammar.specs.Lexer.{is_byte}
use Rattle.grammar.specs.Numbers.{Numeral, digit_step, value_of, halves, twos, largest, int, behind_point, read_numeric, is_float, integer_of, literal_of, parse_numeral, Literal as Written}
use Rattle.lexer.specs.Step.{taken, refused}
use Rattle.lexer.specs.Reads.{Aim, Finds, Gives}
use Rattle.lexer.specs.declared.Cursor.{Cursor}
use Rattle.lexer.specs.Parsed.{Parsed, Ok, Refused, Err}
use Rattle.lexer.proofs.Laws.{given as from-run, kept, g_then, g_done, g_byte_no, g_fail}
use Rattle.number_integers.specs.Folds.{folded, all_digits, begins}
use Rattle.number_integers.specs.Literals.{given}
use Rattle.number_numerals.specs.Numerals.{started, sign_passed, reach, literal_in}
use Rattle.number_integers.specs.declared.literal.Literal.TheVariants.{Int, Float}
use Rattle.number_integers.specs.declared.literal.Literal.{Literal}
use Rattle.number_numerals.specs.declared.folds.Fold.{Fold}
use Rattle.number_numerals.proofs.NumeralFolds.{Written as Proper, exponent_of, part_of, fold_of, numeral_literal}
use Rattle.number_numerals.proofs.NumeralRuns.{NumeralOf, numeral_of}
use Rattle.number_numerals.specs.Scans.{ShortAt}
use Rattle.number_numerals.specs.Reads.{FoldedAt, written_of}
use Rattle.number_numerals.proofs.ScanLaws.{digits_run}
use Rattle.lexer.proofs.TestLaws.{name_other}

-- ---- the numeral at the cursor
pub behind_sign : (neg : Bool) {text : List ℕ} {p q : Parsed} {s0 s1 s : Fold} → s0 ≡ started → s1 ≡ sign_passed s0 neg → FoldedAt s1 text p q s → FoldedAt (sign_passed started neg) text p q s
behind_sign neg {text} {p} {q} {s0} {s1} {s} e f a = subst (λ (u : Fold). FoldedAt u text p q s) (f ∙ ap (λ (u : Fold). sign_passed u neg) e) a

record NumeralAt (neg : Bool) (text : List ℕ) (p p' : Parsed) (s : Fold) : Type 0 where
  numeral : Numeral
  sign : Bool
  gives : Gives read_numeric numeral text p p'
  proper : length text ≤ 16777216 → Proper sign numeral
  state : s ≡ fold_of neg sign numeral

-- none of it was read
nowhere : Numeral
nowhere = record { whole = []; point = false; part = []; exponent = false; down = false; power = [] }

at_cursor : (neg : Bool) (text : List ℕ) (p : Parsed) {q : Parsed} {s : Fold} → FoldedAt (sign_passed started neg) text p q s → NumeralAt neg text p q s
unfolding nowhere fold_of exponent_of part_of folded all_digits begins
at_cursor neg text (Ok cur) a =
    let n : NumeralOf neg cur.at (drop cur.at text) = numeral_of neg cur.at (drop cur.at text) in
    record {
      numeral = n.numeral;
      sign = n.sign;
      gives = rw a.place (from-run cur (cur.at + reach (sign_passed started neg) (drop cur.at text)) (λ x. n.runs));
      proper = λ h. n.proper (omega (arith, length-drop cur.at text));
      state = a.state ∙ n.state;
    }
at_cursor neg text (Err r) a = record {
  numeral = nowhere;
  sign = false;
  gives = rw a.place (kept r.question r.place);
  proper = λ h. record {
    whole_digits = refl;
    part_digits = refl;
    whole_begins = refl;
    part_begins = refl;
    power_begins = refl;
    no_part = λ e. refl;
    no_power = λ e. refl;
    unsigned = λ e. refl;
    no_sign = λ e. refl;
    few = omega arith;
  };
  state = a.state;
}

-- ---- the literal
-- in a small text
small : {A : Type 0} {f : Prog A} {E : Aim A} {text : List ℕ} {p p' : Parsed} → ((e q : ℕ) → p ≡ Refused e q → p' ≡ Refused e q) → (length text ≤ 16777216 → Finds f E text p p') → Finds f E text p p'
small d h = record { runs = λ cur t i. (h i.small).runs cur t i; hands = d }

module _ (neg : Bool) {text : List ℕ} {p q : Parsed} {s : Fold} (f : FoldedAt (sign_passed started neg) text p q s) where
  literal_here : {l : Result Literal ℕ} {v : Written} {r : Parsed} → l ≡ literal_in s → Gives (given l) v text q r → Gives (parse_numeral neg) v text p r
  unfolding parse_numeral
  literal_here {l} {v} {r} e h =
      let a : NumeralAt neg text p q s = at_cursor neg text p f in
      small (λ n x t. h.hands n x (a.gives.hands n x t)) (λ k.
      let o : given l ≡ literal_of neg a.numeral = ap given e ∙ ap (λ (u : Fold). given (literal_in u)) a.state ∙ numeral_literal neg a.sign a.numeral (a.proper k) in
      g_then (literal_of neg) a.gives (subst (λ (g : Prog Written). Gives g v text q r) o h))

  pub literal_held : (l : Literal) → Ok l ≡ literal_in s → Gives (parse_numeral neg) (written_of l) text p q
  unfolding given written_of
  literal_held (Int n) e = literal_here e g_done
  literal_held (Float b) e = literal_here e g_done

  pub literal_out : (n : ℕ) {r : Parsed} (v : Written) → Err n ≡ literal_in s → r ≡ refused n q → Gives (parse_numeral neg) v text p r
  unfolding given
  literal_out n v e i = literal_here e (g_fail n i)

-- ---- digits that are a numeral by themselves
abbrev W : ℕ
W = 18446744073709551616

short_in : (neg : Bool) (v : ℕ) → v < W → leb v (largest neg) ≡ true
unfolding largest
short_in true v h = le-leb v (2 ^ 127) (omega arith)
short_in false v h = le-leb v (2 ^ 127 - 1) (omega arith)

integer_short : (neg : Bool) (v : ℕ) (l : List ℕ) → 0 < length l → v ≡ value_of 0 l → v < W → integer_of neg l ≡ ret (int (halves (twos neg v)))
unfolding integer_of
integer_short neg v [] n e h = absurd (omega arith)
integer_short neg v (x ∷ l) n e h = rw (e, integer_of, short_in neg (value_of 0 (x ∷ l)) (rw e at h))

point_named : is_name 46 ≡ true
unfolding is_name class_of
point_named = refl

e_named : is_name 101 ≡ true
unfolding is_name class_of
e_named = refl

E-named : is_name 69 ≡ true
unfolding is_name class_of
E-named = refl

module _ (neg : Bool) {text : List ℕ} {i v : ℕ} (cur : Cursor) (a : ShortAt text cur.at i v) where
  some_taken : 0 < length (taken digit_step 0 (drop cur.at text))
  some_taken = omega (arith, length-take-le (scan_len digit_step 0 (drop cur.at text)) (drop cur.at text) (scan_len_le digit_step 0 (drop cur.at text)), a.some, a.place)

  no_byte : (b : ℕ) → is_name b ≡ true → is_byte b (byte_at (drop i text)) ≡ false
  no_byte b n = name_other b _ n a.ends

  pub literal_short : v < W → Gives (parse_numeral neg) (int (halves (twos neg v))) text (Ok cur) (Ok (record { at = i; w = cur.w }))
  unfolding parse_numeral read_numeric behind_point literal_of is_float
  literal_short h =
      g_then (literal_of neg)
      (g_then _ (from-run cur i (λ x. digits_run text cur.at i a.place))
      (g_byte_no 46 _ refl (no_byte 46 point_named) (g_byte_no 101 _ refl (no_byte 101 e_named) (g_byte_no 69 _ refl (no_byte 69 E-named) g_done))))
      (rw (integer_short neg v (taken digit_step 0 (drop cur.at text)) some_taken a.value h) g_done)

-- its two's complement of 128 bits: a sum of both that 128 bits do not hold is 0
pub twos_minus : (neg : Bool) (v n : ℕ) → neg ≡ true → v < W → n < 2 ^ 128 → (n + v) % 2 ^ 128 ≡ 0 → n ≡ twos neg v
unfolding twos
twos_minus neg v n e h k z = rw e (turned v n h k z)
  where
    turned : (v n : ℕ) → v < W → n < 2 ^ 128 → (n + v) % 2 ^ 128 ≡ 0 → n ≡ (2 ^ 128 - v) % 2 ^ 128
    turned v n h k z = omega arith

pub twos_plus : (neg : Bool) (v : ℕ) → neg ≡ false → v ≡ twos neg v
unfolding twos
twos_plus neg v e = rw e
