-- A numeral's state, byte by byte, and the literal that it is. 01: "A number begins with a digit; later underscores are passed over"; "A numeral is
-- valid with a digit before or behind its point and, with `e` or `E`, one behind that. One with `.`, `e` or `E` is the binary64 nearest its value";
-- questions 7 and 17.
-- Assumes nothing.
use Rattle.std.specs.Prelude.{Bool, true, false, ◌||◌, List, [], ◌∷◌, ℕ, suc, ◌+◌, eqb, Some, None, Result, Ok, Err}
use Rattle.std.specs.Prelude.{Option as Maybe}
use Rattle.std.proofs.Math.Option.{Option, none, some}
use Rattle.program.specs.Bytes.{byte}
use Rattle.program.specs.Choice.{pick}
use Rattle.program.specs.Class.{class_of, is_digit}
use Rattle.grammar.specs.Numbers.{signed}
use Rattle.number_decimals.specs.Decimals.{counted, no_digits, digit_pushed, float_in}
use Rattle.number_integers.specs.Integers.{magnitude_of, pushed, signed_of}
use Rattle.number_bits.specs.Number.{capped, shifted}
use Rattle.number_integers.specs.declared.literal.Literal.TheVariants.{Int, Float}
use Rattle.number_integers.specs.declared.literal.Literal.{Literal}
use Rattle.number_numerals.specs.declared.folds.Phase.{Phase}
use Rattle.number_numerals.specs.declared.folds.Phase.TheVariants.{Start, Front, Whole, Point, Behind, Letter, Sign, Power}
use Rattle.number_numerals.specs.declared.folds.Fold.{Fold}

-- before the sign
unfoldable pub started : Fold
started = record {
  phase = Start;
  neg = false;
  any = false;
  whole = magnitude_of 0;
  mantissa = no_digits;
  behind = 0;
  down = false;
  power = capped 0;
}

-- another phase and other signs
abbrev pub moved_to : Fold → Phase → Bool → Bool → Fold
moved_to s phase neg down = record {
  phase = phase;
  neg = neg;
  any = s.any;
  whole = s.whole;
  mantissa = s.mantissa;
  behind = s.behind;
  down = down;
  power = s.power;
}

-- the sign, or none
unfoldable pub sign_passed : Fold → Bool → Fold
sign_passed s neg = moved_to s Front neg s.down

-- the point, or the exponent's letter
unfoldable pub in_phase : Phase → Fold → Fold
in_phase f s = moved_to s f s.neg s.down

-- the exponent's sign
unfoldable pub power_signed : Fold → Bool → Fold
power_signed s down = moved_to s Sign s.neg down

-- a digit before the point
unfoldable pub whole_pushed : Fold → ℕ → Fold
whole_pushed s d = record {
  phase = Whole;
  neg = s.neg;
  any = true;
  whole = pushed s.whole d;
  mantissa = digit_pushed s.mantissa d;
  behind = s.behind;
  down = s.down;
  power = s.power;
}

-- a digit behind the point
unfoldable pub part_pushed : Fold → ℕ → Fold
part_pushed s d = record {
  phase = Behind;
  neg = s.neg;
  any = true;
  whole = s.whole;
  mantissa = digit_pushed s.mantissa d;
  behind = counted (s.behind + 1);
  down = s.down;
  power = s.power;
}

-- a digit of the exponent
unfoldable pub power_pushed : Fold → ℕ → Fold
power_pushed s d = record {
  phase = Power;
  neg = s.neg;
  any = s.any;
  whole = s.whole;
  mantissa = s.mantissa;
  behind = s.behind;
  down = s.down;
  power = shifted s.power d;
}

-- The phase behind the byte x, or none where the numeral ends before it: `e` or `E`; a digit before the point, the point or the letter; a digit
-- behind the point or the letter; a digit of the exponent.
unfoldable pub letter_next : ℕ → Option Phase
letter_next x = pick (eqb x (byte "e") || eqb x (byte "E")) (some Letter) none

unfoldable pub whole_next : ℕ → Option Phase
whole_next x = pick (is_digit x) (some Whole) (pick (eqb x (byte ".")) (some Point) (letter_next x))

unfoldable pub part_next : ℕ → Option Phase
part_next x = pick (is_digit x) (some Behind) (letter_next x)

unfoldable pub power_next : ℕ → Option Phase
power_next x = pick (is_digit x) (some Power) none

unfoldable pub is_sign : ℕ → Bool
is_sign x = eqb x (byte "+") || eqb x (byte "-")

-- a numeral begins with its sign or a digit (`numeric_or`)
unfoldable pub first_next : ℕ → Option Phase
first_next x = pick (is_sign x) (some Front) (pick (is_digit x) (some Whole) none)

-- "A number begins with a digit; later underscores are passed over"
unfoldable pub next_phase : Phase → ℕ → Option Phase
next_phase Start x = first_next x
next_phase Front x = whole_next x
next_phase Whole x = pick (eqb x (byte "_")) (some Whole) (whole_next x)
next_phase Point x = part_next x
next_phase Behind x = pick (eqb x (byte "_")) (some Behind) (part_next x)
next_phase Letter x = pick (is_sign x) (some Sign) (power_next x)
next_phase Sign x = power_next x
next_phase Power x = pick (eqb x (byte "_")) (some Power) (power_next x)

-- the state behind the byte x, which is of that phase and no underscore
unfoldable pub pushed_in : Phase → Fold → ℕ → Fold
pushed_in Start s x = s
pushed_in Front s x = sign_passed s (eqb x (byte "-"))
pushed_in Whole s x = whole_pushed s (class_of x)
pushed_in Point s x = in_phase Point s
pushed_in Behind s x = part_pushed s (class_of x)
pushed_in Letter s x = in_phase Letter s
pushed_in Sign s x = power_signed s (eqb x (byte "-"))
pushed_in Power s x = power_pushed s (class_of x)

unfoldable pub taken_in : Phase → Fold → ℕ → Fold
taken_in f s x = pick (eqb x (byte "_")) s (pushed_in f s x)

-- a byte more
abbrev pub takes : Option Phase → Fold → ℕ → Option Fold
takes (some f) s x = some (taken_in f s x)
takes none s x = none

abbrev pub step : Fold → ℕ → Option Fold
step s x = takes (next_phase s.phase x) s x

-- the state behind all bytes that the numeral has of a text, and how many these are
unfoldable pub onward : Fold → List ℕ → Fold
onward s [] = s
onward s (x ∷ r) = elim (step s x) [ some t ↦ onward t r | none ↦ s ]

unfoldable pub reach : Fold → List ℕ → ℕ
reach s [] = 0
reach s (x ∷ r) = elim (step s x) [ some t ↦ suc (reach t r) | none ↦ 0 ]

-- the literal of a state, or the number of a question
unfoldable pub float_literal : Bool → Option ℕ → Result Literal ℕ
float_literal neg (some b) = Ok (Float (signed neg b))
float_literal neg none = Err 17

-- "A numeral is valid with a digit before or behind its point"
unfoldable pub decimal_in : Fold → Result Literal ℕ
decimal_in s = elim s.any [ true ↦ float_literal s.neg (float_in s.mantissa s.behind s.power s.down) | false ↦ Err 7 ]

unfoldable pub words_literal : Maybe ℕ → Result Literal ℕ
words_literal (Some n) = Ok (Int n)
words_literal None = Err 7

unfoldable pub integer_in : Fold → Result Literal ℕ
integer_in s = elim s.any [ true ↦ words_literal (signed_of s.neg s.whole) | false ↦ Err 7 ]

-- "and, with `e` or `E`, one behind that. One with `.`, `e` or `E` is the binary64 nearest its value"
unfoldable pub literal_at : Phase → Fold → Result Literal ℕ
literal_at Start s = integer_in s
literal_at Front s = integer_in s
literal_at Whole s = integer_in s
literal_at Point s = decimal_in s
literal_at Behind s = decimal_in s
literal_at Letter s = Err 7
literal_at Sign s = Err 7
literal_at Power s = decimal_in s

abbrev pub literal_in : Fold → Result Literal ℕ
literal_in s = literal_at s.phase s
