-- Numbers: integers, the bits of floats, decimals over whole numbers. 01: "Types and values", questions 4, 7, 15 and 17.
-- Assumes nothing.
use Rattle.std.specs.Prelude.{Bool, true, false, not, ◌&&◌, ◌||◌, List, [], ◌∷◌, ℕ, zero, suc, ◌+◌, ◌-◌, ◌*◌, ◌/◌, ◌%◌, ◌^◌, ltb, leb, eqb, length}
use Rattle.std.proofs.Math.Option.{Option, none, some}
use Rattle.program.specs.Bytes.{byte}
use Rattle.program.specs.Choice.{pick, test}
use Rattle.program.specs.Class.{class_of, inside, is_digit, is_hex}
use Rattle.program.specs.Prog.{Prog, ret, fail, scan, ◌>>=◌}
use Rattle.records.specs.Questions.{q_digit, q_literal, q_number, q_decimal}
use Rattle.grammar.specs.Lexer.{refuse, place, byte_if, is_empty}

-- "A number begins with a digit; later underscores are passed over."
unfoldable pub digit_step : ℕ → ℕ → Option ℕ
digit_step q x = pick (is_digit x) (some 1) (pick (eqb x (byte "_")) (pick (eqb q 0) none (some 1)) none)

unfoldable pub digits : Prog (List ℕ)
digits = scan digit_step 0 ret

-- the whole number that digits behind a write
unfoldable pub value_of : ℕ → List ℕ → ℕ
value_of a [] = a
value_of a (x ∷ r) = value_of (pick (eqb x (byte "_")) a (a * 10 + class_of x)) r

-- how many digits, underscores not counted
unfoldable pub count_digits : List ℕ → ℕ
count_digits [] = 0
count_digits (x ∷ r) = pick (eqb x (byte "_")) 0 1 + count_digits r

-- what the digits from place i on write
unfoldable pub number_of : ℕ → ℕ → ℕ → List ℕ → Prog ℕ
number_of lo hi i [] = refuse q_digit
number_of lo hi i (x ∷ r) = elim (leb lo (value_of 0 (x ∷ r)) && leb (value_of 0 (x ∷ r)) hi) [ true ↦ ret (value_of 0 (x ∷ r)) | false ↦ fail q_number i ]

-- `parse_int(10)`: question 4; question 15 is asked behind the digits. M-105: "Its place becomes the first digit."
unfoldable pub parse_int : ℕ → ℕ → Prog ℕ
parse_int lo hi = place >>= λ i. (digits >>= number_of lo hi i)

-- Integers: "two words, two's complement of 128 bits, high first".
abbrev pub halves : ℕ → List ℕ
halves n = n / 2 ^ 64 ∷ n % 2 ^ 64 ∷ []

unfoldable pub twos : Bool → ℕ → ℕ
twos true n = (2 ^ 128 - n) % 2 ^ 128
twos false n = n

-- question 7: "an integer within signed 128 bits"
unfoldable pub largest : Bool → ℕ
largest true = 2 ^ 127
largest false = 2 ^ 127 - 1

-- Floats, as their 64 bits.
unfoldable pub hex_of : ℕ → List ℕ → ℕ
hex_of a [] = a
hex_of a (x ∷ r) = hex_of (a * 16 + class_of x) r

unfoldable pub hex_step : ℕ → ℕ → Option ℕ
hex_step q x = pick (is_hex x) (some 0) none

-- `parse_hex_float`, behind `0x`: "takes 1 to 16 hex digits as bits"
unfoldable pub parse_hex_float : Prog ℕ
parse_hex_float = scan hex_step 0 (λ w. elim (inside 1 16 (length w)) [ true ↦ ret (hex_of 0 w) | false ↦ refuse q_literal ])

-- the place of the highest bit of n, where u is at least that place
unfoldable pub log2 : ℕ → ℕ → ℕ
log2 zero n = 0
log2 (suc u) n = test (ltb n 2) (λ x. 0) (λ x. suc (log2 u (n / 2)))

-- IEEE 754: the bits of a float are its sign, its exponent plus a bias, its fraction. Exponent 0 is a subnormal's, the highest, which is twice the
-- bias and 1, infinity's and NaN's.
-- For the others a 1 stands in front of the fraction, which is not written: both together are the significand.
abbrev pub fraction32 : ℕ
fraction32 = 23

abbrev pub bias32 : ℕ
bias32 = 127

abbrev pub fraction64 : ℕ
fraction64 = 52

abbrev pub bias64 : ℕ
bias64 = 1023

-- a NaN's quiet bit, the highest of its fraction
abbrev pub quiet32 : ℕ
quiet32 = 2 ^ (fraction32 - 1)

-- Widening of binary32, without the sign. A fraction moves up by as many bits as binary64 has more.
abbrev pub moved : ℕ → ℕ
moved f = f * 2 ^ (fraction64 - fraction32)

-- the highest exponent: "A NaN keeps its payload with the quiet bit set."
unfoldable pub special_bits : ℕ → ℕ
special_bits f = (2 * bias64 + 1) * 2 ^ fraction64 + pick (eqb f 0) 0 (moved (pick (leb quiet32 f) f (f + quiet32)))

-- A subnormal is f times 2 to the 1 - bias32 - fraction32. "In widening, a subnormal is shifted by its count of leading zeros": bit h is its
-- highest, which is not written then.
unfoldable pub subnormal_at : ℕ → ℕ → ℕ
subnormal_at h f = (h + (bias64 + 1 - bias32 - fraction32)) * 2 ^ fraction64 + (f - 2 ^ h) * 2 ^ (fraction64 - h)

unfoldable pub subnormal_bits : ℕ → ℕ
subnormal_bits f = subnormal_at (log2 fraction32 f) f

-- sign, exponent and fraction
unfoldable pub widen_parts : ℕ → ℕ → ℕ → ℕ
widen_parts s e f =
    s * 2 ^ 63 +
    pick (eqb e (2 * bias32 + 1)) (special_bits f)
    (pick (eqb e 0) (pick (eqb f 0) 0 (subnormal_bits f))
    ((e + (bias64 - bias32)) * 2 ^ fraction64 + moved f))

unfoldable pub widen : ℕ → ℕ
widen b = widen_parts (b / 2 ^ 31) (b / 2 ^ fraction32 % 256) (b % 2 ^ fraction32)

-- behind `f0x`: "exactly 8 (binary32 widened) or 16"
unfoldable pub parse_f0x : Prog ℕ
parse_f0x =
    scan hex_step 0 (λ w. elim (eqb (length w) 8) [
      | true ↦ ret (widen (hex_of 0 w))
      | false ↦ elim (eqb (length w) 16) [ true ↦ ret (hex_of 0 w) | false ↦ refuse q_literal ]
    ])

unfoldable pub is_odd : ℕ → Bool
is_odd n = eqb (n % 2) 1

-- the whole number nearest a quotient, ties to even: q, and r is left of m
unfoldable pub rounded : ℕ → ℕ → ℕ → ℕ
rounded q r m = pick (ltb m (2 * r) || (eqb m (2 * r) && is_odd q)) (q + 1) q

abbrev pub nearest_whole : ℕ → ℕ → ℕ
nearest_whole n m = rounded (n / m) (n % m) m

-- The binary64 nearest num / den, ties to even, for values from 10^-22 up to 10^37. A value is scaled up by this power of two, so that all bits
-- of its significand stand in front of the point: 10^22 is below 2^74, so it is at least 2^fraction64 then. And it is below 2^256.
abbrev pub scale : ℕ
scale = 74 + fraction64

-- A scaled value n / d whose highest bit is bit h: the value's exponent is h - scale, and its significand counts units of 2^(h - fraction64).
-- The significand's 1 in front, which is not written, is added to the exponent, so 1 is taken from that; where the significand is rounded up to
-- the next power of two, the sum is the next exponent.
unfoldable pub nearest_at : ℕ → ℕ → ℕ → ℕ
nearest_at h n d = (h + (bias64 - scale - 1)) * 2 ^ fraction64 + nearest_whole n (d * 2 ^ (h - fraction64))

unfoldable pub nearest_scaled : ℕ → ℕ → ℕ
nearest_scaled n d = nearest_at (log2 256 (n / d)) n d

unfoldable pub nearest : ℕ → ℕ → ℕ
nearest num den = nearest_scaled (num * 2 ^ scale) den

-- how many zeros stand at the end of a number's digits, of which there are at most u
unfoldable pub zeros_of : ℕ → ℕ → ℕ
zeros_of zero m = 0
zeros_of (suc u) m = test (eqb (m % 10) 0) (λ x. suc (zeros_of u (m / 10))) (λ x. 0)

-- m times ten to the a less b. "Supported: zero, or at most 15 digits without outer zeros, times ten to the -22 up to 22."
unfoldable pub scaled_bits : ℕ → ℕ → ℕ → Option ℕ
scaled_bits m a b =
    elim (ltb m (10 ^ 15) && (leb a (b + 22) && leb b (a + 22))) [
      | true ↦ some (pick (leb b a) (nearest (m * 10 ^ (a - b)) 1) (nearest m (10 ^ (b - a))))
      | false ↦ none
    ]

-- digits m, of which there are at most u, times ten to the a less b
unfoldable pub decimal_bits : ℕ → ℕ → ℕ → ℕ → Option ℕ
decimal_bits u m a b = elim (eqb m 0) [ true ↦ some 0 | false ↦ scaled_bits (m / 10 ^ zeros_of u m) (a + zeros_of u m) b ]

-- What stands in a numeral (`read_numeric`), behind its sign: digits; whether there is a point, and digits behind it; whether there is an
-- exponent, whether that is negative, and its digits.
pub record Numeral : Type 0 where
  pub whole : List ℕ
  pub point : Bool
  pub part : List ℕ
  pub exponent : Bool
  pub down : Bool
  pub power : List ℕ

-- `read_sign`: is it a minus?
unfoldable pub read_sign : Prog Bool
read_sign = byte_if (byte "+") (ret false) (byte_if (byte "-") (ret true) (ret false))

unfoldable pub read_exponent : List ℕ → Bool → List ℕ → Prog Numeral
read_exponent w p f = do
  s ← read_sign
  e ← digits
  ret (record { whole = w; point = p; part = f; exponent = true; down = s; power = e })

unfoldable pub behind_point : List ℕ → Bool → List ℕ → Prog Numeral
behind_point w p f =
    byte_if (byte "e") (read_exponent w p f)
    (byte_if (byte "E") (read_exponent w p f)
    (ret (record { whole = w; point = p; part = f; exponent = false; down = false; power = [] })))

unfoldable pub read_numeric : Prog Numeral
read_numeric = do
  w ← digits
  byte_if (byte ".") (digits >>= λ f. behind_point w true f) (behind_point w false [])

unfoldable pub is_float : Numeral → Bool
is_float n = n.point || n.exponent

-- "A numeral is valid with a digit before or behind its point and, with `e` or `E`, one behind that."
unfoldable pub is_valid : Numeral → Bool
is_valid n = not (is_empty n.whole && is_empty n.part) && not (n.exponent && is_empty n.power)

unfoldable pub digits_of : Numeral → ℕ
digits_of n = value_of (value_of 0 n.whole) n.part

unfoldable pub up_of : Numeral → ℕ
up_of n = pick n.down 0 (value_of 0 n.power)

unfoldable pub down_of : Numeral → ℕ
down_of n = count_digits n.part + pick n.down (value_of 0 n.power) 0

unfoldable pub float_of : Numeral → Option ℕ
float_of n = decimal_bits (length n.whole + length n.part) (digits_of n) (up_of n) (down_of n)

-- "a leading `-` sets its sign bit, at zero too"
unfoldable pub signed : Bool → ℕ → ℕ
signed neg bits = pick neg (2 ^ 63) 0 + bits

-- what a literal is: an integer's two words, or a float's bits
pub data Literal : Type 0 where
  int : List ℕ → Literal
  float : ℕ → Literal

unfoldable pub integer_of : Bool → List ℕ → Prog Literal
integer_of neg [] = refuse q_literal
integer_of neg (x ∷ r) = elim (leb (value_of 0 (x ∷ r)) (largest neg)) [ true ↦ ret (int (halves (twos neg (value_of 0 (x ∷ r))))) | false ↦ refuse q_literal ]

unfoldable pub decimal_of : Bool → Numeral → Prog Literal
decimal_of neg n =
    elim (is_valid n) [
      | true ↦ elim (float_of n) [ some b ↦ ret (float (signed neg b)) | none ↦ refuse q_decimal ]
      | false ↦ refuse q_literal
    ]

-- a numeral behind its sign: "One with `.`, `e` or `E` is the binary64 nearest its value"; questions 7 and 17 behind it
unfoldable pub literal_of : Bool → Numeral → Prog Literal
literal_of neg n = elim (is_float n) [ true ↦ decimal_of neg n | false ↦ integer_of neg n.whole ]

unfoldable pub parse_numeral : Bool → Prog Literal
parse_numeral neg = read_numeric >>= literal_of neg
