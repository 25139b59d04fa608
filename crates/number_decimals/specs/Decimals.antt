-- Decimals. 01: "the binary64 nearest its value, ties to even, defined over whole numbers"; "Supported: zero, or at most 15 digits without outer
-- zeros, times ten to the -22 up to 22."
-- Assumes nothing.
use Rattle.std.specs.Prelude.{Bool, true, false, ◌≡◌, ℕ, ◌+◌, ◌*◌, ◌^◌, ◌<◌, ◌≤◌, ltb, leb, eqb, Option, Some, None, IfSome}
use Rattle.std.proofs.Math.Option as maybe
use Rattle.program.specs.Choice.{pick}
use Rattle.grammar.specs.Numbers.{scaled_bits}
use Rattle.number_decimals.specs.declared.Parts.{Parts}
use Rattle.number_decimals.specs.declared.Significand.{Significand}
use Rattle.number_decimals.specs.declared.mantissa.Mantissa.{Mantissa}

-- twice the number whose parts by d are given
pub record Doubled (given : Parts) (d : ℕ) (p : Parts) : Type 0 where
  pub value : p.q * d + p.rest ≡ 2 * (given.q * d + given.rest)
  pub left : p.rest < d
  pub short : p.q < 2 ^ 53

-- n more bits of v: the quotient by d has 53 bits
pub record Scaled (v d : ℕ) (s : Significand) : Type 0 where
  pub value : s.parts.q * d + s.parts.rest ≡ v * 2 ^ s.n
  pub left : s.parts.rest < d
  pub long : 2 ^ 52 ≤ s.parts.q
  pub short : s.parts.q < 2 ^ 53
  pub few : s.n ≤ 104

-- v in two halves of 52 bits
pub record Product (v : ℕ) (p : Parts) : Type 0 where
  pub value : p.q * 2 ^ 52 + p.rest ≡ v
  pub left : p.rest < 2 ^ 52
  pub short : p.q < 2 ^ 52

-- The digits of a decimal. Counts stop at 2^62: no text has as many bytes.
unfoldable pub counted : ℕ → ℕ
counted n = pick (leb n (2 ^ 62)) n (2 ^ 62)

abbrev pub no_digits : Option Mantissa
no_digits = Some (record { sig = 0; zeros = 0 })

-- the digits of x, and z zeros behind, or none where they are too many: "at most 15 digits without outer zeros"
unfoldable pub few_digits : ℕ → ℕ → Option Mantissa
few_digits x z = pick (ltb x (10 ^ 15)) (Some (record { sig = x; zeros = z })) None

-- a digit more that is not zero, behind sig and zeros
unfoldable pub significant_pushed : ℕ → ℕ → ℕ → Option Mantissa
significant_pushed sig zeros d = pick (leb 15 zeros) None (few_digits (sig * 10 ^ (zeros + 1) + d) 0)

-- a digit more
unfoldable pub digit_pushed : Option Mantissa → ℕ → Option Mantissa
digit_pushed None d = None
digit_pushed (Some m) d =
    pick (eqb d 0)
    (pick (eqb m.sig 0) (Some m) (Some (record { sig = m.sig; zeros = counted (m.zeros + 1) })))
    (significant_pushed m.sig m.zeros d)

-- the bits, or none: question 17
unfoldable pub bits_of : Option ℕ → maybe.Option ℕ
bits_of (Some b) = maybe.some b
bits_of None = maybe.none

-- the sign bit is free
abbrev pub Unsigned : Option ℕ → Type 0
Unsigned o = IfSome o (λ b. b < 2 ^ 63)

-- m with zeros behind, of which so many digits stand behind the point, times ten to the e, or to the -e
unfoldable pub powered_bits : ℕ → ℕ → ℕ → ℕ → Bool → maybe.Option ℕ
powered_bits m zeros behind e down = scaled_bits m (pick down 0 e + counted zeros) (counted behind + pick down e 0)

unfoldable pub exponent_bits : ℕ → ℕ → ℕ → Bool → Option ℕ → maybe.Option ℕ
exponent_bits m noughts behind down (Some e) = powered_bits m noughts behind e down
exponent_bits m noughts behind down None = maybe.none

unfoldable pub float_in : Option Mantissa → ℕ → Option ℕ → Bool → maybe.Option ℕ
float_in None behind p down = maybe.none
float_in (Some m) behind p down = elim (eqb m.sig 0) [ true ↦ maybe.some 0 | false ↦ exponent_bits m.sig m.zeros behind down p ]
