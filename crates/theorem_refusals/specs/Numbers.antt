-- Each program that reads a number refuses inside the text; what it gives is in its bounds, or the words of a value.
-- Assumes nothing.
use Rattle.std.specs.Prelude.{refl, Bool, true, false, ◌&&◌, List, [], ◌∷◌, ℕ, ◌≤◌, leb, eqb, length}
use Rattle.std.proofs.Math.Option.{Option, none, some}
use Rattle.std.proofs.Common.{leb-true}
use Rattle.program.specs.Class.{inside}
use Rattle.program.specs.Prog.{ret}
use Rattle.program.specs.Local.{and_left}
use Rattle.records.specs.Kinds.{IntConst, FloatConst}
use Rattle.grammar.specs.Lexer.{refuse}
use Rattle.grammar.specs.Numbers.{digits, value_of, number_of, parse_int, largest, parse_hex_float, parse_f0x, Numeral, read_sign, read_exponent, behind_point, read_numeric, is_float, is_valid, float_of, signed, halves, twos, Literal, float, integer_of, decimal_of, literal_of, parse_numeral}
use Rattle.grammar.specs.Values.{literal_words}
use Rattle.trees.specs.Forms.{value, sort_of, form_of, Laid}
use Rattle.theorem_refusals.specs.Inside.{Scope, and_right, Inside, gives, scans, Any, then_with, then, done, fails, either, either_with}
use Rattle.theorem_refusals.specs.Trees.{leaf}
use Rattle.theorem_refusals.specs.Lexer.{in_refuse, in_place, in_byte_if}

in_digits : {n : Scope} → Inside n Any digits
unfolding digits
in_digits = scans λ w. done

-- a number in the bounds that question 15 asks for
abbrev pub Between : (lo hi v : ℕ) → Type 0
Between lo hi v = (lo ≤ v) × (v ≤ hi)

in_number_of : {n : Scope} (lo hi i : ℕ) → i ≤ n.size → (w : List ℕ) → Inside n (Between lo hi) (number_of lo hi i w)
unfolding number_of
in_number_of lo hi i l [] = in_refuse 4 tt
in_number_of lo hi i l (x ∷ w) =
    let v : ℕ = value_of 0 (x ∷ w) in
    either_with (leb lo v && leb v hi) (λ e. gives (leb-true lo v (and_left (leb lo v) (leb v hi) e), leb-true v hi (and_right (leb lo v) (leb v hi) e)))
    (λ _. fails 15 i tt l)

pub in_parse_int : {n : Scope} (lo hi : ℕ) → Inside n (Between lo hi) (parse_int lo hi)
unfolding parse_int
in_parse_int lo hi = then_with in_place λ i l. then in_digits (in_number_of lo hi i l)

pub in_parse_hex_float : {n : Scope} → Inside n Any parse_hex_float
unfolding parse_hex_float
in_parse_hex_float = scans λ w. either (inside 1 16 (length w)) done (in_refuse 7 tt)

pub in_parse_f0x : {n : Scope} → Inside n Any parse_f0x
unfolding parse_f0x
in_parse_f0x = scans λ w. either (eqb (length w) 8) done (either (eqb (length w) 16) done (in_refuse 7 tt))

in_read_sign : {n : Scope} → Inside n Any read_sign
unfolding read_sign
in_read_sign = in_byte_if _ done (in_byte_if _ done done)

in_read_exponent : {n : Scope} (w : List ℕ) (p : Bool) (f : List ℕ) → Inside n Any (read_exponent w p f)
unfolding read_exponent
in_read_exponent w p f = then in_read_sign λ s. then in_digits λ e. done

in_behind_point : {n : Scope} (w : List ℕ) (p : Bool) (f : List ℕ) → Inside n Any (behind_point w p f)
unfolding behind_point
in_behind_point w p f = in_byte_if _ (in_read_exponent w p f) (in_byte_if _ (in_read_exponent w p f) done)

in_read_numeric : {n : Scope} → Inside n Any read_numeric
unfolding read_numeric
in_read_numeric = then in_digits λ w. in_byte_if _ (then in_digits λ f. in_behind_point w true f) (in_behind_point w false [])

-- "An integer is two words": its node and a float's are those of a value
abbrev pub Constant : ℕ → Literal → Type 0
Constant n l = Laid n (value ∷ []) (literal_words l)

in_integer_of : {n : Scope} (neg : Bool) (w : List ℕ) → Inside n (Constant n.limit) (integer_of neg w)
unfolding integer_of literal_words sort_of form_of
in_integer_of neg [] = in_refuse 7 tt
in_integer_of neg (x ∷ w) = either (leb (value_of 0 (x ∷ w)) (largest neg)) (gives (leaf IntConst tt (halves (twos neg (value_of 0 (x ∷ w)))) tt (tt, (tt, tt)) refl)) (in_refuse 7 tt)

in_float_or : {n : Scope} (neg : Bool) (o : Option ℕ) → Inside {A = Literal} n (Constant n.limit) (elim o [ some b ↦ ret (float (signed neg b)) | none ↦ refuse 17 ])
unfolding literal_words sort_of form_of
in_float_or neg none = in_refuse 17 tt
in_float_or neg (some b) = gives (leaf FloatConst tt (signed neg b ∷ []) tt (tt, tt) refl)

in_decimal_of : {n : Scope} (neg : Bool) (x : Numeral) → Inside n (Constant n.limit) (decimal_of neg x)
unfolding decimal_of
in_decimal_of neg x = either (is_valid x) (in_float_or neg (float_of x)) (in_refuse 7 tt)

in_literal_of : {n : Scope} (neg : Bool) (x : Numeral) → Inside n (Constant n.limit) (literal_of neg x)
unfolding literal_of
in_literal_of neg x = either (is_float x) (in_decimal_of neg x) (in_integer_of neg x.whole)

pub in_parse_numeral : {n : Scope} (neg : Bool) → Inside n (Constant n.limit) (parse_numeral neg)
unfolding parse_numeral
in_parse_numeral neg = then in_read_numeric (in_literal_of neg)
