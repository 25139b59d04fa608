-- A literal's node, and the constants. A header is a number that is known, since the node has no children and a known size.
-- Assumes nothing.
use mathlib.Core.Path.{◌≡◌, refl}
use mathlib.Core.List.{List, []}
use mathlib.Core.Bool.{Bool, true, false}
use Prim.Native.Nat.{ℕ, ◌^◌, ◌<◌}
use native.Mathlib.Omega.{arith}
use Rattle.program.specs.Class.{class_of, is_digit}
use Rattle.program.specs.Prog.{ret}
use Rattle.records.specs.Words.{node}
use Rattle.records.specs.declared.Refusal.{Refusal}
use Rattle.grammar.specs.Lexer.{is_byte}
use Rattle.grammar.specs.Numbers.{halves, twos, float, parse_numeral, Literal as Written}
use Rattle.grammar.specs.Values.{float_node, literal_words, numeral, numeric_or}
use Rattle.lexer.specs.Step.{looks_p, passed}
use Rattle.lexer.specs.Reads.{Leads, Reads, Gives, made, same}
use Rattle.lexer.specs.declared.Cursor.{Cursor}
use Rattle.lexer.specs.Parsed.{Parsed, Ok, Err}
use Rattle.lexer.proofs.Laws.{val_paid, call, handed_on, byte_yes, byte_no}
use Rattle.number_integers.specs.declared.literal.Literal.TheVariants.{Int, Float}
use Rattle.lexer.specs.Tests.{digit_p}
use Rattle.number_numerals.specs.Scans.{ShortAt}
use Rattle.number_numerals.specs.Reads.{written_of}
use Rattle.number_nodes.specs.Constants.{plus_value, minus_value, digit_value, IsRead, IsNone}
use Rattle.number_numerals.proofs.NumeralLaws.{literal_short}
use Rattle.number_nodes.proofs.Passing.{passes_numeral}
use Rattle.lexer.proofs.TestLaws.{digit_yes, digit_no, digit_first, byte_first}

module _ (neg : Bool) {text : List ℕ} {p q p' : Parsed} {w w' : List ℕ} where
  pub node_int : (n : ℕ) → Gives (parse_numeral neg) (written_of (Int n)) text p q → Leads (ret (node 18 0 0 (halves n))) 3 [] (made same text q) text q q w p' w' → Reads (numeral neg) text p w p' w'
  unfolding numeral literal_words written_of
  node_int n a r = val_paid _ 1 (passes_numeral neg) a (call 3 (omega arith) r)

  pub node_float : (b : ℕ) → Gives (parse_numeral neg) (written_of (Float b)) text p q → Leads (float_node b) 2 [] (made same text q) text q q w p' w' → Reads (numeral neg) text p w p' w'
  unfolding numeral literal_words written_of float_node
  node_float b a r = val_paid _ 1 (passes_numeral neg) a (call 2 (omega arith) r)

-- a refusal is handed on
pub node_out : (neg : Bool) {text : List ℕ} {p p' : Parsed} {e : Refusal} {w : List ℕ} → ((v : Written) → Gives (parse_numeral neg) v text p (Err e)) → p' ≡ Err e → Reads (numeral neg) text p w p' w
unfolding numeral
node_out neg a i = val_paid _ 1 (passes_numeral neg) (a (float 0)) (handed_on refl i)

-- digits that are a numeral by themselves
pub node_short : (neg : Bool) {text : List ℕ} {i v : ℕ} (cur : Cursor) {w : List ℕ} {p' : Parsed} {w' : List ℕ} → ShortAt text cur.at i v → v < 2 ^ 64 → Leads (ret (node 18 0 0 (halves (twos neg v)))) 3 [] (made same text (Ok (record { at = i; w = cur.w }))) text (Ok (record { at = i; w = cur.w })) (Ok (record { at = i; w = cur.w })) w p' w' → Reads (numeral neg) text (Ok cur) w p' w'
unfolding numeral literal_words
node_short neg cur a h n = val_paid _ 1 (passes_numeral neg) (literal_short neg cur a h) (call 3 (omega arith) n)

-- ---- the tests of a numeric constant, a digit first
no_plus : is_digit 43 ≡ false
unfolding is_digit class_of
no_plus = refl

no_minus : is_digit 45 ≡ false
unfolding is_digit class_of
no_minus = refl

not_both : is_byte 43 45 ≡ false
unfolding is_byte
not_both = refl

module _ {text : List ℕ} {p : Parsed} {w : List ℕ} where
  pub numeric_digit : {p' : Parsed} {w' : List ℕ} {d : Bool} → d ≡ digit_p text p → d ≡ true → Reads digit_value text p w p' w' → IsRead text p w p' w'
  unfolding numeric_or
  numeric_digit e y r g = digit_first 43 _ no_plus e y (digit_first 45 _ no_minus e y (digit_yes g e y r))

  pub numeric_minus : {q p' : Parsed} {w' : List ℕ} {m : Bool} → m ≡ looks_p text p 45 → m ≡ true → q ≡ passed text 1 p → Reads minus_value text q w p' w' → IsRead text p w p' w'
  unfolding numeric_or
  numeric_minus l y i r g = byte_first 43 _ 45 not_both l y (byte_yes 45 _ l y i (call 0 (omega arith) r))

  pub numeric_plus : {q p' : Parsed} {w' : List ℕ} {m : Bool} → m ≡ looks_p text p 43 → m ≡ true → q ≡ passed text 1 p → Reads plus_value text q w p' w' → IsRead text p w p' w'
  unfolding numeric_or
  numeric_plus l y i r g = byte_yes 43 _ l y i (call 0 (omega arith) r)

  pub numeric_none : {d m n : Bool} → d ≡ digit_p text p → d ≡ false → m ≡ looks_p text p 45 → m ≡ false → n ≡ looks_p text p 43 → n ≡ false → IsNone text p w w
  unfolding numeric_or
  numeric_none e x k y l z = record { on = λ g r. byte_no 43 _ l z (byte_no 45 _ k y (digit_no _ e x r)) }
