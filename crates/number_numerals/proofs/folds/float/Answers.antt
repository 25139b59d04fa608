-- The sign bit is free in the bits of a decimal.
-- Assumes nothing.
use mathlib.Core.Bool.{Bool, true, false}
use mathlib.Core.Option.{Option}
use mathlib.Core.Path.{◌≡◌, sym, ap, subst}
use Prim.Native.Nat.{ℕ, ◌+◌, ◌^◌, ◌<◌}
use native.Mathlib.Nat.{zero-add}
use native.Mathlib.Omega.{arith}
use Rattle.std.proofs.Common.{Option as Maybe, Some, None, Ok, Err}
use Rattle.grammar.specs.Numbers.{signed}
use Rattle.number_decimals.specs.Decimals.{Unsigned, bits_of}
use Rattle.number_numerals.specs.Numerals.{float_literal}
use Rattle.number_integers.specs.declared.literal.Literal.TheVariants.{Float}
use Rattle.number_numerals.proofs.folds.float.Goals as goal

free : (r : Maybe ℕ) (b : ℕ) → r ≡ Some b → Unsigned r → b < 2 ^ 63
free r b e h = subst Unsigned e h

minus : (r : Maybe ℕ) (b : ℕ) (o : Option ℕ) (neg : Bool) → r ≡ Some b → bits_of r ≡ o → neg ≡ true → Ok (Float (9223372036854775808 + b)) ≡ float_literal neg o
unfolding float_literal signed bits_of
minus r b o neg e f n = rw (n, ← f, e)

plus : (r : Maybe ℕ) (b : ℕ) (o : Option ℕ) (neg : Bool) → r ≡ Some b → bits_of r ≡ o → neg ≡ false → Ok (Float b) ≡ float_literal neg o
unfolding float_literal signed bits_of
plus r b o neg e f n = rw (n, ← f, e) (ap (λ (x : ℕ). Ok (Float x)) (sym (zero-add b)))

refused : (r : Maybe ℕ) (o : Option ℕ) (neg : Bool) → r ≡ None → bits_of r ≡ o → Err 17 ≡ float_literal neg o
unfolding float_literal bits_of
refused r o neg e f = rw (← f, e)

pub overflow_add-result : goal.overflow_add-result
overflow_add-result c = (let h = free c.decimal_bits.result c.in-Some.b c.in-Some.is c.decimal_bits.ensures.1 in omega arith)

pub returns-then-s : goal.returns-then-s
returns-then-s c =
    minus c.decimal_bits.result c.in-Some.b _ _ c.in-Some.is c.decimal_bits.ensures.0 c.if-s.true

pub returns-else-s : goal.returns-else-s
returns-else-s c =
    plus c.decimal_bits.result c.in-Some.b _ _ c.in-Some.is c.decimal_bits.ensures.0 c.if-s.false

pub returns-in-None : goal.returns-in-None
returns-in-None c = refused c.decimal_bits.result _ _ c.in-None.is c.decimal_bits.ensures.0
