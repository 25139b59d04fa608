-- An integer with a digit, in range or not.
-- Assumes nothing.
use mathlib.Core.Bool.{true, false}
use mathlib.Core.Path.{◌≡◌, sym, ap, ◌∙◌}
use Prim.Native.Nat.{ℕ}
use Rattle.std.proofs.Common.{Option, Some, None, Ok, Err}
use Rattle.number_integers.specs.Integers.{signed_of}
use Rattle.number_numerals.specs.Numerals.{integer_in, words_literal}
use Rattle.number_integers.specs.declared.literal.Literal.TheVariants.{Int}
use Rattle.number_numerals.specs.declared.folds.Fold.{Fold}
use Rattle.number_numerals.proofs.folds.whole_literal.Goals as goal

goes_on : (s : Fold) (r : Option ℕ) → s.any ≡ true → r ≡ signed_of s.neg s.whole → words_literal r ≡ integer_in s
unfolding integer_in
goes_on s r a e = sym (rw (integer_in, a) (ap words_literal (sym e)))

in_range : (r : Option ℕ) (n : ℕ) → r ≡ Some n → Ok (Int n) ≡ words_literal r
unfolding words_literal
in_range r n e = rw e

out : (r : Option ℕ) → r ≡ None → Err 7 ≡ words_literal r
unfolding words_literal
out r e = rw e

empty : (s : Fold) → s.any ≡ false → Err 7 ≡ integer_in s
unfolding integer_in
empty s a = sym (rw (integer_in, a))

pub returns-in-Some : goal.returns-in-Some
returns-in-Some c = in_range _ _ c.in-Some.is ∙ goes_on c.args.s c.signed.result c.if-s.true c.signed.ensures

pub returns-in-None : goal.returns-in-None
returns-in-None c = out _ c.in-None.is ∙ goes_on c.args.s c.signed.result c.if-s.true c.signed.ensures

pub returns : goal.returns
returns c = empty c.args.s c.if-s.false
