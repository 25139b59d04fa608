-- A decimal with a digit, or none.
-- Assumes nothing.
use mathlib.Core.Bool.{true, false}
use mathlib.Core.Path.{◌≡◌, sym, ◌∙◌}
use Rattle.std.proofs.Common.{Err}
use Rattle.number_decimals.specs.Decimals.{float_in}
use Rattle.number_numerals.specs.Numerals.{decimal_in, float_literal}
use Rattle.number_numerals.specs.declared.folds.Fold.{Fold}
use Rattle.number_numerals.proofs.folds.decimal.Goals as goal

valid : (s : Fold) → s.any ≡ true → float_literal s.neg (float_in s.mantissa s.behind s.power s.down) ≡ decimal_in s
unfolding decimal_in
valid s e = sym (rw (decimal_in, e))

empty : (s : Fold) → s.any ≡ false → Err 7 ≡ decimal_in s
unfolding decimal_in
empty s e = sym (rw (decimal_in, e))

pub returns-then-s : goal.returns-then-s
returns-then-s c = c.float.ensures ∙ valid c.args.s c.if-s.true

pub returns : goal.returns
returns c = empty c.args.s c.if-s.false
