-- 15 zeros or more before a digit make too many.
-- Assumes nothing.
use mathlib.Core.Path.{◌≡◌, ◌∙◌}
use Prim.Native.Nat.{ℕ, ◌*◌, ◌+◌, ◌^◌, ◌<◌}
use borrow.Author.Tests.{le-leb, lt-leb}
use Rattle.number_decimals.specs.Decimals.{few_digits, significant_pushed}
use Rattle.number_decimals.proofs.mantissa.significant.Goals as goal

first : (sig noughts d : ℕ) → noughts ≡ 0 → few_digits (sig * 10 + d) 0 ≡ significant_pushed sig noughts d
unfolding significant_pushed
first sig noughts d e = rw e

later : (sig noughts d p : ℕ) → noughts < 15 → p ≡ 10 ^ (noughts + 1) → few_digits (sig * p + d) 0 ≡ significant_pushed sig noughts d
unfolding significant_pushed
later sig noughts d p h e = simp (lt-leb 15 noughts h, e)

pub returns-then-m-ge-DIGITS : goal.returns-then-m-ge-DIGITS
unfolding significant_pushed
returns-then-m-ge-DIGITS c = simp (le-leb 15 _ c.if-m-ge-DIGITS.true)

pub returns-then-m-eq0 : goal.returns-then-m-eq0
returns-then-m-eq0 c =
    c.joined.ensures ∙ first c.args.m.sig c.args.m.zeros c.args.d c.if-m-eq0.true

pub returns : goal.returns
returns c =
    c.joined-2.ensures ∙ later c.args.m.sig c.args.m.zeros c.args.d c.ten.result c.if-m-ge-DIGITS.false c.ten.ensures
