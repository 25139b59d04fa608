-- A mantissa that holds too much or nothing is answered at once; the rest is `exponent_bits`.
-- Assumes nothing.
use mathlib.Core.Bool.{Bool}
use mathlib.Core.Option.{none}
use mathlib.Core.Path.{◌≡◌, sym, ◌∙◌}
use Prim.Native.Nat.{ℕ}
use lib.Dec.{lit<}
use borrow.Author.Tests.{eq-eqb, ne_eqb}
use Rattle.std.proofs.Common.{Option, Some, None}
use Rattle.number_decimals.specs.Decimals.{powered_bits, float_in, exponent_bits, bits_of}
use Rattle.number_decimals.specs.declared.mantissa.Mantissa.{Mantissa}
use Rattle.number_decimals.proofs.Scale.{none_are}
use Rattle.number_decimals.proofs.decimal_bits.Goals as goal

module _ (s : Option Mantissa) (m : Mantissa) (behind : ℕ) (p : Option ℕ) (down : Bool) (held : s ≡ Some m) where
  zero_is : m.sig ≡ 0 → bits_of (Some 0) ≡ float_in s behind p down
  unfolding float_in bits_of
  zero_is e = rw (held, float_in, eq-eqb m.sig 0 e)

  module _ (some : m.sig ≡ 0 → ⊥) where
    goes_on : float_in s behind p down ≡ exponent_bits m.sig m.zeros behind down p
    unfolding float_in
    goes_on = rw (held, float_in, ne_eqb m.sig 0 some)

    over : p ≡ None → float_in s behind p down ≡ none
    unfolding exponent_bits
    over e = goes_on ∙ rw e

    exact : (e : ℕ) → p ≡ Some e → powered_bits m.sig m.zeros behind e down ≡ float_in s behind p down
    unfolding exponent_bits
    exact e q = sym (goes_on ∙ rw q)

pub returns-in_err-m : goal.returns-in_err-m
unfolding float_in
returns-in_err-m c = none_are _ _ c.from_residual.ensures (rw c.in_err-m.was)

pub returns-then-m-eq0 : goal.returns-then-m-eq0
returns-then-m-eq0 c = (zero_is _ _ c.args.behind c.args.p c.args.down c.in_ok-m.was c.if-m-eq0.true, lit< tt)

pub returns-in_err-p : goal.returns-in_err-p
returns-in_err-p c =
    none_are _ _ c.from_residual-in_err-p.ensures (over _ _ c.args.behind c.args.p c.args.down c.in_ok-m.was c.if-m-eq0.false c.in_err-p.was)

pub returns : goal.returns
returns c =
    (c.powered.ensures.0 ∙ exact _ _ c.args.behind c.args.p c.args.down c.in_ok-m.was c.if-m-eq0.false _ c.in_ok-p.was, c.powered.ensures.1)
