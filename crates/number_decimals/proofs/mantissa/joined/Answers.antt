-- What 64 bits do not hold has more than 15 digits.
-- Assumes nothing.
use mathlib.Core.Bool.{Bool, true, false}
use mathlib.Core.Path.{◌≡◌, refl, ◌∙◌}
use Prim.Native.Nat.{ℕ, ◌*◌, ◌+◌, ◌^◌}
use native.Mathlib.Omega.{arith}
use lib.Dec.{ltb}
use Rattle.std.specs.Bool.{then_some}
use Rattle.std.proofs.Common.{Some, None}
use Rattle.program.specs.Choice.{pick}
use Rattle.number_decimals.specs.Decimals.{few_digits}
use Rattle.number_decimals.specs.declared.mantissa.Mantissa.{Mantissa}
use Rattle.number_decimals.proofs.Scale.{many}
use Rattle.number_decimals.proofs.mantissa.joined.Goals as goal

pub returns-in_err-checked_mul : goal.returns-in_err-checked_mul
returns-in_err-checked_mul c =
    let h = c.in_err-checked_mul.ensures in
    c.from_residual.ensures ∙ many (c.args.sig * c.args.p + c.args.d) 0 (omega arith)

pub returns-in_err-x : goal.returns-in_err-x
returns-in_err-x c =
    let h = c.in_err-x.ensures in
    c.from_residual-in_err-x.ensures ∙ many (c.args.sig * c.args.p + c.args.d) 0 (omega arith)

few_then : (x y : ℕ) → x ≡ y → then_some {T = Mantissa} (ltb x (10 ^ 15)) (record { sig = x; zeros = 0 }) ≡ few_digits y 0
unfolding few_digits
few_then x y e = rw e (go (ltb y (10 ^ 15)) (record { sig = y; zeros = 0 }))
  where
    go : (t : Bool) (m : Mantissa) → then_some t m ≡ pick t (Some m) None
    go true m = refl
    go false m = refl

pub returns : goal.returns
returns c =
    let h = c.in_ok-x.ensures in
    c.then_some.ensures ∙ few_then c.in_ok-x.x (c.args.sig * c.args.p + c.args.d) (omega arith)
