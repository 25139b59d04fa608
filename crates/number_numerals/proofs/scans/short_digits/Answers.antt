use mathlib.Core.Path.{ap}
use Prim.Native.Nat.{ℕ, ◌+◌, ◌*◌}
use native.Mathlib.Omega.{arith}
use Rattle.number_numerals.proofs.ScanLaws.{short_start, short_more, short_stop, short_past}
use Rattle.number_numerals.proofs.scans.short_digits.Goals as goal

pub loop-i-init : goal.loop-i-init
loop-i-init c = short_start _ _

pub loop-i-preserved : goal.loop-i-preserved
loop-i-preserved c =
    short_more c.loop-i.invariant c.loop-i-test.true c.class-d.ensures c.if-d-ge-DIGIT.false (ap (λ (x : ℕ). c.loop-i.v * 10 + x) c.from.ensures)

pub returns-then-d-ge-DIGIT : goal.returns-then-d-ge-DIGIT
returns-then-d-ge-DIGIT c =
    let l = c.loop-i.auto.i in
    short_stop c.loop-i.invariant c.loop-i-test.true c.class-d.ensures c.if-in_name.false (omega arith)

pub returns : goal.returns
returns c = short_past c.loop-i.invariant c.loop-i-test.false c.loop-i.auto.i c.if-text-at.false
