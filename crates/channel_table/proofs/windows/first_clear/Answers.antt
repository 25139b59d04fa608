use Prim.Native.Nat.{◌-◌, ◌+◌}
use native.Mathlib.Omega.{arith}
use Rattle.channel_table.proofs.Bits.{clear_here, clear_next, clear_none}
use mathlib.Core.Path.{sym, ◌∙◌, ◌≡◌}
use Rattle.channel_table.specs.Windows.{window_size}
use Rattle.channel_table.proofs.windows.first_clear.Goals as goal

pub returns-then-marks-k-eq0 : goal.returns-then-marks-k-eq0
returns-then-marks-k-eq0 c =
    sym (c.loop-k.invariant ∙ clear_here _ c.loop-k.k _ (omega (arith, c.loop-k-test.true)) c.if-marks-k-eq0.true)

pub loop-k-preserved : goal.loop-k-preserved
loop-k-preserved c =
    let z : window_size - (c.loop-k.k + 1) ≡ window_size - c.loop-k.k - 1 = omega arith in
    c.loop-k.invariant ∙ clear_next _ c.loop-k.k _ (omega (arith, c.loop-k-test.true)) c.if-marks-k-eq0.false ∙ rw z

pub returns : goal.returns
returns c = let z : c.loop-k.k ≡ window_size = omega arith in rw z at (sym (c.loop-k.invariant ∙ clear_none _ c.loop-k.k _ (omega (arith, c.loop-k-test.false))))
