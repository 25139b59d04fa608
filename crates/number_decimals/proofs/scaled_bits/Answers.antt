-- The tests of `scaled_bits` in their order.
-- Assumes nothing.
use mathlib.Core.Option.{some}
use mathlib.Core.Path.{◌≡◌, refl, sym, ap, ◌∙◌}
use Prim.Native.Nat.{◌-◌}
use native.Mathlib.Omega.{arith}
use Rattle.number_decimals.proofs.Scale.{no_digits_lem, too_far, up_supported, down_supported, bits_are, none_are}
use Rattle.number_decimals.proofs.scaled_bits.Goals as goal
use Rattle.number_decimals.proofs.scaled_bits.Goals.{then-m-ge-DIGITS_LIMIT-via-then-m-ge-DIGITS_LIMIT, then-m-ge-DIGITS_LIMIT-via-else-m-ge-DIGITS_LIMIT+then-k-gt-POWER_LIMIT}

pub returns-then-m-ge-DIGITS_LIMIT : goal.returns-then-m-ge-DIGITS_LIMIT
returns-then-m-ge-DIGITS_LIMIT c =
    elim c.then-m-ge-DIGITS_LIMIT.branch [
      | then-m-ge-DIGITS_LIMIT-via-then-m-ge-DIGITS_LIMIT w ↦ none_are _ _ refl (no_digits_lem c.args.m c.args.up c.args.down w.if-m-ge-DIGITS_LIMIT.true)
      | then-m-ge-DIGITS_LIMIT-via-else-m-ge-DIGITS_LIMIT+then-k-gt-POWER_LIMIT w ↦
          none_are _ _ refl (too_far c.args.m c.args.up c.args.down (let h = c.abs_diff-k.ensures in omega arith))
    ]

pub returns-then-down-up : goal.returns-then-down-up
returns-then-down-up c =
    let h = c.abs_diff-k.ensures in
    let e : c.abs_diff-k.result ≡ c.args.up - c.args.down = omega arith in
    bits_are _ _
    (up_supported c.args.m c.args.up c.args.down c.if-m-ge-DIGITS_LIMIT.false c.if-down-up.true (omega arith) ∙ ap some (sym (rw e at c.nearest_up.ensures.0)))
    c.nearest_up.ensures.1

pub returns : goal.returns
returns c =
    let h = c.abs_diff-k.ensures in
    let e : c.abs_diff-k.result ≡ c.args.down - c.args.up = omega arith in
    bits_are _ _
    (down_supported c.args.m c.args.up c.args.down c.if-m-ge-DIGITS_LIMIT.false c.if-down-up.false (omega arith) ∙ ap some (sym (rw e at c.nearest_down.ensures.0)))
    c.nearest_down.ensures.1
