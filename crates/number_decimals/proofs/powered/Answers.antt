-- Sums that 64 bits do not hold are out of reach.
-- Assumes nothing.
use mathlib.Core.Path.{◌∙◌}
use Rattle.number_decimals.proofs.Scale.{far_down, far_up, down_bits, up_bits, none_are}
use Rattle.number_decimals.proofs.powered.Goals as goal

pub returns-in_err-checked_add : goal.returns-in_err-checked_add
returns-in_err-checked_add c =
    none_are _ _ c.from_residual.ensures
    (far_down c.args.m.sig c.args.m.zeros c.args.behind c.args.e c.args.down c.if-down.true (rw c.count-b.ensures at c.in_err-checked_add.ensures))

pub returns-then-down : goal.returns-then-down
returns-then-down c =
    let e = c.scaled_bits.ensures in
    (rw c.in_ok-checked_add.ensures.1 at e.0 ∙ down_bits c.args.m.sig c.args.m.zeros c.args.behind c.args.e c.args.down c.count-z.result c.count-b.result c.count-z.ensures c.count-b.ensures c.if-down.true, e.1)

pub returns-in_err-checked_add-2 : goal.returns-in_err-checked_add-2
returns-in_err-checked_add-2 c =
    none_are _ _ c.from_residual-in_err-checked_add-2.ensures
    (far_up c.args.m.sig c.args.m.zeros c.args.behind c.args.e c.args.down c.if-down.false (rw c.count-z.ensures at c.in_err-checked_add-2.ensures))

pub returns : goal.returns
returns c =
    let e = c.scaled_bits-2.ensures in
    (rw c.in_ok-checked_add-2.ensures.1 at e.0 ∙ up_bits c.args.m.sig c.args.m.zeros c.args.behind c.args.e c.args.down c.count-z.result c.count-b.result c.count-z.ensures c.count-b.ensures c.if-down.false, e.1)
