use mathlib.Core.Path.{◌≡◌, sym, ap, ◌∙◌}
use Prim.Native.Nat.{◌+◌}
use native.Mathlib.Omega.{arith}
use Rattle.channel_spec.specs.Fires.{child_at}
use Rattle.record_steps.specs.Views.{reached}
use Rattle.channel_calls.proofs.Nodes.{child_next, child_none}
use Rattle.channel_calls.proofs.child_at.Goals as goal

pub returns-in_err-at : goal.returns-in_err-at
unfolding child_at
returns-in_err-at c = rw c.from_residual.ensures (sym (child_none 0 c.args.number c.args.node.now (omega arith) (sym c.child.ensures ∙ ap reached c.in_err-at.was)))

pub loop-i-init : goal.loop-i-init
unfolding child_at
loop-i-init c = sym c.child.ensures ∙ ap reached c.in_ok-at.was

pub returns-in_err-at-2 : goal.returns-in_err-at-2
returns-in_err-at-2 c =
    rw c.from_residual-in_err-at-2.ensures
    (sym (child_none (c.loop-i._i + 1) c.args.number c.args.node.now (omega arith) (child_next c.loop-i._i c.args.node.now c.loop-i.at c.loop-i.invariant ∙ sym c.next.ensures ∙ ap reached c.in_err-at-2.was)))

pub loop-i-preserved : goal.loop-i-preserved
loop-i-preserved c = child_next c.loop-i._i c.args.node.now c.loop-i.at c.loop-i.invariant ∙ sym c.next.ensures ∙ ap reached c.in_ok-at-2.was

pub returns : goal.returns
returns c = let z : c.loop-i._i ≡ c.args.number = omega arith in sym (rw z at c.loop-i.invariant)
