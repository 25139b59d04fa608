use mathlib.Core.Path.{◌≡◌, sym, ap, ◌∙◌}
use Prim.Native.Nat.{◌+◌, ◌-◌}
use native.Mathlib.Omega.{arith}
use Rattle.record_steps.specs.Views.{reached}
use Rattle.map_dot.proofs.Edges.{last_next, last_here, last_done}
use Rattle.map_dot.proofs.targets.last.Goals as goal

pub loop-i-init : goal.loop-i-init
loop-i-init c = let z : c.args.n - 0 ≡ c.args.n = omega arith in rw z

pub returns-in-None : goal.returns-in-None
returns-in-None c =
    sym (last_here (c.args.n - c.loop-i._i) c.args.own.now c.loop-i.at
    (sym c.next.ensures ∙ ap reached c.in-None.is)) ∙ c.loop-i.invariant

pub loop-i-preserved : goal.loop-i-preserved
loop-i-preserved c =
    let z : c.args.n - (c.loop-i._i + 1) ≡ c.args.n - c.loop-i._i - 1 = omega arith in
    rw z
    (sym (last_next (c.args.n - c.loop-i._i) c.args.own.now c.loop-i.at _ (omega arith)
    (sym c.next.ensures ∙ ap reached c.in-Some.is)) ∙ c.loop-i.invariant)

pub returns : goal.returns
returns c = sym (last_done (c.args.n - c.loop-i._i) c.args.own.now c.loop-i.at (omega arith)) ∙ c.loop-i.invariant
