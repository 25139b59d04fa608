use mathlib.Core.Path.{◌≡◌, sym, ap, ◌∙◌}
use mathlib.Core.Option.{some}
use Prim.Native.Nat.{◌+◌, ◌-◌}
use native.Mathlib.Omega.{arith}
use Rattle.record_steps.specs.Views.{reached}
use Rattle.channel_calls.proofs.Seeks.{from_turn, from_none, from_done}
use Rattle.channel_calls.proofs.seek_from.Goals as goal

pub loop-i-init : goal.loop-i-init
loop-i-init c = let z : c.args.n - 0 ≡ c.args.n = omega arith in rw z

pub returns-in_err-more : goal.returns-in_err-more
returns-in_err-more c =
    c.from_residual.ensures ∙ sym
    (from_turn c.loop-i.more (c.args.n - c.loop-i._i) c.args.piece.now c.args.own.now _ c.loop-i.at _ (omega arith) c.node_at.ensures (sym c.seek_here.ensures ∙ c.in_err-more.was)) ∙ c.loop-i.invariant

pub returns-in-None : goal.returns-in-None
returns-in-None c =
    let f = sym c.next.ensures ∙ ap reached c.in-None.is in
    let t = from_turn c.loop-i.more (c.args.n - c.loop-i._i) c.args.piece.now c.args.own.now _ c.loop-i.at _ (omega arith) c.node_at.ensures (sym c.seek_here.ensures ∙ c.in_ok-more.was) in
    sym (from_none _ (c.args.n - c.loop-i._i - 1) c.args.piece.now c.args.own.now) ∙ sym (rw f at t) ∙ c.loop-i.invariant

pub loop-i-preserved : goal.loop-i-preserved
loop-i-preserved c =
    let z : c.args.n - (c.loop-i._i + 1) ≡ c.args.n - c.loop-i._i - 1 = omega arith in
    let f = sym c.next.ensures ∙ ap reached c.in-Some.is in
    let t = from_turn c.loop-i.more (c.args.n - c.loop-i._i) c.args.piece.now c.args.own.now _ c.loop-i.at _ (omega arith) c.node_at.ensures (sym c.seek_here.ensures ∙ c.in_ok-more.was) in
    rw z (sym (rw f at t) ∙ c.loop-i.invariant)

pub returns : goal.returns
returns c = sym (from_done c.loop-i.more (c.args.n - c.loop-i._i) c.args.piece.now c.args.own.now (some c.loop-i.at) (omega arith)) ∙ c.loop-i.invariant
