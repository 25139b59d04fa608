use mathlib.Core.Path.{◌≡◌, refl, sym, ap, ◌∙◌}
use mathlib.Core.Option.{some}
use Prim.Native.Nat.{◌+◌, ◌-◌}
use native.Mathlib.Omega.{arith}
use lib.ListN.{length}
use Rattle.trees.specs.Steps.{next_of}
use Rattle.record_steps.specs.Views.{reached}
use Rattle.buffer.specs.Laws.{went_on}
use Rattle.map_spec.specs.Drawing.{edges_to}
use Rattle.map_spec.specs.Blocks.{block_name, names_from}
use Rattle.map_dot.proofs.Ends.{done, past}
use Rattle.map_dot.proofs.Edges.{edges_next, edges_none, edges_done}
use Rattle.map_dot.proofs.targets.put_edges_from.Goals as goal

pub loop-i-init : goal.loop-i-init
loop-i-init c = let z : c.args.n - 0 ≡ c.args.n = omega arith in (rw z, rw z, refl)

pub returns-then-k-eq-PAST : goal.returns-then-k-eq-PAST
returns-then-k-eq-PAST c = past _ c.if-k-eq-PAST.true c.loop-i.invariant.0 c.loop-i.invariant.1

pub returns-in-None : goal.returns-in-None
returns-in-None c =
    let b = block_name c.args.piece.now c.args.label.number c.args.label.word in
    let e = edges_next b (c.args.n - c.loop-i._i) c.args.piece.now c.args.own.now c.loop-i.place (omega arith) in
    let w = went_on (edges_to b (names_from (c.args.n - c.loop-i._i - 1) c.args.piece.now c.args.own.now (next_of c.args.own.now c.loop-i.place (length c.args.own.now)))) c.put_edge_to-k.ensures (rw e at c.loop-i.invariant.0) (rw e at c.loop-i.invariant.1) in
    let f = sym c.next.ensures ∙ ap reached c.in-None.is in
    done (rw f (edges_none b (c.args.n - c.loop-i._i - 1) c.args.piece.now c.args.own.now)) w.0 w.1

pub loop-i-preserved : goal.loop-i-preserved
loop-i-preserved c =
    let b = block_name c.args.piece.now c.args.label.number c.args.label.word in
    let e = edges_next b (c.args.n - c.loop-i._i) c.args.piece.now c.args.own.now c.loop-i.place (omega arith) in
    let w = went_on (edges_to b (names_from (c.args.n - c.loop-i._i - 1) c.args.piece.now c.args.own.now (next_of c.args.own.now c.loop-i.place (length c.args.own.now)))) c.put_edge_to-k.ensures (rw e at c.loop-i.invariant.0) (rw e at c.loop-i.invariant.1) in
    let f = sym c.next.ensures ∙ ap reached c.in-Some.is in
    let z : c.args.n - (c.loop-i._i + 1) ≡ c.args.n - c.loop-i._i - 1 = omega arith in
    (rw z (rw f at w.0), rw z (rw f at w.1), c.put_edge_to-k.auto.out ∙ c.loop-i.invariant.2)

pub returns : goal.returns
returns c =
    done (edges_done _ (c.args.n - c.loop-i._i) c.args.piece.now c.args.own.now (some c.loop-i.place) (omega arith)) c.loop-i.invariant.0 c.loop-i.invariant.1
