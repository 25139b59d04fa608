use mathlib.Core.Path.{◌≡◌, refl, ◌∙◌}
use Prim.Native.Nat.{◌+◌, ◌-◌, ◌*◌}
use native.Mathlib.Omega.{arith}
use lib.ListN.{length, get_or, drop}
use Rattle.records.specs.Limits.{entry_words}
use Rattle.buffer.specs.Stored.{Stores}
use Rattle.map_dot.specs.Views.{sort_of_lines}
use Rattle.map_dot.proofs.Ends.{done, past}
use Rattle.map_dot.proofs.Lines.{block, turn, edges_shown, nodes_shown, lines_over, lines_done}
use Rattle.map_dot.proofs.put_lines.Goals as goal
use Rattle.map_dot.proofs.put_lines.Goals.{then-edges, else-edges}

pub loop-i-init : goal.loop-i-init
loop-i-init c =
    let z : c.args.n - 0 ≡ c.args.n = omega arith in
    (rw (z, c.behind_node-w.ensures), rw (z, c.behind_node-w.ensures), refl)

pub returns-then-directory-i : goal.returns-then-directory-i
returns-then-directory-i c =
    done (lines_over (sort_of_lines c.args.edges) c.args.text.now (drop c.loop-i.w c.args.words.now) c.args.directory.now c.loop-i.i c.args.n c.if-directory-i.true) c.loop-i.invariant.0 c.loop-i.invariant.1

pub returns-then-k-eq-PAST : goal.returns-then-k-eq-PAST
returns-then-k-eq-PAST c = past _ c.if-k-eq-PAST.true c.loop-i.invariant.0 c.loop-i.invariant.1

pub loop-i-preserved : goal.loop-i-preserved
loop-i-preserved c =
    let ws = drop c.loop-i.w c.args.words.now in
    let x = get_or c.args.directory.now ((c.loop-i.i + 1) * entry_words) 0 in
    let n = get_or c.args.directory.now ((c.loop-i.i + 1) * entry_words + 2) 0 in
    let b = block c.args.text.now ws c.args.directory.now (c.loop-i.i + 1) in
    let s : Stores (sort_of_lines c.args.edges b) c.loop-i.k c.loop-i.out c.if-edges.k c.if-edges.out × (length c.if-edges.out ≡ length c.loop-i.out) =
    elim c.if-edges.branch [
      | then-edges w ↦
          (edges_shown _ c.args.text.now ws _ _ x n _ c.piece_text-piece.ensures c.node_at-own.ensures c.word_at.ensures w.if-edges.true w.put_edges-k.ensures w.k-is w.out-is, c.if-edges.auto.out)
      | else-edges w ↦
          (nodes_shown _ c.args.text.now ws _ _ x n _ c.piece_text-piece.ensures c.node_at-own.ensures c.word_at.ensures w.if-edges.false w.put_node-k.ensures w.k-is w.out-is, c.if-edges.auto.out)
    ] in
    let t = turn (sort_of_lines c.args.edges) c.args.text.now ws c.args.directory.now c.loop-i.i c.args.n _ c.loop-i-test.true (omega (arith, c.if-directory-i.false)) c.behind_node-w-in-loop-i.ensures s.0 c.loop-i.invariant.0 c.loop-i.invariant.1 in
    (t.0, t.1, s.1 ∙ c.loop-i.invariant.2)

pub returns : goal.returns
returns c =
    done (lines_done (sort_of_lines c.args.edges) c.args.text.now (drop c.loop-i.w c.args.words.now) c.args.directory.now c.loop-i.i c.args.n c.loop-i-test.false) c.loop-i.invariant.0 c.loop-i.invariant.1
