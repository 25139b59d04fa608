-- The edges still to be stored, from where the code has come to, give what all give from the start.
use mathlib.Core.Path.{◌≡◌}
use mathlib.Core.Option.{some}
use Prim.Native.Nat.{◌-◌}
use lib.ListN.{length}
use Rattle.buffer.specs.Stored.{stored, placed}
use Rattle.map_spec.specs.Drawing.{edges_to}
use Rattle.map_spec.specs.Blocks.{block_name, names_from}
use Rattle.map_dot.proofs.targets.put_edges_from.Given as goal

abbrev pub invariant-loop-i : goal.invariant-loop-i
invariant-loop-i l = (placed l.k (edges_to (block_name l.piece l.label.number l.label.word) (names_from (l.n - l._i) l.piece l.own (some l.place))) ≡ placed l.at (edges_to (block_name l.piece l.label.number l.label.word) (names_from l.n l.piece l.own (some l.first)))) × (stored l.k (edges_to (block_name l.piece l.label.number l.label.word) (names_from (l.n - l._i) l.piece l.own (some l.place))) l.out ≡ stored l.at (edges_to (block_name l.piece l.label.number l.label.word) (names_from l.n l.piece l.own (some l.first))) l.initial.out) × (length l.out ≡ length l.initial.out)
