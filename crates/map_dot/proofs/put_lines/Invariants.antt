-- The lines still to be stored, from where the code has come to, give what all give from the start.
use mathlib.Core.Path.{◌≡◌}
use lib.ListN.{length, drop}
use Rattle.records.specs.Limits.{entry_words}
use Rattle.buffer.specs.Stored.{stored, placed}
use Rattle.map_spec.specs.Drawing.{lines_of}
use Rattle.map_spec.specs.Blocks.{behind_node, blocks_from}
use Rattle.map_dot.specs.Views.{sort_of_lines}
use Rattle.map_dot.proofs.Lines.{lines_from}
use Rattle.map_dot.proofs.put_lines.Given as goal

abbrev pub invariant-loop-i : goal.invariant-loop-i
invariant-loop-i l = (placed l.k (lines_from (sort_of_lines l.edges) l.text (drop l.w l.words) l.directory l.i l.n) ≡ placed l.at (lines_of (sort_of_lines l.edges) (blocks_from l.n l.text (behind_node l.words) (drop entry_words l.directory)))) × (stored l.k (lines_from (sort_of_lines l.edges) l.text (drop l.w l.words) l.directory l.i l.n) l.out ≡ stored l.at (lines_of (sort_of_lines l.edges) (blocks_from l.n l.text (behind_node l.words) (drop entry_words l.directory))) l.initial.out) × (length l.out ≡ length l.initial.out)
