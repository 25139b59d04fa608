-- The lines still to be stored, from where the code has come to, give what all give from the start.
use mathlib.Core.Path.{◌≡◌}
use Prim.Native.Nat.{◌-◌, ◌*◌}
use lib.ListN.{length, drop}
use Rattle.records.specs.Limits.{entry_words}
use Rattle.buffer.specs.Stored.{stored, placed}
use Rattle.pieces_listing.specs.Lines.{piece_lines}
use Rattle.pieces_listing.proofs.put_pieces.Given as goal

abbrev pub invariant-loop-i : goal.invariant-loop-i
invariant-loop-i l = (placed l.k (piece_lines l.i (l.n - l.i) (drop (l.i * entry_words) l.directory)) ≡ placed l.at (piece_lines 0 l.n l.directory)) × (stored l.k (piece_lines l.i (l.n - l.i) (drop (l.i * entry_words) l.directory)) l.out ≡ stored l.at (piece_lines 0 l.n l.directory) l.initial.out) × (length l.out ≡ length l.initial.out)
