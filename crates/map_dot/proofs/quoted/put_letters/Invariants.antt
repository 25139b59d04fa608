-- The letters still to be stored, from where the code has come to, give what all give from the start.
use mathlib.Core.Path.{◌≡◌}
use lib.ListN.{length, drop}
use Rattle.buffer.specs.Stored.{stored, placed}
use Rattle.map_spec.specs.Drawing.{letters}
use Rattle.map_dot.proofs.quoted.put_letters.Given as goal

abbrev pub invariant-loop-x : goal.invariant-loop-x
invariant-loop-x l = (placed l.k (letters (drop l.x-index l.raw)) ≡ placed l.at (letters l.raw)) × (stored l.k (letters (drop l.x-index l.raw)) l.out ≡ stored l.at (letters l.raw) l.initial.out) × (length l.out ≡ length l.initial.out)
