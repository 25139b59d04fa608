-- What is still to be stored, from where the code has come to, gives what all gives from the start.
use mathlib.Core.Path.{◌≡◌}
use lib.ListN.{length, drop}
use Rattle.buffer.specs.Stored.{stored, placed}
use Rattle.buffer.proofs.put_all.Given as goal

abbrev pub invariant-loop-b : goal.invariant-loop-b
invariant-loop-b l = (placed l.k (drop l.b-index l.bytes) ≡ placed l.at l.bytes) × (stored l.k (drop l.b-index l.bytes) l.out ≡ stored l.at l.bytes l.initial.out) × (length l.out ≡ length l.initial.out)
