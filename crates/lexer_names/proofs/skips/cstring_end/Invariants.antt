-- The invariant `Between`: place and state where the automaton stops are those that it has from i on in state 0, and what stands at i does not stand
-- for itself. Each turn passes an escape.
use Prim.Native.Nat.{◌-◌}
use lib.ListN.{length}
use Rattle.lexer_names.proofs.Strings.{Between}
use Rattle.lexer_names.proofs.skips.cstring_end.Given as goal

abbrev pub invariant-loop-at : goal.invariant-loop-at
invariant-loop-at l = Between l.text l.at l.i

abbrev pub decreases-loop-at : goal.decreases-loop-at
decreases-loop-at l = length l.text - l.i
