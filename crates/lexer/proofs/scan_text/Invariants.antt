-- The invariant `Going`: place and state where the automaton stops are those that it has from i on in state q, a byte.
use Prim.Native.Nat.{◌<◌}
use Rattle.lexer.specs.Step.{Steps}
use Rattle.lexer.proofs.Scan.{Going}
use Rattle.lexer.proofs.scan_text.Given as goal

abbrev pub invariant-loop-i : goal.invariant-loop-i
invariant-loop-i g l = (l.q < 256) × ((f : _) → Steps (goal.F-post g) l.step f → Going f l.text l.at l.i l.q)
