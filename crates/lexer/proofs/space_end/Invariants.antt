-- The invariant: white space at `at` ends where white space at i ends; at a `;` `scan_text` goes on.
use mathlib.Core.Path.{◌≡◌}
use Prim.Native.Nat.{◌+◌}
use lib.ListN.{drop}
use Rattle.program.specs.Prog.{scan_len}
use Rattle.grammar.specs.Lexer.{space_step}
use Rattle.lexer.proofs.space_end.Given as goal

abbrev pub invariant-loop-i : goal.invariant-loop-i
invariant-loop-i l = l.at + scan_len space_step 0 (drop l.at l.text) ≡ l.i + scan_len space_step 0 (drop l.i l.text)
