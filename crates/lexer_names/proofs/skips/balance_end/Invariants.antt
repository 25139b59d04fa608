-- The invariant: what is open at `at` closes where what is open at i closes with q more open; each of those took a byte, so q does not wrap.
use mathlib.Core.Path.{◌≡◌}
use Prim.Native.Nat.{◌+◌, ◌≤◌}
use lib.ListN.{drop}
use Rattle.program.specs.Prog.{scan_len}
use Rattle.grammar.specs.Lexer.{balance_step}
use Rattle.lexer_names.proofs.skips.balance_end.Given as goal

abbrev pub invariant-loop-i : goal.invariant-loop-i
invariant-loop-i l = (l.q ≤ l.i) × (l.at + scan_len (balance_step l.left l.right) 0 (drop l.at l.text) ≡ l.i + scan_len (balance_step l.left l.right) l.q (drop l.i l.text))
