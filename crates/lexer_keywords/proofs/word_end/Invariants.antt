-- The invariant: the word at `at` ends where the word at i ends.
use mathlib.Core.Path.{◌≡◌}
use Prim.Native.Nat.{◌+◌}
use lib.ListN.{length, drop}
use Rattle.program.specs.Prog.{lead_word}
use Rattle.lexer_keywords.proofs.word_end.Given as goal

abbrev pub invariant-loop-i : goal.invariant-loop-i
invariant-loop-i l = l.at + length (lead_word (drop l.at l.text)) ≡ l.i + length (lead_word (drop l.i l.text))
