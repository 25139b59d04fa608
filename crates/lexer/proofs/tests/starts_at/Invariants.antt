-- The invariant: the word at `at` begins with kw if the word j bytes on begins with what is left of kw.
use mathlib.Core.Path.{◌≡◌}
use Prim.Native.Nat.{◌+◌}
use lib.ListN.{drop}
use Rattle.program.specs.Prog.{lead_word}
use Rattle.grammar.specs.Lexer.{starts_with}
use Rattle.lexer.proofs.tests.starts_at.Given as goal

abbrev pub invariant-loop-j : goal.invariant-loop-j
invariant-loop-j l = starts_with l.kw (lead_word (drop l.at l.text)) ≡ starts_with (drop l.j l.kw) (lead_word (drop (l.at + l.j) l.text))
