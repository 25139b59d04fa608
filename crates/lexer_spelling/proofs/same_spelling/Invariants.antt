-- The invariant: the spellings are the same if what is left of them at i and j is; each turn takes a letter of both.
use mathlib.Core.Path.{◌≡◌}
use Prim.Native.Nat.{◌-◌}
use lib.ListN.{length, drop}
use Rattle.grammar.specs.Lexer.{same_word}
use Rattle.lexer_names.specs.Names.{spelled_of}
use Rattle.lexer_spelling.proofs.same_spelling.Given as goal

abbrev pub invariant-loop-x : goal.invariant-loop-x
invariant-loop-x l = same_word (spelled_of l.qa l.a) (spelled_of l.qb l.b) ≡ same_word (spelled_of l.qa (drop l.i l.a)) (spelled_of l.qb (drop l.j l.b))

abbrev pub decreases-loop-x : goal.decreases-loop-x
decreases-loop-x l = length l.a - l.i
