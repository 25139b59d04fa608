-- The letters still to be stored, from where the code has come to, give what all give from the start; each turn takes a letter.
use mathlib.Core.Path.{◌≡◌}
use Prim.Native.Nat.{◌-◌}
use lib.ListN.{length, drop}
use Rattle.grammar.specs.Lexer.{unescape}
use Rattle.buffer.specs.Stored.{stored, placed}
use Rattle.map_spec.specs.Drawing.{letters}
use Rattle.map_dot.proofs.quoted.put_unescaped.Given as goal

abbrev pub invariant-loop-x : goal.invariant-loop-x
invariant-loop-x l = (placed l.k (letters (unescape 0 0 (drop l.i l.inner))) ≡ placed l.at (letters (unescape 0 0 l.inner))) × (stored l.k (letters (unescape 0 0 (drop l.i l.inner))) l.out ≡ stored l.at (letters (unescape 0 0 l.inner)) l.initial.out) × (length l.out ≡ length l.initial.out)

abbrev pub decreases-loop-x : goal.decreases-loop-x
decreases-loop-x l = length l.inner - l.i
