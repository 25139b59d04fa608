-- The invariant: all the pairs lead to those with `left` turns to go, behind the n children counted so far; a pair takes one turn and counts two.
use mathlib.Core.Path.{◌≡◌}
use mathlib.Core.List.{[]}
use lib.ListN.{length}
use Rattle.grammar.specs.Instructions.{phi_items}
use Rattle.lexer.specs.Reads.{Leads, reach}
use Rattle.inst_operations.proofs.phi_items.Given as goal

abbrev pub invariant-loop-left : goal.invariant-loop-left
invariant-loop-left l = Leads (phi_items 65536 1 []) 0 [] (reach (phi_items l._left l.n) l.text l.initial.q) l.text l.initial.q l.initial.q l.initial.words l.q l.words × (length l.words ≡ length l.initial.words)
