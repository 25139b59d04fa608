-- The invariant: the definition from `p` with all its turns is the definition from `q` with those left, the count written so far and the last
-- alignment; each turn is one step of the definition, and a count is written over the one before it.
use Rattle.inst_memory.specs.Alloca.{counting, counted}
use Rattle.inst_operands.specs.Trailing.{align_of}
use Rattle.lexer.specs.Reads.{Leads, reach}
use lib.ListN.{length}
use mathlib.Core.Option.{none}
use mathlib.Core.List.{[]}
use mathlib.Core.Path.{◌≡◌}
use Rattle.inst_memory.proofs.alloca_rest.Given as goal

abbrev pub invariant-loop-left : goal.invariant-loop-left
invariant-loop-left l = Leads (counting 16777217 none []) 0 [] (reach (λ ws. counting l._left (counted l.counted ws) (align_of l.align)) l.text l.p) l.text l.p l.p l.initial.words l.q l.words × (length l.words ≡ length l.initial.words)
