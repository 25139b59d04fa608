-- The invariant: the definition from `p` with all its turns is the definition from `q` with those left and the indices written so far; each way
-- through the loop's body is one law of `MemoryLaws`.
use mathlib.Core.Path.{◌≡◌}
use mathlib.Core.List.{[]}
use lib.ListN.{length}
use Rattle.records.specs.Limits.{turns}
use Rattle.grammar.specs.Instructions.{gep_inst_indices}
use Rattle.lexer.specs.Reads.{Leads, reach}
use Rattle.inst_memory.proofs.gep_inst_indices.Given as goal

abbrev pub invariant-loop-left : goal.invariant-loop-left
invariant-loop-left l = Leads (gep_inst_indices turns 2 []) 0 [] (reach (gep_inst_indices l._left l.n) l.text l.initial.q) l.text l.initial.q l.initial.q l.initial.words l.q l.words × (length l.words ≡ length l.initial.words)
