-- The invariant: the definition from `p` is the definition from `q` with the turns left, what was written of the cases so far, and what is left of
-- them; a case adds to both.
use Rattle.inst_operands.specs.Kept.{kept}
use Rattle.inst_terminators.specs.Switch.{turns_of, weight_of, Writes}
use Rattle.grammar.specs.Instructions.{switch_cases}
use Rattle.lexer.specs.Reads.{Leads}
use mathlib.Core.Bool.{Bool}
use mathlib.Core.List.{[]}
use Rattle.inst_terminators.proofs.switch.switch_cases.Given as goal

abbrev pub invariant-loop-left : goal.invariant-loop-left
invariant-loop-left g l =
    (labels : Bool) → Writes (goal.F-post g) l.fn.write labels → Leads (switch_cases 65536 3 [] []) 0 [] (kept (turns_of labels l._left l.n) (weight_of labels) l.text l.initial.q) l.text l.initial.q l.initial.q l.initial.words l.q l.words
