-- What the reader of a switch's cases looks at.
-- Assumes nothing.
use Rattle.std.specs.Prelude.{◌≡◌, Bool, true, false, List, [], ℕ, length, ltb, get_or}
use Rattle.std.proofs.Common.{MutBor}
use Rattle.program.specs.Choice.{pick}
use Rattle.program.specs.Prog.{Prog, ret}
use Rattle.grammar.specs.Instructions.{Cases, cases, switch_cases, label_node}
use Rattle.node_words.specs.Writes.{pushed, pushes}
use Rattle.lexer.specs.Parsed.{Parsed, Ok, Err}
use Rattle.lexer.specs.Reads.{Leads, made, same}
use Rattle.inst_operands.specs.Kept.{nothing}
use Rattle.inst_terminators.specs.declared.switch.Case.{Case}

-- word i of those that were written from the array's start on
abbrev pub taken_p : ℕ → Parsed → List ℕ → ℕ
taken_p i (Ok c) words = pick (ltb i c.w) (get_or words i 0) 0
taken_p i (Err r) words = 0

-- The cases are read twice: once their labels are left for later and their integers written, once the other way round.
abbrev pub cases_of : (labels : Bool) → ℕ → (left written : List ℕ) → Cases
cases_of false n left written = cases n written left
cases_of true n left written = cases n left written

-- the same with turns left
abbrev pub turns_of : (labels : Bool) → (u n : ℕ) → (left written : List ℕ) → Prog Cases
turns_of false u n left written = switch_cases u n written left
turns_of true u n left written = switch_cases u n left written

-- so many words of what is left are paid for by then: the labels', which are written next
abbrev pub weight_of : (labels : Bool) → List ℕ → ℕ
weight_of false = length
weight_of true = nothing

-- what is written of a case with the integer hi and lo and the label l, its two words or its node
abbrev pub CaseWrites : (labels : Bool) → (hi lo l : ℕ) (p : Parsed) (words : List ℕ) (q : Parsed) (words' : List ℕ) → Type 0
CaseWrites false hi lo l p words q words' = (q ≡ pushed (pushed p)) × (words' ≡ pushes lo (pushed p) (pushes hi p words))
CaseWrites true hi lo l p words q words' = (text : List ℕ) → Leads (ret (label_node l)) 2 [] (made same text p) text p p words q words'

-- whatever a call of it does, it writes that
abbrev pub Writes : {F : Type 0} → (F → MutBor (List ℕ) → Parsed → Case → ℕ → Parsed → MutBor (List ℕ) → Type 0) → F → Bool → Type 0
Writes {F} post write labels =
    (a : MutBor (List ℕ)) (p : Parsed) (c : Case) (l : ℕ) (q : Parsed) (b : MutBor (List ℕ)) → post write a p c l q b → CaseWrites labels c.hi c.lo l p a.now q b.now
