-- The parts of an alloca behind its type.
-- Assumes nothing.
use Rattle.std.specs.Prelude.{List, ℕ, Bool, true, false, Some, None, Result, MatchResult}
use Rattle.std.specs.Prelude.{Option as Found}
use Rattle.std.proofs.Math.Option.{Option, none, some}
use Rattle.program.specs.Prog.{Prog}
use Rattle.records.specs.Limits.{depth_limit}
use Rattle.grammar.specs.Values.{parse_typed_val}
use Rattle.grammar.specs.Instructions.{Clauses, clauses_in}
use Rattle.node_words.specs.Writes.{pushed, pushes}
use Rattle.lexer.specs.Parsed.{Parsed, Ok, Err}
use Rattle.records.specs.declared.Refusal.{Refusal}
use Rattle.inst_operands.specs.Trailing.{align_of}
use Rattle.inst_memory.specs.declared.Rest.{Rest}

-- the clauses of an alloca: a count is a typed value
abbrev pub counting : ℕ → Option (List ℕ) → List ℕ → Prog Clauses
counting u n align = clauses_in u (parse_typed_val depth_limit) n align

-- A count as its words, if there is one.
unfoldable pub counted : Bool → List ℕ → Option (List ℕ)
counted false x = none
counted true x = some x

-- An alignment's word, where there is one: where the cursor is then, and the words.
unfoldable pub aligned_p : Found ℕ → Parsed → Parsed
aligned_p None p = p
aligned_p (Some v) p = pushed p

unfoldable pub aligns : Found ℕ → Parsed → List ℕ → List ℕ
aligns None p words = words
aligns (Some v) p words = pushes v p words

-- K holds of a count, an alignment and the place behind them; at a refusal it holds whatever these are.
abbrev pub RestIs : Result Rest Refusal → (Bool → List ℕ → Parsed → Type 0) → Type 0
RestIs r K = MatchResult r (λ s. K s.counted (align_of s.align) (Ok s.c)) (λ e. (n : Bool) (al : List ℕ) → K n al (Err e))
