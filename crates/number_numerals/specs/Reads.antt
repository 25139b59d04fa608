-- What the readers of numerals hold of their fold and their program.
-- Assumes nothing.
use Rattle.std.specs.Prelude.{◌≡◌, Bool, List, ℕ, ◌+◌, drop, Result, MatchResult}
use Rattle.grammar.specs.Numbers.{int, float, halves, parse_numeral, Literal as Written}
use Rattle.lexer.specs.Reads.{Gives}
use Rattle.lexer.specs.Parsed.{Parsed, Ok, Err}
use Rattle.records.specs.declared.Refusal.{Refusal}
use Rattle.number_numerals.specs.Numerals.{onward, reach}
use Rattle.number_integers.specs.declared.literal.Literal.TheVariants.{Int, Float}
use Rattle.number_integers.specs.declared.literal.Literal.{Literal}
use Rattle.number_numerals.specs.declared.folds.Fold.{Fold}
use Rattle.number_numerals.specs.declared.Lit.{Lit}

-- behind what the numeral has of the text, and the state there
abbrev pub reached_p : Fold → List ℕ → Parsed → Parsed
reached_p s text (Ok c) = Ok (record { at = c.at + reach s (drop c.at text); w = c.w })
reached_p s text (Err r) = Err r

abbrev pub onward_p : Fold → List ℕ → Parsed → Fold
onward_p s text (Ok c) = onward s (drop c.at text)
onward_p s text (Err r) = s

-- From the state s0 the numeral goes on to p', and its state is s there.
pub record FoldedAt (s0 : Fold) (text : List ℕ) (p p' : Parsed) (s : Fold) : Type 0 where
  pub place : p' ≡ reached_p s0 text p
  pub state : s ≡ onward_p s0 text p

-- a literal as the grammar has it
unfoldable pub written_of : Literal → Written
written_of (Int n) = int (halves n)
written_of (Float b) = float b

-- A numeral as its literal, or a refusal.
abbrev pub LitAt : Bool → List ℕ → Parsed → Result Lit Refusal → Type 0
LitAt neg text p r =
    MatchResult r (λ l. Gives (parse_numeral neg) (written_of l.lit) text p (Ok l.c)) (λ e. (v : Written) → Gives (parse_numeral neg) v text p (Err e))
