-- Phase by phase: an integer, a decimal, or a digit is missing.
use mathlib.Core.Logic.{inl, inr}
use Rattle.number_numerals.specs.Numerals.{literal_at}
use Rattle.number_numerals.proofs.folds.literal_of.Goals as goal

pub returns-in-Start : goal.returns-in-Start
unfolding literal_at
returns-in-Start c =
    elim c.in-Start.is [
      | inl e ↦ simp (e, ← c.whole_literal.ensures)
      | inr f ↦ elim f [ inl e ↦ simp (e, ← c.whole_literal.ensures) | inr e ↦ simp (e, ← c.whole_literal.ensures) ]
    ]

pub returns-in-Point : goal.returns-in-Point
unfolding literal_at
returns-in-Point c =
    elim c.in-Point.is [
      | inl e ↦ simp (e, ← c.decimal.ensures)
      | inr f ↦ elim f [ inl e ↦ simp (e, ← c.decimal.ensures) | inr e ↦ simp (e, ← c.decimal.ensures) ]
    ]

pub returns-in-Letter : goal.returns-in-Letter
unfolding literal_at
returns-in-Letter c = elim c.in-Letter.is [ inl e ↦ simp e | inr e ↦ simp e ]
