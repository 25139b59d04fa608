-- The letters in the order of `letter_next`.
use mathlib.Core.Logic.{◌⊎◌, inl, inr}
use mathlib.Core.Option.{some}
use mathlib.Core.Path.{◌≡◌}
use Prim.Native.Nat.{ℕ}
use borrow.Author.Rules.{rules}
use borrow.Author.Tests.{eq-eqb, ne_eqb}
use Rattle.number_numerals.specs.Steps.{next_of}
use Rattle.number_numerals.specs.Numerals.{letter_next}
use Rattle.number_numerals.specs.declared.folds.Phase.TheVariants.{Letter}
use Rattle.number_numerals.proofs.steps.letter.Goals as goal

small : (b : ℕ) → b ≡ 101 → some Letter ≡ letter_next b
unfolding letter_next
small b e = simp (eq-eqb _ _ e)

big : (b : ℕ) → b ≡ 69 → some Letter ≡ letter_next b
unfolding letter_next
big b e = rw e

pub returns-in-101 : goal.returns-in-101
unfolding next_of
returns-in-101 c = elim c.in-101.is [ inl e ↦ big c.args.b e | inr e ↦ small c.args.b e ]

pub returns-in_default : goal.returns-in_default
unfolding next_of letter_next
returns-in_default c =
    let n : (c.args.b ≡ 69) ⊎ (c.args.b ≡ 101) → ⊥ = search rules in
    simp (ne_eqb c.args.b 101 (λ e. n (inr e)), ne_eqb c.args.b 69 (λ e. n (inl e)))
