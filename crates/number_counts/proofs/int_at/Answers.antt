-- No digit, a value outside the bounds, or one inside; one that 64 bits do not hold is above every bound.
use mathlib.Core.Path.{sym, ◌∙◌}
use native.Mathlib.Omega.{arith}
use Rattle.lexer.proofs.Laws.{given, gone}
use Rattle.number_bits.proofs.Shifts.{exact_of, over_of}
use Rattle.number_counts.proofs.Count.{no_digits_lem, too_low, too_high, too_far, fits}
use borrow.Author.Rules.{rules}
use Rattle.number_counts.proofs.int_at.Goals as goal

pub returns-then-r-c : goal.returns-then-r-c
returns-then-r-c c = rw c.refusal.ensures (gone _ _ _ (λ i. no_digits_lem _ _ _ _ _ c.digits_at-r.ensures.behind c.if-r-c.true))

pub returns-in_default : goal.returns-in_default
returns-in_default c =
    let v = over_of _ (sym c.in_default.is ∙ c.digits_at-r.ensures.worth) in
    rw c.refusal-outside.ensures (gone _ _ _ (λ i. too_far _ _ _ _ _ c.digits_at-r.ensures.behind c.if-r-c.false v (search rules)))

pub returns-then-v-lo : goal.returns-then-v-lo
returns-then-v-lo c =
    let v = exact_of _ _ (sym c.in-Some.is ∙ c.digits_at-r.ensures.worth) in
    rw c.refusal-outside.ensures (gone _ _ _ (λ i. too_low _ _ _ _ _ c.digits_at-r.ensures.behind c.if-r-c.false (omega arith)))

pub returns-then-hi-v : goal.returns-then-hi-v
returns-then-hi-v c =
    let v = exact_of _ _ (sym c.in-Some.is ∙ c.digits_at-r.ensures.worth) in
    rw c.refusal-outside.ensures (gone _ _ _ (λ i. too_high _ _ _ _ _ c.digits_at-r.ensures.behind c.if-r-c.false (omega arith) (omega arith)))

pub returns : goal.returns
returns c =
    let v = exact_of _ _ (sym c.in-Some.is ∙ c.digits_at-r.ensures.worth) in
    given _ _ (λ i. fits _ _ _ _ _ c.digits_at-r.ensures.behind c.if-r-c.false _ v c.if-v-lo.false c.if-hi-v.false)
