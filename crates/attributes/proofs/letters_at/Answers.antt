-- The tests of `letters` in their order.
use Rattle.attributes.proofs.LetterLaws.{short_none, short_one, first_not, second_not, both_are, small_low, small_high, small_yes}
use Rattle.attributes.proofs.letters_at.Goals as goal

pub returns-then-text-at : goal.returns-then-text-at
returns-then-text-at c = short_none c.args.text.now c.args.at c.if-text-at.true

pub returns-then-text-at-le1 : goal.returns-then-text-at-le1
returns-then-text-at-le1 c = short_one c.args.text.now c.args.at c.if-text-at.false c.if-text-at-le1.true

pub returns-then-x-lt97 : goal.returns-then-x-lt97
returns-then-x-lt97 c =
    first_not c.args.text.now c.args.at c.if-text-at-le1.false (small_low _ c.if-x-lt97.true)

pub returns-then-x-gt122 : goal.returns-then-x-gt122
returns-then-x-gt122 c =
    first_not c.args.text.now c.args.at c.if-text-at-le1.false (small_high _ c.if-x-gt122.true)

pub returns-then-y-lt97 : goal.returns-then-y-lt97
returns-then-y-lt97 c =
    second_not c.args.text.now c.args.at c.if-text-at-le1.false (small_low _ c.if-y-lt97.true)

pub returns-then-y-gt122 : goal.returns-then-y-gt122
returns-then-y-gt122 c =
    second_not c.args.text.now c.args.at c.if-text-at-le1.false (small_high _ c.if-y-gt122.true)

pub returns : goal.returns
returns c =
    both_are c.args.text.now c.args.at c.if-text-at-le1.false (small_yes _ c.if-x-lt97.false c.if-x-gt122.false)
    (small_yes _ c.if-y-lt97.false c.if-y-gt122.false)
