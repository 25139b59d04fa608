-- The digits are one scan, and the place where it stops is `scan_text`'s.
use borrow.Author.Rules.{rules}
use Rattle.program.specs.Prog.{run}
use Rattle.lexer.proofs.Laws.{given, handed}
use Rattle.grammar.specs.Attributes.{group_step}
use Rattle.attributes.specs.Step.{group_digits}
use Rattle.attributes.proofs.skip_group.Goals as goal

pub returns : goal.returns
unfolding group_digits run
returns c = rw c.in_ok-c.was (given _ _ (λ i. rw (c.scan_text.ensures group_step (λ q b r l h e. e)).place))

pub returns-in_err-c : goal.returns-in_err-c
returns-in_err-c c = handed c.in_err-c.was (search rules)
