-- The child's answer decides, as in the definition.
use borrow.Author.Rules.{rules}
use Rattle.trees.specs.Steps.{step_of}
use Rattle.record_steps.proofs.StepLaws.{or_else}
use Rattle.record_steps.proofs.onward.Goals as goal

pub returns : goal.returns
unfolding step_of
returns c = rw (← c.child.ensures, step_of) (or_else c.child.result c.or_else.result _ (λ n. let e = rw n at c.or_else.ensures in search rules) (λ x i. rw i at c.or_else.ensures))
