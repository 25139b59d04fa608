-- The word is a header where its extent is not 0.
use Rattle.trees.specs.Steps.{step_to}
use Rattle.record_steps.proofs.step_to.Goals as goal

pub returns-then-is_header : goal.returns-then-is_header
unfolding step_to
returns-then-is_header c = simp (step_to, ← c.word_at.ensures, ← c.is_header.ensures, c.if-is_header.true)

pub returns-else-is_header : goal.returns-else-is_header
unfolding step_to
returns-else-is_header c = simp (step_to, ← c.word_at.ensures, ← c.is_header.ensures, c.if-is_header.false)
