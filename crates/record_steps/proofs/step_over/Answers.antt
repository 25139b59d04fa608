-- Where the sum wraps there is no word, and so no header.
use native.Mathlib.Omega.{arith}
use Rattle.record_steps.proofs.StepLaws.{past}
use Rattle.record_steps.proofs.step_over.Goals as goal

pub returns-in_err-checked_add : goal.returns-in_err-checked_add
returns-in_err-checked_add c = rw c.from_residual.ensures (past c.args.words.now _ (omega arith))
