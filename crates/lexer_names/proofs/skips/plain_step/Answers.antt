-- The definition asks the same.
use native.Mathlib.Omega.{arith}
use borrow.Author.Tests.{eq-eqb, ne_eqb}
use Rattle.lexer_names.specs.Names.{plain_step}
use Rattle.lexer_names.proofs.skips.plain_step.Goals as goal

pub returns-in-34 : goal.returns-in-34
unfolding plain_step
returns-in-34 c = rw (eq-eqb _ _ c.in-34.is)

pub returns-in-92 : goal.returns-in-92
unfolding plain_step
returns-in-92 c = rw (ne_eqb c.args.b 34 (λ e. omega arith), eq-eqb _ _ c.in-92.is)

pub returns-in_default : goal.returns-in_default
unfolding plain_step
returns-in_default c = rw (ne_eqb c.args.b 34 (λ e. omega arith), ne_eqb c.args.b 92 (λ e. omega arith))
