-- The rule of the table of powers, tested at each of its 23 entries.
-- Assumes nothing.
use mathlib.Core.Bool.{Bool}
use Prim.Native.Nat.{ℕ, ◌^◌}
use lib.Dec.{eqb, eqb→eq}
use lib.ListN.{get_or}
use borrow.Author.Rules.{rules}
use Rattle.program.specs.Lists.{table_at}
use Rattle.number_decimals.specs.declared.TheConstants.{POWERS}
use Rattle.number_decimals.proofs.five.Goals as goal

right : ℕ → ℕ → Bool
right k x = eqb x (5 ^ k)

pub returns : goal.returns
unfolding right
returns c = eqb→eq (get_or POWERS c.args.k 0) (5 ^ c.args.k) (table_at right POWERS tt c.args.k (search rules))
