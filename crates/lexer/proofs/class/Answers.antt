-- The table's rule, tested at each of its 256 entries.
use mathlib.Core.Bool.{Bool}
use Prim.Native.Nat.{ℕ}
use native.Mathlib.Omega.{arith}
use lib.Dec.{eqb, eqb→eq}
use lib.ListN.{get_or}
use Rattle.program.specs.Class.{class_of}
use Rattle.program.specs.Lists.{table_at}
use Rattle.lexer.specs.declared.TheConstants.{CLASSES}
use Rattle.lexer.proofs.class.Goals as goal

right : ℕ → ℕ → Bool
right k x = eqb x (class_of k)

pub returns : goal.returns
unfolding right class_of
returns c = eqb→eq (get_or CLASSES c.args.b 0) (class_of c.args.b) (table_at right CLASSES tt c.args.b (omega arith))
