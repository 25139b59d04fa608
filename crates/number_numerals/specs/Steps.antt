-- A phase of the code as the definition has it.
-- Assumes nothing.
use Rattle.std.specs.Prelude.{Some, None}
use Rattle.std.specs.Prelude.{Option as Maybe}
use Rattle.std.proofs.Math.Option.{Option, none, some}
use Rattle.number_numerals.specs.declared.folds.Phase.{Phase}

unfoldable pub next_of : Maybe Phase → Option Phase
next_of (Some f) = some f
next_of None = none
