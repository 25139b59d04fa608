-- The operands of a load, or of a store.
-- Assumes nothing.
use Rattle.std.specs.Prelude.{Bool, true, false, List, ℕ}
use Rattle.program.specs.Prog.{Prog}
use Rattle.grammar.specs.Instructions.{load_operands, store_operands}

abbrev pub access_operands : Bool → Prog (List ℕ)
access_operands true = store_operands
access_operands false = load_operands
