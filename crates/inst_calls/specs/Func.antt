-- A function type as a call reads it.
-- Assumes nothing.
use Rattle.std.specs.Prelude.{List, ℕ}
use Rattle.program.specs.Prog.{Prog, ret, ◌>>=◌}
use Rattle.records.specs.Limits.{list_depth}
use Rattle.grammar.specs.Types.{parse_type_list, parse_type}
use Rattle.grammar.specs.Instructions.{func_node}

-- its list, behind the `(`; t is the return type
unfoldable pub func_type : List ℕ → Prog (List ℕ)
func_type t = parse_type_list 5 (parse_type list_depth) >>= λ l. ret (func_node t l)
