-- By induction on the depth and the functions' rank: each reader's calls are its definition's steps, and a loop's turn is one element of its list.
use Prim.Native.Nat.{ℕ, ◌+◌, ◌*◌}
use mathlib.Core.Path.{◌≡◌}
use mathlib.Core.List.{List, []}
use lib.ListN.{length}
use Rattle.grammar.specs.Types.{suffixes, no_type, parse_type}
use Rattle.lexer.specs.Reads.{Leads, reach}
use Rattle.types.proofs.TypeLaws.{fields_of, types_of}
use Rattle.types.proofs.+type_readers.Given as goal

abbrev pub decreases-array_type : goal.decreases-array_type
decreases-array_type l = 8 * l.depth + 1

abbrev pub decreases-packed_type : goal.decreases-packed_type
decreases-packed_type l = 8 * l.depth + 4

abbrev pub decreases-parse_base_type : goal.decreases-parse_base_type
decreases-parse_base_type l = 8 * l.depth + 5

abbrev pub decreases-parse_struct_fields : goal.decreases-parse_struct_fields
decreases-parse_struct_fields l = 8 * l.depth + 2

abbrev pub decreases-parse_type : goal.decreases-parse_type
decreases-parse_type l = 8 * l.depth

abbrev pub decreases-parse_type_list : goal.decreases-parse_type_list
decreases-parse_type_list l = 8 * l.depth + 2

abbrev pub decreases-struct_type : goal.decreases-struct_type
decreases-struct_type l = 8 * l.depth + 3

abbrev pub decreases-type_suffixes : goal.decreases-type_suffixes
decreases-type_suffixes l = 8 * l.depth + 3

abbrev pub invariant-parse_struct_fields-loop-left : goal.invariant-parse_struct_fields-loop-left
invariant-parse_struct_fields-loop-left l = Leads (fields_of 65536 125 (parse_type l.depth) 0 []) 0 [] (reach (fields_of l._left 125 (parse_type l.depth) l.n) l.text l.initial.q) l.text l.initial.q l.initial.q l.initial.words l.q l.words × (length l.words ≡ length l.initial.words)

abbrev pub invariant-parse_type_list-loop-left : goal.invariant-parse_type_list-loop-left
invariant-parse_type_list-loop-left l = Leads (types_of 65536 (no_type l.depth) (parse_type l.depth) 1 []) 0 [] (reach (types_of l._left (no_type l.depth) (parse_type l.depth) l.n) l.text l.initial.q) l.text l.initial.q l.initial.q l.initial.words l.q l.words ×
    (length l.words ≡ length l.initial.words) × (l.bad ≡ no_type l.depth)

abbrev pub invariant-type_suffixes-loop-left : goal.invariant-type_suffixes-loop-left
invariant-type_suffixes-loop-left l = ((t : List ℕ) → Leads (suffixes 16777217 (no_type l.depth) (parse_type l.depth) t) 0 t (reach (suffixes l._left (no_type l.depth) (parse_type l.depth)) l.text l.p0) l.text l.p0 l.initial.q l.initial.words l.q l.words) ×
    (length l.words ≡ length l.initial.words)
