-- By induction on the depth and the functions' rank: each reader's calls are its definition's steps, and a loop's turn is one element of its list.
use Prim.Native.Nat.{◌+◌, ◌*◌}
use mathlib.Core.Path.{◌≡◌}
use mathlib.Core.List.{[]}
use lib.ListN.{length}
use Rattle.lexer.specs.Reads.{Leads, reach}
use Rattle.values.proofs.ValueLaws.{pairs_of, indices_of}
use Rattle.values.proofs.+value_readers.Given as goal

abbrev pub decreases-aggregate : goal.decreases-aggregate
decreases-aggregate l = 8 * l.depth + 3

abbrev pub decreases-const_exprs : goal.decreases-const_exprs
decreases-const_exprs l = 8 * l.depth + 4

abbrev pub decreases-gep_indices : goal.decreases-gep_indices
decreases-gep_indices l = 8 * l.depth + 2

abbrev pub decreases-packed_const : goal.decreases-packed_const
decreases-packed_const l = 8 * l.depth + 3

abbrev pub decreases-pair_child : goal.decreases-pair_child
decreases-pair_child l = 8 * l.depth + 1

abbrev pub decreases-pair_list : goal.decreases-pair_list
decreases-pair_list l = 8 * l.depth + 2

abbrev pub decreases-parse_ce_bin : goal.decreases-parse_ce_bin
decreases-parse_ce_bin l = 8 * l.depth + 3

abbrev pub decreases-parse_ce_conv : goal.decreases-parse_ce_conv
decreases-parse_ce_conv l = 8 * l.depth + 3

abbrev pub decreases-parse_ce_gep : goal.decreases-parse_ce_gep
decreases-parse_ce_gep l = 8 * l.depth + 3

abbrev pub decreases-parse_typed_val : goal.decreases-parse_typed_val
decreases-parse_typed_val l = 8 * l.depth + 1

abbrev pub decreases-parse_value : goal.decreases-parse_value
decreases-parse_value l = 8 * l.depth

abbrev pub invariant-gep_indices-loop-left : goal.invariant-gep_indices-loop-left
invariant-gep_indices-loop-left l = Leads (indices_of l.depth 65536 3 []) 0 [] (reach (indices_of l.depth l._left l.n) l.text l.initial.q) l.text l.initial.q l.initial.q l.initial.words l.q l.words × (length l.words ≡ length l.initial.words)

abbrev pub invariant-pair_list-loop-left : goal.invariant-pair_list-loop-left
invariant-pair_list-loop-left l = Leads (pairs_of l.depth 65536 l.end 0 []) 0 [] (reach (pairs_of l.depth l._left l.end l.n) l.text l.initial.q) l.text l.initial.q l.initial.q l.initial.words l.q l.words × (length l.words ≡ length l.initial.words)
