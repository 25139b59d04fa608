-- The turns that the definitions begin their loops with do not run out on a text that question 1 lets through: with more of them nothing changes.
-- Nor do those of a list: question 19 refuses before (`Lists`). Levels are no turns: they do run out, with question 16.
-- Assumes nothing.
use Rattle.std.specs.Prelude.{◌≡◌, List, ℕ, suc, ◌+◌, ◌≤◌, ◌<◌, length}
use Rattle.std.proofs.Common.{sym, arith}
use Rattle.std.proofs.Math.Option.{Option}
use Rattle.program.specs.Prog.{Prog, run}
use Rattle.records.specs.Limits.{turns}
use Rattle.grammar.specs.Lexer.{skip_all}
use Rattle.grammar.specs.Attributes.{arith_flags, fast_math_flags, conv_flags, skip_attrs_in}
use Rattle.grammar.specs.Types.{TypeOut, suffixes}
use Rattle.grammar.specs.Values.{parse_gep_flags}
use Rattle.grammar.specs.Instructions.{clauses_in, gep_inst_indices}
use Rattle.grammar.specs.Body.{parse_body, parse_block, parse_head}
use Rattle.theorem_turns.specs.Same.{Same, runs, Full}
use Rattle.theorem_turns.specs.Loops.{full_arith_flags, full_fast_math_flags, full_conv_flags, same_skip_all, same_skip_attrs_in, same_suffixes, same_parse_gep_flags, same_clauses_in, same_gep_inst_indices, same_parse_body}
use Rattle.theorem_turns.specs.Turned.{Turned, turned_same}

-- Each loop gives the same with u turns as with v, where the cursor is at i and s is left of the text.
pub record Alike (u v i : ℕ) (s : List ℕ) : Type 0 where
  pub at_skip_all : (table : List (List ℕ)) → Full table → run (skip_all u table) i s ≡ run (skip_all v table) i s
  pub at_arith_flags : run (skip_all u arith_flags) i s ≡ run (skip_all v arith_flags) i s
  pub at_fast_math_flags : run (skip_all u fast_math_flags) i s ≡ run (skip_all v fast_math_flags) i s
  pub at_conv_flags : run (skip_all u conv_flags) i s ≡ run (skip_all v conv_flags) i s
  pub at_skip_attrs_in : run (skip_attrs_in u) i s ≡ run (skip_attrs_in v) i s
  pub at_suffixes : (bad : ℕ) (elem : Prog TypeOut) (t : List ℕ) → run (suffixes u bad elem t) i s ≡ run (suffixes v bad elem t) i s
  pub at_parse_gep_flags : (inbounds : ℕ) → run (parse_gep_flags u inbounds) i s ≡ run (parse_gep_flags v inbounds) i s
  pub at_clauses_in : (more : Prog (List ℕ)) (count : Option (List ℕ)) (align : List ℕ) → run (clauses_in u more count align) i s ≡ run (clauses_in v more count align) i s
  pub at_gep_inst_indices : (k : ℕ) (acc : List ℕ) → run (gep_inst_indices u k acc) i s ≡ run (gep_inst_indices v k acc) i s
  pub at_parse_body : (c l k over : ℕ) (acc : List ℕ) → run (parse_body u c l k over acc) i s ≡ run (parse_body v c l k over acc) i s

on_all : {A : Type 0} {f g : Prog A} (i : ℕ) (s : List ℕ) → Same (suc (length s)) f g → run f i s ≡ run g i s
on_all i s h = runs h i s (omega arith)

-- both more than there are bytes
pub more_turns : (u v i : ℕ) (s : List ℕ) → length s < u → length s < v → Alike u v i s
more_turns u v i s a b =
    record {
      at_skip_all = λ table f. on_all i s (same_skip_all _ u v table f a b);
      at_arith_flags = on_all i s (same_skip_all _ u v arith_flags full_arith_flags a b);
      at_fast_math_flags = on_all i s (same_skip_all _ u v fast_math_flags full_fast_math_flags a b);
      at_conv_flags = on_all i s (same_skip_all _ u v conv_flags full_conv_flags a b);
      at_skip_attrs_in = on_all i s (same_skip_attrs_in _ u v a b);
      at_suffixes = λ bad elem t. on_all i s (same_suffixes _ u v bad elem t a b);
      at_parse_gep_flags = λ inbounds. on_all i s (same_parse_gep_flags _ u v inbounds a b);
      at_clauses_in = λ more count align. on_all i s (same_clauses_in _ u v more count align a b);
      at_gep_inst_indices = λ k acc. on_all i s (same_gep_inst_indices _ u v k acc a b);
      at_parse_body = λ c l k over acc. on_all i s (same_parse_body _ u v c l k over acc a b);
    }

-- "1. At most 16,777,216 bytes?"
pub enough_turns : (more i : ℕ) (s : List ℕ) → length s ≤ 16777216 → Alike (turns + more) turns i s
enough_turns more i s h = more_turns (turns + more) turns i s (omega arith) (omega arith)

-- A head or a block, whatever the counter at its start, reads the same, however many more turns its loops are given.
pub enough_head : (g : Prog (List ℕ)) → Turned turns (List ℕ) parse_head g → (i : ℕ) (s : List ℕ) → length s ≤ 16777216 → run g i s ≡ run parse_head i s
enough_head g t i s h = sym (runs (turned_same t) i s (omega arith))

pub enough_block : (c : ℕ) (g : Prog (List ℕ)) → Turned turns (List ℕ) (parse_block c) g → (i : ℕ) (s : List ℕ) → length s ≤ 16777216 → run g i s ≡ run (parse_block c) i s
enough_block c g t i s h = sym (runs (turned_same t) i s (omega arith))
