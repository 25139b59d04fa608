-- Each loop does the same with u turns as with v, on texts of less bytes than either: a turn that comes back to the loop has taken a byte.
-- Assumes nothing.
use Rattle.std.specs.Prelude.{refl, List, [], ◌∷◌, ◌++◌, ℕ, zero, suc, ◌+◌, ◌≤◌}
use Rattle.std.proofs.Math.Option.{Option, some}
use Rattle.std.proofs.Common.{arith}
use Rattle.program.specs.Prog.{Prog}
use Rattle.grammar.specs.Lexer.{eat_ws, same_word, rank, skip_all, skip_parens, skip_metadata_ref, place}
use Rattle.grammar.specs.Numbers.{parse_int}
use Rattle.grammar.specs.Attributes.{flag_attrs, paren_attrs, arith_flags, fast_math_flags, conv_flags, attr_parens, skip_attrs_in}
use Rattle.grammar.specs.Types.{TypeOut, ptr_words, opt_addrspace, parse_type_list, suffixes}
use Rattle.grammar.specs.Values.{pair_child, parse_gep_flags}
use Rattle.grammar.specs.Instructions.{clauses_in, gep_inst_indices}
use Rattle.grammar.specs.Body.{Statement, label, instruction, terminator, in_block, parse_statement, finish_block, over_at, parse_body}
use Rattle.theorem_turns.specs.Same.{Same, Full, alike, no_text, scans, ends, then, then_moved, by_byte, by_byte_at, by_word, byte_taken, token_taken, word_taken, rank_taken}
use Rattle.theorem_edits.specs.Again.{statement_moves}

-- The tables.
full_paren_attrs : Full paren_attrs
unfolding paren_attrs rank same_word
full_paren_attrs = refl

full_flag_attrs : Full flag_attrs
unfolding flag_attrs rank same_word
full_flag_attrs = refl

pub full_arith_flags : Full arith_flags
unfolding arith_flags rank same_word
full_arith_flags = refl

pub full_fast_math_flags : Full fast_math_flags
unfolding fast_math_flags rank same_word
full_fast_math_flags = refl

pub full_conv_flags : Full conv_flags
unfolding conv_flags rank same_word
full_conv_flags = refl

-- The loops.
pub same_skip_all : (n u v : ℕ) (table : List (List ℕ)) → Full table → n ≤ u → n ≤ v → Same n (skip_all u table) (skip_all v table)
unfolding skip_all
same_skip_all zero u v table f a b = no_text
same_skip_all (suc n) zero v table f a b = absurd (omega arith)
same_skip_all (suc n) (suc u) zero table f a b = absurd (omega arith)
same_skip_all (suc n) (suc u) (suc v) table f a b =
    then eat_ws λ _. rank_taken table f (λ r. same_skip_all n u v table f (omega arith) (omega arith)) alike

pub same_skip_attrs_in : (n u v : ℕ) → n ≤ u → n ≤ v → Same n (skip_attrs_in u) (skip_attrs_in v)
unfolding skip_attrs_in
same_skip_attrs_in zero u v a b = no_text
same_skip_attrs_in (suc n) zero v a b = absurd (omega arith)
same_skip_attrs_in (suc n) (suc u) zero a b = absurd (omega arith)
same_skip_attrs_in (suc n) (suc u) (suc v) a b =
    let again : Same n (skip_attrs_in u) (skip_attrs_in v) = same_skip_attrs_in n u v (omega arith) (omega arith) in
    then eat_ws λ _.
    byte_taken _ (scans λ w. again)
    (by_byte_at 34 alike
    (rank_taken paren_attrs full_paren_attrs (λ r. then (attr_parens r) λ _. again)
    (word_taken _ _ (then eat_ws λ _. then (parse_int _ _) λ _. again)
    (rank_taken flag_attrs full_flag_attrs (λ r. again) alike))))

pub same_clauses_in : (n u v : ℕ) (more : Prog (List ℕ)) (count : Option (List ℕ)) (align : List ℕ) → n ≤ u → n ≤ v → Same n (clauses_in u more count align) (clauses_in v more count align)
unfolding clauses_in
same_clauses_in zero u v more count align a b = no_text
same_clauses_in (suc n) zero v more count align a b = absurd (omega arith)
same_clauses_in (suc n) (suc u) zero more count align a b = absurd (omega arith)
same_clauses_in (suc n) (suc u) (suc v) more count align a b =
    let again : (count : Option (List ℕ)) (align : List ℕ) → Same n (clauses_in u more count align) (clauses_in v more count align) = λ count align. same_clauses_in n u v more count align (omega arith) (omega arith) in
    token_taken _
    (then eat_ws λ _.
    by_word _ (then eat_ws λ _. then (parse_int _ _) λ m. again count (m ∷ []))
    (by_byte _ (then skip_metadata_ref λ _. again count align)
    (then more λ x. again (some x) align)))
    alike

pub same_gep_inst_indices : (n u v k : ℕ) (acc : List ℕ) → n ≤ u → n ≤ v → Same n (gep_inst_indices u k acc) (gep_inst_indices v k acc)
unfolding gep_inst_indices
same_gep_inst_indices zero u v k acc a b = no_text
same_gep_inst_indices (suc n) zero v k acc a b = absurd (omega arith)
same_gep_inst_indices (suc n) (suc u) zero k acc a b = absurd (omega arith)
same_gep_inst_indices (suc n) (suc u) (suc v) k acc a b =
    let again : (k : ℕ) (acc : List ℕ) → Same n (gep_inst_indices u k acc) (gep_inst_indices v k acc) = λ k acc. same_gep_inst_indices n u v k acc (omega arith) (omega arith) in
    token_taken _
    (then eat_ws λ _.
    by_byte _ (then skip_metadata_ref λ _. again k acc)
    (then (pair_child _ _ k) λ x. again (k + 2) (acc ++ x)))
    alike

pub same_parse_gep_flags : (n u v inbounds : ℕ) → n ≤ u → n ≤ v → Same n (parse_gep_flags u inbounds) (parse_gep_flags v inbounds)
unfolding parse_gep_flags
same_parse_gep_flags zero u v inbounds a b = no_text
same_parse_gep_flags (suc n) zero v inbounds a b = absurd (omega arith)
same_parse_gep_flags (suc n) (suc u) zero inbounds a b = absurd (omega arith)
same_parse_gep_flags (suc n) (suc u) (suc v) inbounds a b =
    let again : (inbounds : ℕ) → Same n (parse_gep_flags u inbounds) (parse_gep_flags v inbounds) = λ inbounds. same_parse_gep_flags n u v inbounds (omega arith) (omega arith) in
    then eat_ws λ _.
    word_taken _ _ (again 1)
    (word_taken _ _ (again inbounds)
    (word_taken _ _ (again inbounds)
    (word_taken _ _ (then skip_parens λ _. again inbounds)
    alike)))

pub same_suffixes : (n u v bad : ℕ) (elem : Prog TypeOut) (t : List ℕ) → n ≤ u → n ≤ v → Same n (suffixes u bad elem t) (suffixes v bad elem t)
unfolding suffixes
same_suffixes zero u v bad elem t a b = no_text
same_suffixes (suc n) zero v bad elem t a b = absurd (omega arith)
same_suffixes (suc n) (suc u) zero bad elem t a b = absurd (omega arith)
same_suffixes (suc n) (suc u) (suc v) bad elem t a b =
    let again : Same n (suffixes u bad elem ptr_words) (suffixes v bad elem ptr_words) = same_suffixes n u v bad elem ptr_words (omega arith) (omega arith) in
    then eat_ws λ _. then place λ j.
    byte_taken _ (then (parse_type_list bad elem) λ l. then eat_ws λ _. by_byte _ again alike)
    (then opt_addrspace λ _. byte_taken _ again alike)

pub same_parse_body : (n u v c l k over : ℕ) (acc : List ℕ) → n ≤ u → n ≤ v → Same n (parse_body u c l k over acc) (parse_body v c l k over acc)
unfolding parse_body
same_parse_body zero u v c l k over acc a b = no_text
same_parse_body (suc n) zero v c l k over acc a b = absurd (omega arith)
same_parse_body (suc n) (suc u) zero c l k over acc a b = absurd (omega arith)
same_parse_body (suc n) (suc u) (suc v) c l k over acc a b =
    then eat_ws λ _.
    ends (then_moved (parse_statement (in_block c l k)) (statement_moves (in_block c l k)) λ s. then place λ j.
    behind s j λ c l k over acc. same_parse_body n u v c l k over acc (omega arith) (omega arith))
  where
    behind : (s : Statement) (j : ℕ) → ((c l k over : ℕ) (acc : List ℕ) → Same n (parse_body u c l k over acc) (parse_body v c l k over acc))
        → Same {A = List ℕ} n
        (elim s [
          | label d m ↦ parse_body u d m k over acc
          | instruction d ws ↦ parse_body u d l (k + 1) (over_at k over j) (acc ++ ws)
          | terminator d ws ↦ finish_block d l k over acc ws
        ])
        (elim s [
          | label d m ↦ parse_body v d m k over acc
          | instruction d ws ↦ parse_body v d l (k + 1) (over_at k over j) (acc ++ ws)
          | terminator d ws ↦ finish_block d l k over acc ws
        ])
    behind (label d m) j again = again d m k over acc
    behind (instruction d ws) j again = again d l (k + 1) (over_at k over j) (acc ++ ws)
    behind (terminator d ws) j again = alike
