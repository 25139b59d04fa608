-- Each program that reads an instruction or a terminator refuses inside the text; what it gives are the words of one.
-- Assumes nothing.
use Rattle.std.specs.Prelude.{◌≡◌, refl, List, [], ◌∷◌, ◌++◌, ℕ, zero, suc, ◌+◌, ◌-◌, ◌≤◌, ◌<◌, T, ltb, eqb, length, get_or}
use Rattle.std.proofs.Common.{append_assoc, inl, inr, arith, le→leb, ltb-true}
use Rattle.std.proofs.Math.Option.{Option, none, some}
use Rattle.program.specs.Prog.{Prog}
use Rattle.records.specs.Words.{header, node}
use Rattle.records.specs.Kinds.{kind, Func, IntConst, Bin, FBin, FNeg, Conv, ICmp, FCmp, Select, Load, Store, Alloca, Gep, Phi, Call, Freeze, AtomicLoad, AtomicStore, AtomicRmw, Cmpxchg, ExtractValue, Fence, Ret, Br, Switch, Unreachable, Name}
use Rattle.records.specs.Limits.{turns, number_limit, child_limit, depth_limit, list_turns, list_depth}
use Rattle.records.specs.Details.{d_inbounds, d_function_type}
use Rattle.grammar.specs.Lexer.{same_word, rank, spelled}
use Rattle.grammar.specs.Counter.{Counted, item_of}
use Rattle.grammar.specs.Attributes.{conv_flags}
use Rattle.grammar.specs.Types.{Listed, count_of, dots_of, words_of, TypeOut, plain, opened}
use Rattle.grammar.specs.Values.{bin_ops, parse_typed_val}
use Rattle.grammar.specs.Instructions.{label_node, parse_operand, Clauses, clauses, clauses_in, alignment, parse_trailing, ending, orderings, skip_atomic_ordering, two_operands, binary, unary, parse_bin, parse_fbin, parse_fneg, no_paren, parse_conv, icmp_preds, fcmp_preds, predicate, parse_icmp, parse_fcmp, parse_select, load_operands, access, parse_load, store_operands, parse_store, pointer_then_value, parse_cmpxchg, rmw_ops, rmw_op, parse_atomicrmw, parse_extractvalue, parse_fence, alloca_node, parse_alloca, gep_inst_indices, parse_gep_inst, phi_items, parse_phi, parse_freeze, arg_item, parse_arg_list, func_node, call_rest, call_of, parse_call, parse_tail_call, is_void, numbered_call, parse_plain_call, parse_plain_tail_call, parse_ret, target, parse_br, case_int, Cases, cases, switch_cases, switch_front, switch_node, parse_switch, parse_unreachable, fbin_ops, inst_conv_ops, among, is_word_then, value_inst, uncounted, plain_inst}
use Rattle.grammar.specs.Instructions.{type as outerType, value as outerValue}
use Rattle.trees.specs.Forms.{NameIn, type, function, value, instruction, terminator, name, sort_of, optional, any, Is, Are, repeat, where_set, form_of, Laid, laid, sorts}
use Rattle.trees.specs.Tree.{Trees, empty, tree, first_tree, below_first, behind_first}
use Rattle.theorem_refusals.specs.Inside.{Scope, asked, Inside, gives, Any, then, then_with, done, either, either_with}
use Rattle.theorem_refusals.specs.Trees.{beside, nothing, LaidAs, joined_as, joined, over_as, over_with, other, over, leaf, repeat_behind, repeat_length, are_joined, Grouped, grouped, no_group, one_more, Lists}
use Rattle.theorem_refusals.specs.Lexer.{in_refuse, in_place, in_eat_ws, in_byte_if, in_byte_at_if, in_word_if, in_rank_if, in_token_if, in_expect_token, in_expect_keyword, in_skip_keyword, in_skip_one, in_skip_all, in_read_word, in_parse_local_name, in_skip_parens, in_skip_metadata_ref}
use Rattle.theorem_refusals.specs.Numbers.{in_parse_int}
use Rattle.theorem_refusals.specs.Counter.{Counts, stays, in_takes_next}
use Rattle.theorem_refusals.specs.Attributes.{in_skip_attrs, in_skip_call_cconv, in_skip_arith_flags, in_skip_fast_math_flags}
use Rattle.theorem_refusals.specs.Types.{Opens, NextOf, in_whole, in_child, in_type_child, in_dots_list, in_parse_type_list, in_parse_type}
use Rattle.theorem_refusals.specs.Values.{Value, Pair, Pairs, in_gep_flags, in_pair_child, in_parse_value, in_parse_typed_val}

-- What the programs give.
abbrev Type' : ℕ → List ℕ → Type 0
Type' n = Laid n (type ∷ [])

abbrev pub Instruction : ℕ → List ℕ → Type 0
Instruction n = Laid n (instruction ∷ [])

abbrev pub Terminator : ℕ → List ℕ → Type 0
Terminator n = Laid n (terminator ∷ [])

pub in_type : {n : Scope} (q : ℕ) → T (asked q) → Inside n (Type' n.limit) (outerType q)
in_type q s = in_whole q s (in_parse_type depth_limit)

in_value : {n : Scope} → Inside n (Value n.limit) outerValue
in_value = in_parse_value depth_limit

in_typed_val : {n : Scope} → Inside n (Pair n.limit) (parse_typed_val depth_limit)
in_typed_val = in_parse_typed_val depth_limit

in_parse_operand : {n : Scope} → Inside n (Value n.limit) parse_operand
unfolding parse_operand
in_parse_operand = then (in_type 6 tt) λ _. in_value

label : {n : ℕ} (x : ℕ) → NameIn n x → Laid n (name ∷ []) (label_node x)
unfolding label_node sort_of form_of
label x h = leaf Name tt (x ∷ []) tt (h, tt) refl

-- Clauses: a count is a typed value, an alignment one number.
abbrev Counts? : ℕ → Option (List ℕ) → Type 0
Counts? n none = Unit {0}
Counts? n (some x) = Pair n x

abbrev Aligns : List ℕ → Type 0
Aligns [] = Unit {0}
Aligns (a ∷ []) = (0 ≤ a) × (a ≤ number_limit)
Aligns (a ∷ b ∷ l) = ⊥

abbrev Trails : ℕ → Clauses → Type 0
Trails n (clauses c align) = Counts? n c × Aligns align

in_clauses_in : {n : Scope} {f : Prog (List ℕ)} → Inside n (Pair n.limit) f → (u : ℕ) (count : Option (List ℕ)) (align : List ℕ) → Counts? n.limit count → Aligns align → Inside n (Trails n.limit) (clauses_in u f count align)
unfolding clauses_in
in_clauses_in h zero count align c a = gives (c, a)
in_clauses_in h (suc u) count align c a =
    in_token_if _
    (then in_eat_ws λ _.
    in_word_if _ (then in_eat_ws λ _. then_with (in_parse_int _ _) λ k b. in_clauses_in h u count (k ∷ []) c b)
    (in_byte_if _ (then in_skip_metadata_ref λ _. in_clauses_in h u count align c a)
    (then_with h λ x b. in_clauses_in h u (some x) align b a)))
    (gives (c, a))

aligned : (n : ℕ) (c : Clauses) → Trails n c → Aligns (alignment c)
aligned n (clauses c align) h = h.1

in_parse_trailing : {n : Scope} → Inside n Aligns parse_trailing
unfolding parse_trailing
in_parse_trailing {n} = then_with (in_clauses_in (in_refuse 11 tt) turns none [] tt tt) λ c h. gives (aligned n.limit c h)

in_ending : {n : Scope} {P : List ℕ → Type 0} (k d m : ℕ) (body : List ℕ) → P (node k d m body) → Inside n P (ending k d m body)
unfolding ending
in_ending k d m body h = then in_parse_trailing λ _. gives h

in_skip_atomic_ordering : {n : Scope} → Inside n Any skip_atomic_ordering
unfolding skip_atomic_ordering
in_skip_atomic_ordering = then in_eat_ws λ _. then (in_word_if _ in_skip_parens done) λ _. in_skip_one orderings

-- T V V
abbrev Three : ℕ → List ℕ → Type 0
Three n = Laid n (type ∷ value ∷ value ∷ [])

in_two_operands : {n : Scope} → Inside n (Three n.limit) two_operands
unfolding two_operands
in_two_operands =
    then_with (in_type 6 tt) λ t h. then_with in_value λ a i. then (in_expect_token _) λ _. then_with in_value λ b j. gives (joined (joined h i) j)

in_binary : {n : Scope} (k d dest : ℕ) → ((x : List ℕ) → Three n.limit x → Instruction n.limit (node k d 3 (dest ∷ x))) → Inside n (Instruction n.limit) (binary k d dest)
unfolding binary
in_binary k d dest f = then_with in_two_operands λ x h. in_ending _ _ _ _ (f x h)

in_parse_bin : {n : Scope} (op dest : ℕ) → NameIn n.limit dest → op < length bin_ops → Inside n (Instruction n.limit) (parse_bin op dest)
unfolding parse_bin bin_ops sort_of form_of
in_parse_bin op dest p b =
    then in_skip_arith_flags λ _.
    in_binary _ _ _ (λ x h. over Bin tt op 0 (dest ∷ []) (le→leb (suc op) (length bin_ops) b) (p, tt) (omega arith) refl refl (omega arith) h)

in_parse_fbin : {n : Scope} (op dest : ℕ) → NameIn n.limit dest → op < length fbin_ops → Inside n (Instruction n.limit) (parse_fbin op dest)
unfolding parse_fbin fbin_ops sort_of form_of
in_parse_fbin op dest p b =
    then in_skip_fast_math_flags λ _.
    in_binary _ _ _ (λ x h. over FBin tt op 0 (dest ∷ []) (le→leb (suc op) (length fbin_ops) b) (p, tt) (omega arith) refl refl (omega arith) h)

in_unary : {n : Scope} (k dest : ℕ) → ((x : List ℕ) → Pair n.limit x → Instruction n.limit (node k 0 2 (dest ∷ x))) → Inside n (Instruction n.limit) (unary k dest)
unfolding unary
in_unary k dest f = then_with in_typed_val λ x h. in_ending _ _ _ _ (f x h)

in_parse_fneg : {n : Scope} (dest : ℕ) → NameIn n.limit dest → Inside n (Instruction n.limit) (parse_fneg dest)
unfolding parse_fneg sort_of form_of
in_parse_fneg dest p = then in_skip_fast_math_flags λ _. in_unary _ _ (λ x h. over FNeg tt 0 0 (dest ∷ []) tt (p, tt) (omega arith) refl refl (omega arith) h)

in_no_paren : {A : Type 0} {P : A → Type 0} {n : Scope} {f : Prog A} → Inside n P f → Inside n P (no_paren f)
unfolding no_paren
in_no_paren h = in_byte_at_if _ (in_refuse 8 tt) h

in_parse_conv : {n : Scope} (op dest : ℕ) → NameIn n.limit dest → op < length inst_conv_ops → Inside n (Instruction n.limit) (parse_conv op dest)
unfolding parse_conv inst_conv_ops sort_of form_of
in_parse_conv op dest p b =
    then (in_skip_all turns conv_flags) λ _. then_with in_typed_val λ x h. then (in_expect_keyword _) λ _. then_with (in_type 8 tt) λ t k.
    in_no_paren (in_ending _ _ _ _ (over Conv tt op 0 (dest ∷ []) (le→leb (suc op) (length inst_conv_ops) b) (p, tt) (omega arith) refl refl (omega arith) (joined h k)))

in_predicate : {n : Scope} (table : List (List ℕ)) → Inside n (λ r. r < length table) (predicate table)
unfolding predicate
in_predicate table = then in_eat_ws λ _. in_rank_if table (λ r b. gives b) (in_refuse 10 tt)

in_parse_icmp : {n : Scope} (dest : ℕ) → NameIn n.limit dest → Inside n (Instruction n.limit) (parse_icmp dest)
unfolding parse_icmp icmp_preds sort_of form_of
in_parse_icmp dest p =
    then (in_skip_keyword _) λ _. then_with (in_predicate icmp_preds) λ r b.
    in_binary _ _ _ (λ x h. over ICmp tt r 0 (dest ∷ []) (le→leb (suc r) (length icmp_preds) b) (p, tt) (omega arith) refl refl (omega arith) h)

in_parse_fcmp : {n : Scope} (dest : ℕ) → NameIn n.limit dest → Inside n (Instruction n.limit) (parse_fcmp dest)
unfolding parse_fcmp fcmp_preds sort_of form_of
in_parse_fcmp dest p =
    then in_skip_fast_math_flags λ _. then_with (in_predicate fcmp_preds) λ r b.
    in_binary _ _ _ (λ x h. over FCmp tt r 0 (dest ∷ []) (le→leb (suc r) (length fcmp_preds) b) (p, tt) (omega arith) refl refl (omega arith) h)

in_parse_select : {n : Scope} (dest : ℕ) → NameIn n.limit dest → Inside n (Instruction n.limit) (parse_select dest)
unfolding parse_select sort_of form_of
in_parse_select dest p =
    then_with in_parse_operand λ c h. then (in_expect_token _) λ _. then_with in_typed_val λ x i. then (in_expect_token _) λ _. then_with in_parse_operand λ y j.
    in_ending _ _ _ _ (over Select tt 0 0 (dest ∷ []) tt (p, tt) (omega arith) refl refl (omega arith) (joined (joined h i) j))

in_load_operands : {n : Scope} → Inside n (Pair n.limit) load_operands
unfolding load_operands
in_load_operands = then_with (in_type 3 tt) λ t h. then (in_expect_token _) λ _. then_with in_parse_operand λ p k. gives (joined h k)

in_store_operands : {n : Scope} → Inside n (Three n.limit) store_operands
unfolding store_operands
in_store_operands = then_with in_typed_val λ x h. then (in_expect_token _) λ _. then_with in_parse_operand λ p k. gives (joined h k)

in_access : {n : Scope} {P : List ℕ → Type 0} (k atomic m : ℕ) {f : Prog (List ℕ)} → Inside n P f → (dest : ℕ) → ((x : List ℕ) → P x → Instruction n.limit (node atomic 0 m (dest ∷ x)))
    → ((align x : List ℕ) → Aligns align → P x → Instruction n.limit (node k (length align) m (dest ∷ (align ++ x)))) → Inside n (Instruction n.limit) (access k atomic m f dest)
unfolding access
in_access k atomic m h dest a b =
    then in_eat_ws λ _.
    in_word_if _
    (then (in_skip_keyword _) λ _. then_with h λ x p. then in_skip_atomic_ordering λ _. in_ending _ _ _ _ (a x p))
    (then (in_skip_keyword _) λ _. then_with h λ x p. then_with in_parse_trailing λ align l. gives (b align x l p))

load : {n : ℕ} (dest : ℕ) → NameIn n dest → (align x : List ℕ) → Aligns align → Pair n x → Instruction n (node (kind Load) (length align) 2 (dest ∷ (align ++ x)))
unfolding sort_of form_of where_set repeat
load dest p [] x a h = over Load tt 0 0 (dest ∷ []) tt (p, tt) (omega arith) refl refl (omega arith) h
load dest p (l ∷ []) x a h = over Load tt 1 0 (dest ∷ l ∷ []) tt (p, (a, tt)) (omega arith) refl refl (omega arith) h
load dest p (l ∷ k ∷ r) x a h = absurd a

in_parse_load : {n : Scope} (dest : ℕ) → NameIn n.limit dest → Inside n (Instruction n.limit) (parse_load dest)
unfolding parse_load sort_of form_of
in_parse_load dest p =
    in_access _ _ 2 in_load_operands dest (λ x h. over AtomicLoad tt 0 0 (dest ∷ []) tt (p, tt) (omega arith) refl refl (omega arith) h) (load dest p)

store : {n : ℕ} (align x : List ℕ) → Aligns align → Three n x → Instruction n (node (kind Store) (length align) 3 (0 ∷ (align ++ x)))
unfolding sort_of form_of where_set repeat
store [] x a h = over Store tt 0 0 (0 ∷ []) tt ((omega arith, omega arith), tt) (omega arith) refl refl (omega arith) h
store (l ∷ []) x a h = over Store tt 1 0 (0 ∷ l ∷ []) tt ((omega arith, omega arith), (a, tt)) (omega arith) refl refl (omega arith) h
store (l ∷ k ∷ r) x a h = absurd a

in_parse_store : {n : Scope} → Inside n (Instruction n.limit) parse_store
unfolding parse_store sort_of form_of
in_parse_store =
    in_access _ _ 3 in_store_operands 0 (λ x h. over AtomicStore tt 0 0 (0 ∷ []) tt ((omega arith, omega arith), tt) (omega arith) refl refl (omega arith) h) store

in_pointer_then_value : {n : Scope} → Inside n (Three n.limit) pointer_then_value
unfolding pointer_then_value
in_pointer_then_value =
    then_with in_parse_operand λ p h. then (in_expect_token _) λ _. then_with (in_type 6 tt) λ t i. then_with in_value λ v j. gives (joined (joined i h) j)

in_parse_cmpxchg : {n : Scope} (dest : ℕ) → NameIn n.limit dest → Inside n (Instruction n.limit) (parse_cmpxchg dest)
unfolding parse_cmpxchg sort_of form_of
in_parse_cmpxchg dest p =
    then (in_skip_keyword _) λ _. then (in_skip_keyword _) λ _. then_with in_pointer_then_value λ x h. then (in_expect_token _) λ _. then_with in_parse_operand λ v k.
    then in_skip_atomic_ordering λ _. then in_skip_atomic_ordering λ _.
    in_ending _ _ _ _ (over Cmpxchg tt 0 0 (dest ∷ []) tt (p, tt) (omega arith) refl refl (omega arith) (joined h k))

in_among : {A : Type 0} {P : A → Type 0} {n : Scope} {f : ℕ → Prog A} {g : Prog A} (w : List ℕ) (table : List (List ℕ)) → ((r : ℕ) → r < length table → Inside n P (f r)) → Inside n P g → Inside n P (among w table f g)
unfolding among
in_among w table h k = either_with (ltb (rank w table) (length table)) (λ e. h (rank w table) (ltb-true (rank w table) (length table) e)) (λ _. k)

in_rmw_op : {n : Scope} → Inside n (λ r. r < length rmw_ops) rmw_op
unfolding rmw_op
in_rmw_op = then in_eat_ws λ _. then in_read_word λ w. in_among (spelled w) rmw_ops (λ r b. gives b) (in_refuse 9 tt)

in_parse_atomicrmw : {n : Scope} (dest : ℕ) → NameIn n.limit dest → Inside n (Instruction n.limit) (parse_atomicrmw dest)
unfolding parse_atomicrmw rmw_ops sort_of form_of
in_parse_atomicrmw dest p =
    then (in_skip_keyword _) λ _. then_with in_rmw_op λ r b. then_with in_pointer_then_value λ x h. then in_skip_atomic_ordering λ _.
    in_ending _ _ _ _ (over AtomicRmw tt r 0 (dest ∷ []) (le→leb (suc r) (length rmw_ops) b) (p, tt) (omega arith) refl refl (omega arith) h)

in_parse_extractvalue : {n : Scope} (dest : ℕ) → NameIn n.limit dest → Inside n (Instruction n.limit) (parse_extractvalue dest)
unfolding parse_extractvalue sort_of form_of
in_parse_extractvalue dest p =
    then_with in_parse_operand λ a h. then (in_expect_token _) λ _. then in_eat_ws λ _. then_with (in_parse_int _ _) λ k b.
    in_ending _ _ _ _ (over ExtractValue tt 0 0 (dest ∷ k ∷ []) tt (p, (b, tt)) (omega arith) refl refl (omega arith) h)

in_parse_fence : {n : Scope} → Inside n (Instruction n.limit) parse_fence
unfolding parse_fence sort_of form_of
in_parse_fence = then in_skip_atomic_ordering λ _. in_ending _ _ _ _ (leaf Fence tt (0 ∷ []) tt ((omega arith, omega arith), tt) refl)

alloca : {n : ℕ} (dest : ℕ) → NameIn n dest → (t : List ℕ) → Type' n t → (c : Clauses) → Trails n c → Instruction n (alloca_node dest t c)
unfolding alloca_node sort_of form_of where_set repeat
alloca dest p t h (clauses none []) b = over Alloca tt 0 0 (dest ∷ []) tt (p, tt) (omega arith) refl refl (omega arith) h
alloca dest p t h (clauses none (a ∷ [])) b = over Alloca tt 2 0 (dest ∷ a ∷ []) tt (p, (b.1, tt)) (omega arith) refl refl (omega arith) h
alloca dest p t h (clauses none (a ∷ l ∷ r)) b = absurd b.1
alloca dest p t h (clauses (some x) []) b = over Alloca tt 1 0 (dest ∷ []) tt (p, tt) (omega arith) refl refl (omega arith) (joined h b.0)
alloca dest p t h (clauses (some x) (a ∷ [])) b = over Alloca tt 3 0 (dest ∷ a ∷ []) tt (p, (b.1, tt)) (omega arith) refl refl (omega arith) (joined h b.0)
alloca dest p t h (clauses (some x) (a ∷ l ∷ r)) b = absurd b.1

in_parse_alloca : {n : Scope} (dest : ℕ) → NameIn n.limit dest → Inside n (Instruction n.limit) (parse_alloca dest)
unfolding parse_alloca
in_parse_alloca dest p =
    then (in_skip_keyword _) λ _. then_with (in_type 8 tt) λ t h.
    in_no_paren (then_with (in_clauses_in in_typed_val turns none [] tt tt) λ c b. gives (alloca dest p t h c b))

in_gep_inst_indices : {n : Scope} (u k : ℕ) (acc : List ℕ) → k ≤ child_limit → Grouped n.limit 2 (type ∷ value ∷ []) k acc → Inside n (Pairs n.limit 2) (gep_inst_indices u k acc)
unfolding gep_inst_indices
in_gep_inst_indices zero k acc b h = gives (h, (b, omega arith))
in_gep_inst_indices (suc u) k acc b h =
    in_token_if _
    (then in_eat_ws λ _.
    in_byte_if _ (then in_skip_metadata_ref λ _. in_gep_inst_indices u k acc b h)
    (then_with (in_pair_child (in_parse_type depth_limit) in_value k) λ x y. in_gep_inst_indices u (k + 2) (acc ++ x) y.1 (one_more h y.0)))
    (gives (h, (b, omega arith)))

gep : {n : ℕ} (dest d : ℕ) → NameIn n dest → d ≤ d_inbounds → (x y : List ℕ) → Type' n x → Value n y → (l : Listed) → Pairs n 2 l → Instruction n (node (kind Gep) d (count_of l) (dest ∷ ((x ++ y) ++ words_of l)))
unfolding sort_of form_of
gep dest d p b x y h k l (grouped m e i, r) = over Gep tt d m (dest ∷ []) (le→leb d 1 b) (p, tt) (omega arith) refl (omega arith) r.0 (joined (joined h k) i)

in_parse_gep_inst : {n : Scope} (dest : ℕ) → NameIn n.limit dest → Inside n (Instruction n.limit) (parse_gep_inst dest)
unfolding parse_gep_inst
in_parse_gep_inst dest p =
    then_with in_gep_flags λ d b. then_with (in_type 3 tt) λ x h. then (in_expect_token _) λ _. then_with in_parse_operand λ y k.
    then_with (in_gep_inst_indices turns 2 [] (omega arith) no_group) λ l i. gives (gep dest d p b x y h k l i)

-- A phi has a pair at least.
abbrev Items : ℕ → Listed → Type 0
Items n l = Lists n 1 (value ∷ name ∷ []) l × (1 < count_of l)

in_phi_items : {n : Scope} (u k : ℕ) (acc : List ℕ) → 1 ≤ k → Grouped n.limit 1 (value ∷ name ∷ []) k acc → Inside n (Items n.limit) (phi_items u k acc)
unfolding phi_items
in_phi_items {n} zero k acc b h = in_refuse 19 tt
in_phi_items {n} (suc u) k acc b h =
    then (in_expect_token _) λ _. then_with (in_child k in_value) λ v i. then (in_expect_token _) λ _. then_with (in_child (k + 1) in_parse_local_name) λ l j.
    then (in_expect_token _) λ _.
    let more : Grouped n.limit 1 (value ∷ name ∷ []) (k + 2) ((acc ++ v) ++ label_node l) = rw append_assoc (one_more h (joined i.0 (label l j.0))) in
    in_token_if _ (in_phi_items u (k + 2) ((acc ++ v) ++ label_node l) (omega arith) more) (gives ((more, (omega (arith, j.1), omega arith)), omega arith))

phi : {n : ℕ} (dest : ℕ) → NameIn n dest → (t : List ℕ) → Type' n t → (l : Listed) → Items n l → Instruction n (node (kind Phi) 0 (count_of l) (dest ∷ (t ++ words_of l)))
unfolding sort_of form_of repeat
phi dest p t h l ((grouped zero e i, r), b) = absurd (omega arith)
phi dest p t h l ((grouped (suc m) e i, r), b) = over Phi tt 0 m (dest ∷ []) tt (p, tt) (omega arith) refl (omega arith) r.0 (joined h i)

in_parse_phi : {n : Scope} (dest : ℕ) → NameIn n.limit dest → Inside n (Instruction n.limit) (parse_phi dest)
unfolding parse_phi
in_parse_phi dest p = then_with (in_type 3 tt) λ t h. then_with (in_phi_items list_turns 1 [] (omega arith) no_group) λ l i. gives (phi dest p t h l i)

in_parse_freeze : {n : Scope} (dest : ℕ) → NameIn n.limit dest → Inside n (Instruction n.limit) (parse_freeze dest)
unfolding parse_freeze sort_of form_of
in_parse_freeze dest p = in_unary _ _ (λ x h. over Freeze tt 0 0 (dest ∷ []) tt (p, tt) (omega arith) refl refl (omega arith) h)

in_arg_item : {n : Scope} (k : ℕ) → Inside n (NextOf n.limit (type ∷ value ∷ []) k) (arg_item k)
unfolding arg_item
in_arg_item k =
    then_with (in_type_child k 6 tt (in_parse_type depth_limit)) λ t h. then in_skip_attrs λ _. then_with (in_child (k + 1) in_value) λ v i.
    gives (joined h.0 i.0, omega (arith, i.1))

in_parse_arg_list : {n : Scope} (k : ℕ) → k ≤ child_limit → Inside n (Pairs n.limit k) (parse_arg_list k)
unfolding parse_arg_list
in_parse_arg_list k b =
    then in_eat_ws λ _.
    in_byte_if _ (gives (no_group, (b, omega arith))) (in_dots_list k (type ∷ value ∷ []) in_arg_item list_turns 0 5 (omega arith) tt k [] b no_group)

-- Without a function type nothing is repeated; with one it has the return type's words, and so its tree.
call : {n : ℕ} (dest : ℕ) → Is n optional dest → (t f : List ℕ) → Type' n t → Value n f → (l : Listed) → Pairs n 2 l → Instruction n (node (kind Call) 0 (count_of l) (dest ∷ ((t ++ f) ++ words_of l)))
unfolding sort_of form_of where_set repeat
call dest q t f h k l (grouped m e i, r) =
    over_with Call 0 m (dest ∷ []) (λ cs a b. absurd (omega arith)) tt (q, tt) (omega arith) refl (omega arith) r.0 (joined (joined h k) i)

typed_call : {n : ℕ} (dest : ℕ) → Is n optional dest → (t f : List ℕ) → Type' n t → (l : Listed) → Lists n 1 (type ∷ []) l → Value n f → (a : Listed) → Pairs n 3 a
    → Instruction n (node (kind Call) d_function_type (count_of a) (dest ∷ (((t ++ func_node t l) ++ f) ++ words_of a)))
unfolding func_node sorts sort_of form_of where_set repeat beside first_tree below_first behind_first
typed_call dest q t f (laid empty g s w) l i k a z = let o : ◌≡◌ {A = ℕ} 0 1 = cc in absurd (omega arith)
typed_call dest q t f (laid (tree y d p ds (tree y2 d2 p2 ds2 us)) g s w) l i k a z = let o : ◌≡◌ {A = ℕ} 0 1 = cc in absurd (omega arith)
typed_call {n} dest q t f (laid (tree y d p ds empty) g s w) l (grouped m e (laid lt lg ls lw), r) (laid v vg vs vw) a (grouped c o (laid x xg xs xw), z) =
    let u : Trees = tree y d p ds empty in
    let F : Trees = tree Func (dots_of l) [] (beside u lt) empty in
    let func : LaidAs n F (function ∷ []) (func_node t l) =
    over_as Func (dots_of l) m [] (beside u lt) (other Func tt (dots_of l) (beside u lt)) (le→leb (dots_of l) 1 r.1) tt (omega (arith, r.1)) refl (omega arith) r.0
    (joined_as n u lt (g, (s, w)) (lg, (ls, lw))) in
    let all = joined_as n (beside (beside u F) v) x (joined_as n (beside u F) v (joined_as n u F (g, (s, w)) func) (vg, (vs, vw))) (xg, (xs, xw)) in
    let h = over_as Call d_function_type c (dest ∷ []) (beside (beside (beside u F) v) x) (λ _ _. refl) tt (q, tt) (omega arith) refl (omega arith) z.0 all in
    laid (tree Call d_function_type (dest ∷ []) (beside (beside (beside u F) v) x) empty) h.0 h.1.0 h.1.1

in_call_rest : {n : Scope} (dest d k : ℕ) (types : List ℕ) → k ≤ child_limit
    → ((f : List ℕ) → Value n.limit f → (l : Listed) → Pairs n.limit k l → Instruction n.limit (node (kind Call) d (count_of l) (dest ∷ ((types ++ f) ++ words_of l)))) → Inside n (Instruction n.limit) (call_rest dest d k types)
unfolding call_rest
in_call_rest dest d k types b g =
    then_with in_value λ f h. then (in_expect_token _) λ _. then_with (in_parse_arg_list k b) λ l i. then in_skip_attrs λ _. in_ending _ _ _ _ (g f h l i)

in_call_of : {n : Scope} (dest : ℕ) → Is n.limit optional dest → (t : TypeOut) → Opens n t → Inside n (Instruction n.limit) (call_of dest t)
unfolding call_of
in_call_of dest q (plain t) h =
    in_token_if _
    (then_with (in_parse_type_list (in_parse_type list_depth) 5 tt) λ l i.
    in_call_rest dest 1 3 (t ++ func_node t l) (omega arith) (λ f k a b. typed_call dest q t f h l i k a b))
    (in_call_rest dest 0 2 t (omega arith) (λ f k a b. call dest q t f h k a b))
in_call_of dest q (opened t l j) o =
    in_call_rest dest 1 3 (t ++ func_node t l) (omega arith) (λ f k a b. typed_call dest q t f o.0 l o.1.0 k a b)

in_parse_call : {n : Scope} (dest : ℕ) → NameIn n.limit dest → Inside n (Instruction n.limit) (parse_call dest)
unfolding parse_call
in_parse_call dest p = then in_skip_call_cconv λ _. then in_skip_attrs λ _. then_with (in_parse_type depth_limit) λ t o. in_call_of dest (inr p) t o

in_parse_tail_call : {n : Scope} (dest : ℕ) → NameIn n.limit dest → Inside n (Instruction n.limit) (parse_tail_call dest)
unfolding parse_tail_call
in_parse_tail_call dest p = then (in_expect_keyword _) λ _. in_parse_call dest p

-- Terminators.
pub in_parse_ret : {n : Scope} → Inside n (Terminator n.limit) parse_ret
unfolding parse_ret sort_of form_of where_set repeat
in_parse_ret =
    then in_eat_ws λ _.
    in_word_if _ (in_ending _ _ _ _ (leaf Ret tt [] tt tt refl))
    (then_with in_typed_val λ x h. in_ending _ _ _ _ (over Ret tt 1 0 [] tt tt (omega arith) refl refl (omega arith) h))

in_target : {n : Scope} → Inside n (NameIn n.limit) target
unfolding target
in_target = then (in_expect_token _) λ _. then (in_expect_keyword _) λ _. in_parse_local_name

pub in_parse_br : {n : Scope} → Inside n (Terminator n.limit) parse_br
unfolding parse_br sort_of form_of
in_parse_br =
    then in_eat_ws λ _.
    in_word_if _ (then_with in_parse_local_name λ l h. in_ending _ _ _ _ (over Br tt 0 0 [] tt tt (omega arith) refl refl (omega arith) (label l h)))
    (then_with in_parse_operand λ c h. then_with in_target λ a i. then_with in_target λ b j.
    in_ending _ _ _ _ (over Br tt 3 0 [] tt tt (omega arith) refl refl (omega arith) (joined (joined h (label a i)) (label b j))))

-- a case's integer is two words
abbrev Case : ℕ → List ℕ → Type 0
Case n = Are n (any ∷ any ∷ [])

in_case_int : {n : Scope} → Inside n (Case n.limit) case_int
unfolding case_int
in_case_int = then in_parse_operand λ v. either (eqb (get_or v 0 0) (header (kind IntConst) 0 0 3)) (gives (tt, (tt, tt))) (in_refuse 12 tt)

-- So many cases, with two words and a label each.
data Switched (n : ℕ) : Cases → Type 0 where
  switched : {k : ℕ} {ints labels : List ℕ} (m : ℕ) → k ≡ switch_front + m → k ≤ child_limit → Are n (repeat m (any ∷ any ∷ [])) ints → Laid n (repeat m (name ∷ [])) labels → Switched n (cases k ints labels)

one_case : {n : ℕ} {k : ℕ} {ints labels : List ℕ} (c : List ℕ) (x : ℕ) → Switched n (cases k ints labels) → Case n c → NameIn n x → suc k ≤ child_limit → Switched n (cases (k + 1) (ints ++ c) (labels ++ label_node x))
one_case {n} {k} {ints} {labels} c x (switched m e b i h) j p r =
    let s : Are n (repeat m (any ∷ any ∷ []) ++ (any ∷ any ∷ [])) (ints ++ c) = are_joined n (repeat m (any ∷ any ∷ [])) (any ∷ any ∷ []) ints c i j in
    let t : Laid n (repeat m (name ∷ []) ++ (name ∷ [])) (labels ++ label_node x) = joined h (label x p) in
    let a : k + 1 ≡ switch_front + suc m = omega arith in
    let l : k + 1 ≤ child_limit = omega arith in
    switched (suc m) a l (rw repeat_behind at s) (rw repeat_behind at t)

in_switch_cases : {n : Scope} (u k : ℕ) (ints labels : List ℕ) → Switched n.limit (cases k ints labels) → Inside n (Switched n.limit) (switch_cases u k ints labels)
unfolding switch_cases
in_switch_cases zero k ints labels h = in_refuse 19 tt
in_switch_cases (suc u) k ints labels h =
    in_token_if _ (gives h)
    (then_with in_case_int λ c i. then_with (in_child k in_target) λ l j.
    in_switch_cases u (k + 1) (ints ++ c) (labels ++ label_node l) (one_case c l h i j.0 j.1))

-- the payload is the case count and the integers; type, value, default and labels are behind it
switch : {n : ℕ} (x : List ℕ) → Pair n x → (def : ℕ) → NameIn n def → (c : Cases) → Switched n c → Terminator n (switch_node x def c)
unfolding switch_node sort_of form_of
switch x h def p (cases k ints labels) (switched m e b i j) =
    let z : k - switch_front ≡ m = omega arith in
    let l : length (repeat m (name ∷ [])) ≡ m = repeat_length m name in
    rw (append_assoc, append_assoc)
    (over Switch tt 0 m ((k - switch_front) ∷ ints) tt ((omega arith, omega arith), i) (omega arith) refl (omega arith) b (joined h (joined (label def p) j)))

pub in_parse_switch : {n : Scope} → Inside n (Terminator n.limit) parse_switch
unfolding parse_switch repeat
in_parse_switch =
    then_with in_typed_val λ x h. then_with in_target λ d i. then (in_expect_token _) λ _.
    then_with (in_switch_cases list_turns switch_front [] [] (switched 0 refl (omega arith) tt nothing)) λ c j. then in_parse_trailing λ _. gives (switch x h d i c j)

pub in_parse_unreachable : {n : Scope} → Inside n (Terminator n.limit) parse_unreachable
unfolding parse_unreachable sort_of form_of
in_parse_unreachable = in_ending _ _ _ _ (leaf Unreachable tt [] tt tt refl)

pub in_is_word_then : {A : Type 0} {P : A → Type 0} {n : Scope} {f g : Prog A} (w v : List ℕ) → Inside n P f → Inside n P g → Inside n P (is_word_then w v f g)
unfolding is_word_then
in_is_word_then w v h k = either (same_word w v) h k

pub in_value_inst : {n : Scope} (dest : ℕ) → NameIn n.limit dest → (w : List ℕ) → Inside n (Instruction n.limit) (value_inst dest w)
unfolding value_inst
in_value_inst dest p w =
    in_among w _ (λ op b. in_parse_bin op dest p b)
    (in_among w _ (λ op b. in_parse_fbin op dest p b)
    (in_is_word_then w _ (in_parse_fneg dest p)
    (in_among w _ (λ op b. in_parse_conv op dest p b)
    (in_is_word_then w _ (in_parse_icmp dest p)
    (in_is_word_then w _ (in_parse_fcmp dest p)
    (in_is_word_then w _ (in_parse_select dest p)
    (in_is_word_then w _ (in_parse_load dest p)
    (in_is_word_then w _ (in_parse_gep_inst dest p)
    (in_is_word_then w _ (in_parse_phi dest p)
    (in_is_word_then w _ (in_parse_alloca dest p)
    (in_is_word_then w _ (in_parse_freeze dest p)
    (in_is_word_then w _ (in_parse_call dest p)
    (in_is_word_then w _ (in_parse_cmpxchg dest p)
    (in_is_word_then w _ (in_parse_atomicrmw dest p)
    (in_is_word_then w _ (in_parse_extractvalue dest p)
    (in_among w _ (λ r b. in_parse_tail_call dest p)
    (in_refuse 9 tt)))))))))))))))))

-- an instruction, and the counter behind it
abbrev pub Counting : (n c : ℕ) → Counted (List ℕ) → Type 0
Counting n c x = Counts c x × Instruction n (item_of x)

in_numbered_call : {n : Scope} (c : ℕ) (t : TypeOut) (ws : List ℕ) → Instruction n.limit ws → Inside n (Counting n.limit c) (numbered_call c t ws)
unfolding numbered_call
in_numbered_call c t ws i =
    then_with in_place λ j l. then_with (either (is_void t) (gives (stays c)) (in_takes_next j c l)) λ d h. gives (h, i)

in_parse_plain_call : {n : Scope} (c : ℕ) → Inside n (Counting n.limit c) (parse_plain_call c)
unfolding parse_plain_call
in_parse_plain_call c =
    then in_skip_call_cconv λ _. then in_skip_attrs λ _. then_with (in_parse_type depth_limit) λ t o. then_with (in_call_of 0 (inl refl) t o) λ ws i. in_numbered_call c t ws i

in_parse_plain_tail_call : {n : Scope} (c : ℕ) → Inside n (Counting n.limit c) (parse_plain_tail_call c)
unfolding parse_plain_tail_call
in_parse_plain_tail_call c = then (in_expect_keyword _) λ _. in_parse_plain_call c

in_uncounted : {n : Scope} {f : Prog (List ℕ)} (c : ℕ) → Inside n (Instruction n.limit) f → Inside n (Counting n.limit c) (uncounted c f)
unfolding uncounted
in_uncounted c h = then_with h λ ws i. gives (stays c, i)

pub in_plain_inst : {n : Scope} {g : Prog (Counted (List ℕ))} (c : ℕ) (w : List ℕ) → Inside n (Counting n.limit c) g → Inside n (Counting n.limit c) (plain_inst c w g)
unfolding plain_inst
in_plain_inst c w h =
    in_is_word_then w _ (in_uncounted c in_parse_store)
    (in_is_word_then w _ (in_uncounted c in_parse_fence)
    (in_is_word_then w _ (in_parse_plain_call c)
    (in_among w _ (λ r b. in_parse_plain_tail_call c)
    h)))
