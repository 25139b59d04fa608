-- Instructions and terminators (parser.rs "Functions" and "Terminators"), as programs that give their words, each behind its opcode.
-- A definition is named as its Rust function, in the other spelling: `parse_bin` is `parse_bin`.
-- 01: "Record words": the destination is the first payload word, zero when absent; no terminator has one.
-- Assumes nothing.
use Rattle.std.specs.Prelude.{Bool, true, false, List, [], ◌∷◌, ◌++◌, ℕ, zero, suc, ◌+◌, ◌-◌, ◌*◌, ltb, eqb, length, get_or}
use Rattle.std.proofs.Math.Option.{Option, none, some}
use Rattle.program.specs.Bytes.{bytes, byte, table}
use Rattle.program.specs.Prog.{Prog, ret, ◌>>=◌}
use Rattle.records.specs.Words.{header, node}
use Rattle.records.specs.Kinds.{kind, Void, Func, IntConst, Bin, FBin, FNeg, Conv, ICmp, FCmp, Select, Load, Store, Alloca, Gep, Phi, Call, Freeze, AtomicLoad, AtomicStore, AtomicRmw, Cmpxchg, ExtractValue, Fence, Ret, Br, Switch, Unreachable, Name}
use Rattle.records.specs.Limits.{turns, index_limit, number_limit, depth_limit, list_depth, list_turns}
use Rattle.records.specs.Questions.{q_token, q_type, q_value, q_statement, q_opcode, q_predicate, q_trailing, q_case, q_children}
use Rattle.records.specs.Details.{d_none, d_count, d_alloca_align, d_function_type, d_condition, d_value}
use Rattle.grammar.specs.Lexer.{refuse, place, eat_ws, byte_if, byte_at_if, word_if, rank_if, token_if, expect_token, expect_keyword, skip_keyword, skip_one, skip_all, same_word, rank, spelled, read_word, parse_local_name, skip_parens, skip_metadata_ref}
use Rattle.grammar.specs.Numbers.{parse_int}
use Rattle.grammar.specs.Counter.{Counted, counted, takes_next}
use Rattle.grammar.specs.Attributes.{skip_attrs, skip_call_cconv, skip_arith_flags, skip_fast_math_flags, conv_flags}
use Rattle.grammar.specs.Types.{Listed, listed, count_of, dots_of, words_of, TypeOut, plain, opened, child, whole, type_child, dots_list, parse_type_list, parse_type}
use Rattle.grammar.specs.Values.{pair_child, parse_gep_flags, bin_ops, parse_value, parse_typed_val}

-- an outermost type, behind which a `(` is refused with q; an outermost value
abbrev pub type : ℕ → Prog (List ℕ)
type q = whole q (parse_type depth_limit)

abbrev pub value : Prog (List ℕ)
value = parse_value depth_limit

-- "Branch, switch and phi labels are the other names": a child of kind 63
unfoldable pub label_node : ℕ → List ℕ
label_node n = node (kind Name) d_none 0 (n ∷ [])

-- a typed value whose type is dropped
unfoldable pub parse_operand : Prog (List ℕ)
parse_operand = type q_value >>= λ _. value

-- What stands in clauses behind an instruction's operands: an alloca's count, if there is one, and the alignment's word.
pub data Clauses : Type 0 where
  clauses : Option (List ℕ) → List ℕ → Clauses

-- Clauses behind commas, as many as stand there: `align N`, metadata, or else what `count` reads. "of several counts and aligns the last counts"
unfoldable pub clauses_in : ℕ → Prog (List ℕ) → Option (List ℕ) → List ℕ → Prog Clauses
clauses_in zero count n align = ret (clauses n align)
clauses_in (suc u) count n align =
    token_if (byte ",")
    (do
      _ ← eat_ws
      word_if (bytes "align")
          (do
            _ ← eat_ws
            a ← parse_int 0 number_limit
            clauses_in u count n (a ∷ []))
          (byte_if (byte "!") (skip_metadata_ref >>= λ _. clauses_in u count n align)
          (count >>= λ x. clauses_in u count (some x) align)))
    (ret (clauses n align))

abbrev pub alignment : Clauses → List ℕ
alignment (clauses n align) = align

-- `parse_trailing`: the last alignment, as its word; a count is refused
unfoldable pub parse_trailing : Prog (List ℕ)
parse_trailing = clauses_in turns (refuse q_trailing) none [] >>= λ c. ret (alignment c)

-- an instruction's end: what trails is dropped, and the node is whole
unfoldable pub ending : (k d n : ℕ) → List ℕ → Prog (List ℕ)
ending k d n body = parse_trailing >>= λ _. ret (node k d n body)

-- the orderings of `skip_atomic_ordering`
unfoldable pub orderings : List (List ℕ)
orderings = table "seq_cst acq_rel acquire release monotonic unordered"

unfoldable pub skip_atomic_ordering : Prog (Unit {0})
skip_atomic_ordering = do
  _ ← eat_ws
  _ ← word_if (bytes "syncscope") skip_parens (ret tt)
  skip_one orderings

-- T V, V
unfoldable pub two_operands : Prog (List ℕ)
two_operands = do
  t ← type q_value
  a ← value
  _ ← expect_token (byte ",")
  b ← value
  ret ((t ++ a) ++ b)

-- T V, V to the end of an operation or a comparison
unfoldable pub binary : (k d dest : ℕ) → Prog (List ℕ)
binary k d dest = two_operands >>= λ x. ending k d 3 (dest ∷ x)

unfoldable pub parse_bin : ℕ → ℕ → Prog (List ℕ)
parse_bin op dest = skip_arith_flags >>= λ _. binary (kind Bin) op dest

unfoldable pub parse_fbin : ℕ → ℕ → Prog (List ℕ)
parse_fbin op dest = skip_fast_math_flags >>= λ _. binary (kind FBin) op dest

-- T V to the end
unfoldable pub unary : (k dest : ℕ) → Prog (List ℕ)
unary k dest = parse_typed_val depth_limit >>= λ x. ending k d_none 2 (dest ∷ x)

unfoldable pub parse_fneg : ℕ → Prog (List ℕ)
parse_fneg dest = skip_fast_math_flags >>= λ _. unary (kind FNeg) dest

-- Behind an instruction that ends in a type a `(` begins the next statement, which refuses with 8: here already, since a type that read a list
-- says so of its `(` too.
unfoldable pub no_paren : {A : Type 0} → Prog A → Prog A
no_paren p = byte_at_if (byte "(") (refuse q_statement) p

unfoldable pub parse_conv : ℕ → ℕ → Prog (List ℕ)
parse_conv op dest = do
  _ ← skip_all turns conv_flags
  x ← parse_typed_val depth_limit
  _ ← expect_keyword (bytes "to")
  t ← type q_statement
  no_paren (ending (kind Conv) op 3 (dest ∷ (x ++ t)))

-- `ICmpPred`, in ast.rs order
unfoldable pub icmp_preds : List (List ℕ)
icmp_preds = table "eq ne ugt uge ult ule sgt sge slt sle"

-- `FCmpPred`, in ast.rs order
unfoldable pub fcmp_preds : List (List ℕ)
fcmp_preds = table "false oeq ogt oge olt ole one ord ueq ugt uge ult ule une uno true"

-- `parse_icmp_pred`, `parse_fcmp_pred`: question 10
unfoldable pub predicate : List (List ℕ) → Prog ℕ
predicate preds = eat_ws >>= λ _. rank_if preds ret (refuse q_predicate)

unfoldable pub parse_icmp : ℕ → Prog (List ℕ)
parse_icmp dest = do
  _ ← skip_keyword (bytes "samesign")
  p ← predicate icmp_preds
  binary (kind ICmp) p dest

unfoldable pub parse_fcmp : ℕ → Prog (List ℕ)
parse_fcmp dest = do
  _ ← skip_fast_math_flags
  p ← predicate fcmp_preds
  binary (kind FCmp) p dest

-- condition, type, values: the types of the condition and of the second value are dropped
unfoldable pub parse_select : ℕ → Prog (List ℕ)
parse_select dest = do
  c ← parse_operand
  _ ← expect_token (byte ",")
  x ← parse_typed_val depth_limit
  _ ← expect_token (byte ",")
  y ← parse_operand
  ending (kind Select) d_none 4 (dest ∷ ((c ++ x) ++ y))

-- T, T V
unfoldable pub load_operands : Prog (List ℕ)
load_operands = do
  t ← type q_token
  _ ← expect_token (byte ",")
  p ← parse_operand
  ret (t ++ p)

-- T V, T V
unfoldable pub store_operands : Prog (List ℕ)
store_operands = do
  x ← parse_typed_val depth_limit
  _ ← expect_token (byte ",")
  p ← parse_operand
  ret (x ++ p)

-- a load or a store, behind its word: the alignment stands before the operands, and takes no word when absent; a detail bit says that it is there
unfoldable pub access : (k atomic n : ℕ) → Prog (List ℕ) → ℕ → Prog (List ℕ)
access k atomic n operands dest = do
  _ ← eat_ws
  word_if (bytes "atomic")
      (do
        _ ← skip_keyword (bytes "volatile")
        x ← operands
        _ ← skip_atomic_ordering
        ending atomic 0 n (dest ∷ x))
      (do
        _ ← skip_keyword (bytes "volatile")
        x ← operands
        align ← parse_trailing
        ret (node k (length align) n (dest ∷ (align ++ x))))

unfoldable pub parse_load : ℕ → Prog (List ℕ)
parse_load dest = access (kind Load) (kind AtomicLoad) 2 load_operands dest

unfoldable pub parse_store : Prog (List ℕ)
parse_store = access (kind Store) (kind AtomicStore) 3 store_operands 0

-- T V, T V, of which the first is the pointer; laid out as type, pointer, value
unfoldable pub pointer_then_value : Prog (List ℕ)
pointer_then_value = do
  p ← parse_operand
  _ ← expect_token (byte ",")
  t ← type q_value
  v ← value
  ret ((t ++ p) ++ v)

-- read as pointer, type and comparand, new value; laid out as type, pointer, comparand, new value
unfoldable pub parse_cmpxchg : ℕ → Prog (List ℕ)
parse_cmpxchg dest = do
  _ ← skip_keyword (bytes "weak")
  _ ← skip_keyword (bytes "volatile")
  x ← pointer_then_value
  _ ← expect_token (byte ",")
  n ← parse_operand
  _ ← skip_atomic_ordering
  _ ← skip_atomic_ordering
  ending (kind Cmpxchg) d_none 4 (dest ∷ (x ++ n))

-- a word among those of a table, by its rank
unfoldable pub among : {A : Type 0} → List ℕ → List (List ℕ) → (ℕ → Prog A) → Prog A → Prog A
among w ks p q = elim (ltb (rank w ks) (length ks)) [ true ↦ p (rank w ks) | false ↦ q ]

-- `RmwOp`, in ast.rs order
unfoldable pub rmw_ops : List (List ℕ)
rmw_ops = table "xchg add sub and or xor nand"

-- M-100: "The operations are the seven of `RmwOp`; any other word is refused as an unknown opcode, behind that word." A word is what an opcode is.
unfoldable pub rmw_op : Prog ℕ
rmw_op = do
  _ ← eat_ws
  w ← read_word
  among (spelled w) rmw_ops ret (refuse q_opcode)

-- M-100, behind its word: "optional `volatile`, the operation, pointer type and value, comma, type and value, optional scope, optional ordering,
-- trailing part"
unfoldable pub parse_atomicrmw : ℕ → Prog (List ℕ)
parse_atomicrmw dest = do
  _ ← skip_keyword (bytes "volatile")
  op ← rmw_op
  x ← pointer_then_value
  _ ← skip_atomic_ordering
  ending (kind AtomicRmw) op 3 (dest ∷ x)

-- Question 15: "index below 2^32"
unfoldable pub parse_extractvalue : ℕ → Prog (List ℕ)
parse_extractvalue dest = do
  a ← parse_operand
  _ ← expect_token (byte ",")
  _ ← eat_ws
  n ← parse_int 0 index_limit
  ending (kind ExtractValue) d_none 1 (dest ∷ (n ∷ a))

unfoldable pub parse_fence : Prog (List ℕ)
parse_fence = skip_atomic_ordering >>= λ _. ending (kind Fence) d_none 0 (0 ∷ [])

-- an alloca's type, and the clauses behind it
unfoldable pub alloca_node : ℕ → List ℕ → Clauses → List ℕ
alloca_node dest t (clauses none align) = node (kind Alloca) (length align * d_alloca_align) 1 (dest ∷ (align ++ t))
alloca_node dest t (clauses (some x) align) = node (kind Alloca) (d_count + length align * d_alloca_align) 3 (dest ∷ ((align ++ t) ++ x))

unfoldable pub parse_alloca : ℕ → Prog (List ℕ)
parse_alloca dest = do
  _ ← skip_keyword (bytes "inalloca")
  t ← type q_statement
  no_paren (clauses_in turns (parse_typed_val depth_limit) none [] >>= λ c. ret (alloca_node dest t c))

-- a getelementptr's indices, from before the comma: n children so far, base type and pointer among them
unfoldable pub gep_inst_indices : ℕ → ℕ → List ℕ → Prog Listed
gep_inst_indices zero n acc = ret (listed n 0 acc)
gep_inst_indices (suc u) n acc =
    token_if (byte ",")
    (do
      _ ← eat_ws
      byte_if (byte "!") (skip_metadata_ref >>= λ _. gep_inst_indices u n acc)
          (do
            x ← pair_child (parse_type depth_limit) value n
            gep_inst_indices u (n + 2) (acc ++ x)))
    (ret (listed n 0 acc))

unfoldable pub parse_gep_inst : ℕ → Prog (List ℕ)
parse_gep_inst dest = do
  inbounds ← parse_gep_flags turns d_none
  t ← type q_token
  _ ← expect_token (byte ",")
  p ← parse_operand
  l ← gep_inst_indices turns 2 []
  ret (node (kind Gep) inbounds (count_of l) (dest ∷ ((t ++ p) ++ words_of l)))

-- a phi's pairs of value and label; n children so far
unfoldable pub phi_items : ℕ → ℕ → List ℕ → Prog Listed
phi_items zero n acc = refuse q_children
phi_items (suc u) n acc = do
  _ ← expect_token (byte "[")
  v ← child n value
  _ ← expect_token (byte ",")
  l ← child (n + 1) parse_local_name
  _ ← expect_token (byte "]")
  token_if (byte ",") (phi_items u (n + 2) ((acc ++ v) ++ label_node l)) (ret (listed (n + 2) 0 ((acc ++ v) ++ label_node l)))

unfoldable pub parse_phi : ℕ → Prog (List ℕ)
parse_phi dest = do
  t ← type q_token
  l ← phi_items list_turns 1 []
  ret (node (kind Phi) d_none (count_of l) (dest ∷ (t ++ words_of l)))

unfoldable pub parse_freeze : ℕ → Prog (List ℕ)
parse_freeze dest = unary (kind Freeze) dest

-- an argument, the next children after n: a typed value with attributes behind its type
unfoldable pub arg_item : ℕ → Prog (List ℕ)
arg_item n = do
  t ← type_child n q_value (parse_type depth_limit)
  _ ← skip_attrs
  v ← child (n + 1) value
  ret (t ++ v)

-- a call's arguments (`parse_arg_list`), through the `)`; n children stand before them
unfoldable pub parse_arg_list : ℕ → Prog Listed
parse_arg_list n = eat_ws >>= λ _. byte_if (byte ")") (ret (listed n 0 [])) (dots_list list_turns 2 0 q_type arg_item n [])

-- `Type::Func`, which survives in calls alone: the return type again, then the list
unfoldable pub func_node : List ℕ → Listed → List ℕ
func_node t l = node (kind Func) (dots_of l) (count_of l) (t ++ words_of l)

-- behind the types: callee, arguments, attributes, trailing part
unfoldable pub call_rest : ℕ → ℕ → ℕ → List ℕ → Prog (List ℕ)
call_rest dest d n types = do
  f ← value
  _ ← expect_token (byte "(")
  l ← parse_arg_list n
  _ ← skip_attrs
  ending (kind Call) d (count_of l) (dest ∷ ((types ++ f) ++ words_of l))

-- Behind the return type. A list that the type did not take as its own is the function type's.
unfoldable pub call_of : ℕ → TypeOut → Prog (List ℕ)
call_of dest (plain t) =
    token_if (byte "(")
    (do
      l ← parse_type_list q_type (parse_type list_depth)
      call_rest dest d_function_type 3 (t ++ func_node t l))
    (call_rest dest d_none 2 t)
call_of dest (opened t l j) = call_rest dest d_function_type 3 (t ++ func_node t l)

unfoldable pub parse_call : ℕ → Prog (List ℕ)
parse_call dest = do
  _ ← skip_call_cconv
  _ ← skip_attrs
  t ← parse_type depth_limit
  call_of dest t

-- `tail`, `musttail`, `notail`
unfoldable pub parse_tail_call : ℕ → Prog (List ℕ)
parse_tail_call dest = expect_keyword (bytes "call") >>= λ _. parse_call dest

-- is it void?
unfoldable pub is_void : TypeOut → Bool
is_void (plain t) = eqb (get_or t 0 0) (header (kind Void) d_none 0 1)
is_void (opened t l j) = eqb (get_or t 0 0) (header (kind Void) d_none 0 1)

-- behind a call without a destination, whose type is t: M-106, "a non-void call without a destination" takes the next number
unfoldable pub numbered_call : ℕ → TypeOut → List ℕ → Prog (Counted (List ℕ))
numbered_call c t ws = do
  j ← place
  d ← elim (is_void t) [ true ↦ ret c | false ↦ takes_next j c ]
  ret (counted d ws)

-- `parse_call` without a destination, by the counter
unfoldable pub parse_plain_call : ℕ → Prog (Counted (List ℕ))
parse_plain_call c = do
  _ ← skip_call_cconv
  _ ← skip_attrs
  t ← parse_type depth_limit
  ws ← call_of 0 t
  numbered_call c t ws

unfoldable pub parse_plain_tail_call : ℕ → Prog (Counted (List ℕ))
parse_plain_tail_call c = expect_keyword (bytes "call") >>= λ _. parse_plain_call c

-- Terminators.
unfoldable pub parse_ret : Prog (List ℕ)
parse_ret = do
  _ ← eat_ws
  word_if (bytes "void") (ending (kind Ret) d_none 0 []) (parse_typed_val depth_limit >>= λ x. ending (kind Ret) d_value 2 x)

unfoldable pub target : Prog ℕ
target = do
  _ ← expect_token (byte ",")
  _ ← expect_keyword (bytes "label")
  parse_local_name

unfoldable pub parse_br : Prog (List ℕ)
parse_br = do
  _ ← eat_ws
  word_if (bytes "label")
      (parse_local_name >>= λ l. ending (kind Br) d_none 1 (label_node l))
      (do
        c ← parse_operand
        a ← target
        b ← target
        ending (kind Br) d_condition 3 ((c ++ label_node a) ++ label_node b))

-- a case's integer: the value's two words (question 12, behind the value); an integer's node has this header, and no other node
unfoldable pub case_int : Prog (List ℕ)
case_int = parse_operand >>= λ v. elim (eqb (get_or v 0 0) (header (kind IntConst) d_none 0 3)) [ true ↦ ret (get_or v 1 0 ∷ get_or v 2 0 ∷ []) | false ↦ refuse q_case ]

-- a switch's cases: the children so far, their integers, the nodes of their labels
pub data Cases : Type 0 where
  cases : ℕ → List ℕ → List ℕ → Cases

unfoldable pub switch_cases : ℕ → ℕ → List ℕ → List ℕ → Prog Cases
switch_cases zero n ints labels = refuse q_children
switch_cases (suc u) n ints labels =
    token_if (byte "]") (ret (cases n ints labels))
    (do
      c ← case_int
      l ← child n target
      switch_cases u (n + 1) (ints ++ c) (labels ++ label_node l))

-- type, value and default are children before the cases' labels
abbrev pub switch_front : ℕ
switch_front = 3

-- M-111: "A switch's payload now begins with its case count."
unfoldable pub switch_node : List ℕ → ℕ → Cases → List ℕ
switch_node x def (cases n ints labels) = node (kind Switch) d_none n (((((n - switch_front) ∷ ints) ++ x) ++ label_node def) ++ labels)

unfoldable pub parse_switch : Prog (List ℕ)
parse_switch = do
  x ← parse_typed_val depth_limit
  def ← target
  _ ← expect_token (byte "[")
  c ← switch_cases list_turns switch_front [] []
  _ ← parse_trailing
  ret (switch_node x def c)

unfoldable pub parse_unreachable : Prog (List ℕ)
parse_unreachable = ending (kind Unreachable) d_none 0 []

-- Opcodes.
-- `FBinOp`, in ast.rs order
unfoldable pub fbin_ops : List (List ℕ)
fbin_ops = table "fadd fsub fmul fdiv frem"

-- `ConvOp`, in ast.rs order
unfoldable pub inst_conv_ops : List (List ℕ)
inst_conv_ops = table "trunc zext sext ptrtoint inttoptr bitcast sitofp uitofp fptosi fptoui fpext fptrunc"

unfoldable pub is_word_then : {A : Type 0} → List ℕ → List ℕ → Prog A → Prog A → Prog A
is_word_then w kw p q = elim (same_word w kw) [ true ↦ p | false ↦ q ]

unfoldable pub tail_words : List (List ℕ)
tail_words = table "tail musttail notail"

-- `parse_value_inst`, behind its opcode w with quotes and escapes undone; 9 where no opcode is w. M-100: `atomicrmw` is "read behind a `=` only".
unfoldable pub value_inst : ℕ → List ℕ → Prog (List ℕ)
value_inst dest w =
    among w bin_ops (λ op. parse_bin op dest)
    (among w fbin_ops (λ op. parse_fbin op dest)
    (is_word_then w (bytes "fneg") (parse_fneg dest)
    (among w inst_conv_ops (λ op. parse_conv op dest)
    (is_word_then w (bytes "icmp") (parse_icmp dest)
    (is_word_then w (bytes "fcmp") (parse_fcmp dest)
    (is_word_then w (bytes "select") (parse_select dest)
    (is_word_then w (bytes "load") (parse_load dest)
    (is_word_then w (bytes "getelementptr") (parse_gep_inst dest)
    (is_word_then w (bytes "phi") (parse_phi dest)
    (is_word_then w (bytes "alloca") (parse_alloca dest)
    (is_word_then w (bytes "freeze") (parse_freeze dest)
    (is_word_then w (bytes "call") (parse_call dest)
    (is_word_then w (bytes "cmpxchg") (parse_cmpxchg dest)
    (is_word_then w (bytes "atomicrmw") (parse_atomicrmw dest)
    (is_word_then w (bytes "extractvalue") (parse_extractvalue dest)
    (among w tail_words (λ r. parse_tail_call dest)
    (refuse q_opcode)))))))))))))))))

-- no number is taken
unfoldable pub uncounted : ℕ → Prog (List ℕ) → Prog (Counted (List ℕ))
uncounted c p = p >>= λ ws. ret (counted c ws)

-- the instructions without a destination, behind their word; c is the counter
unfoldable pub plain_inst : ℕ → List ℕ → Prog (Counted (List ℕ)) → Prog (Counted (List ℕ))
plain_inst c w g =
    is_word_then w (bytes "store") (uncounted c parse_store)
    (is_word_then w (bytes "fence") (uncounted c parse_fence)
    (is_word_then w (bytes "call") (parse_plain_call c)
    (among w tail_words (λ r. parse_plain_tail_call c)
    g)))
