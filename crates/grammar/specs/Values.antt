-- Values and constants (parser.rs "Values"), as programs that give their words. 01: "Types and values".
-- Assumes nothing.
use Rattle.std.specs.Prelude.{Bool, true, false, List, [], ◌∷◌, ◌++◌, ℕ, zero, suc, ◌+◌, length}
use Rattle.program.specs.Bytes.{bytes, byte, table}
use Rattle.program.specs.Class.{is_digit}
use Rattle.program.specs.Prog.{Prog, ret, fail, look, eat, lead, ◌>>=◌}
use Rattle.records.specs.Words.{node}
use Rattle.records.specs.Kinds.{kind, Local, Global, IntConst, FloatConst, Null, Undef, Poison, ZeroInit, CStr, ArrayConst, StructConst, GepExpr, ConvExpr, BinExpr}
use Rattle.records.specs.Limits.{turns, list_turns}
use Rattle.records.specs.Questions.{q_token, q_value, q_depth, q_children}
use Rattle.records.specs.Details.{d_none, d_inbounds}
use Rattle.grammar.specs.Lexer.{refuse, place, eat_ws, byte_if, starts_with, eat_n, word_if, word_at_if, rank_if, expect_token, expect_keyword, skip_keyword, cstring_at, skip_parens}
use Rattle.grammar.specs.Numbers.{Literal, int, float, parse_numeral, parse_hex_float, parse_f0x}
use Rattle.grammar.specs.Attributes.{skip_arith_flags}
use Rattle.grammar.specs.Types.{Listed, listed, count_of, words_of, TypeOut, child, whole, type_child, comma_or, comma_list, name_node, parse_type}

-- `ConvOp`, in ast.rs order; a constant expression has the first six (`match_conv_op`)
unfoldable pub conv_ops : List (List ℕ)
conv_ops = table "trunc zext sext ptrtoint inttoptr bitcast"

-- `BinOp`, in ast.rs order (`match_bin_op`)
unfoldable pub bin_ops : List (List ℕ)
bin_ops = table "add sub mul udiv sdiv urem srem and or xor shl lshr ashr"

-- the word at the cursor begins so (`match_chars`, no end test)
unfoldable pub prefix_if : {A : Type 0} → List ℕ → Prog A → Prog A → Prog A
prefix_if kw p q = lead (λ w. elim (starts_with kw w) [ true ↦ eat_n (length kw) p | false ↦ q ])

unfoldable pub literal_words : Literal → List ℕ
literal_words (int hl) = node (kind IntConst) d_none 0 hl
literal_words (float b) = node (kind FloatConst) d_none 0 (b ∷ [])

unfoldable pub float_node : ℕ → Prog (List ℕ)
float_node b = ret (node (kind FloatConst) d_none 0 (b ∷ []))

unfoldable pub numeral : Bool → Prog (List ℕ)
numeral neg = parse_numeral neg >>= λ l. ret (literal_words l)

unfoldable pub digit_if : {A : Type 0} → Prog A → Prog A → Prog A
digit_if p q = look (λ x. elim (is_digit x) [ true ↦ p | false ↦ q ])

-- a numeric constant, or g: `+inf`, `-inf`, `+qnan`, `0x..`, integers and decimals
unfoldable pub numeric_or : Prog (List ℕ) → Prog (List ℕ)
numeric_or g =
    byte_if (byte "+")
    (prefix_if (bytes "inf") (float_node 0x7FF0_0000_0000_0000)
    (prefix_if (bytes "qnan") (float_node 0x7FF8_0000_0000_0000)
    (numeral false)))
    (byte_if (byte "-")
    (prefix_if (bytes "inf") (float_node 0xFFF0_0000_0000_0000)
    (numeral true))
    (digit_if
    (prefix_if (bytes "0x") (parse_hex_float >>= float_node)
    (prefix_if (bytes "0X") (parse_hex_float >>= float_node)
    (numeral false)))
    g))

-- `c".."`: a `c` before anything else is no value
unfoldable pub cstring : Prog (List ℕ)
cstring = do
  i ← place
  eat (do
    j ← place
    byte_if (byte "\"") (cstring_at j >>= λ n. ret (node (kind CStr) d_none 0 (n ∷ []))) (fail q_value i))

-- the values that hold no other, or g
unfoldable pub leaf_values : Prog (List ℕ) → Prog (List ℕ)
leaf_values g =
    byte_if (byte "%") (name_node (kind Local))
    (byte_if (byte "@") (name_node (kind Global))
    (numeric_or
    (word_if (bytes "true") (ret (node (kind IntConst) d_none 0 (0 ∷ 1 ∷ [])))
    (word_if (bytes "false") (ret (node (kind IntConst) d_none 0 (0 ∷ 0 ∷ [])))
    (word_if (bytes "null") (ret (node (kind Null) d_none 0 []))
    (word_if (bytes "undef") (ret (node (kind Undef) d_none 0 []))
    (word_if (bytes "poison") (ret (node (kind Poison) d_none 0 []))
    (word_if (bytes "zeroinitializer") (ret (node (kind ZeroInit) d_none 0 []))
    (word_at_if (bytes "c") cstring
    (prefix_if (bytes "f0x") (parse_f0x >>= float_node)
    g))))))))))

-- `parse_typed_val`: at a `(` behind the type the value refuses with 6
unfoldable pub pair_with : Prog TypeOut → Prog (List ℕ) → Prog (List ℕ)
pair_with type value = do
  t ← whole q_value type
  v ← value
  ret (t ++ v)

-- the same as the next children after n: "A typed value is two"
unfoldable pub pair_child : Prog TypeOut → Prog (List ℕ) → ℕ → Prog (List ℕ)
pair_child type value n = do
  t ← type_child n q_value type
  v ← child (n + 1) value
  ret (t ++ v)

-- `parse_array_const`, `parse_struct_const`, behind the opening byte
unfoldable pub pair_list : ℕ → Prog TypeOut → Prog (List ℕ) → Prog Listed
pair_list end type value = eat_ws >>= λ _. byte_if end (ret (listed 0 0 [])) (comma_list list_turns 2 end (pair_child type value) 0 [])

unfoldable pub aggregate : ℕ → ℕ → Prog TypeOut → Prog (List ℕ) → Prog (List ℕ)
aggregate k end type value = pair_list end type value >>= λ l. ret (node k d_none (count_of l) (words_of l))

-- `<{ .. }>`: "Packed struct constants lose their packing." A `<` before anything else is no value.
unfoldable pub packed_const : ℕ → Prog TypeOut → Prog (List ℕ) → Prog (List ℕ)
packed_const i type value =
    byte_if (byte "{")
    (do
      l ← pair_list (byte "}") type value
      _ ← expect_token (byte ">")
      ret (node (kind StructConst) d_none (count_of l) (words_of l)))
    (fail q_value i)

-- `parse_gep_flags`: 1 where `inbounds` is among them
unfoldable pub parse_gep_flags : ℕ → ℕ → Prog ℕ
parse_gep_flags zero inbounds = ret inbounds
parse_gep_flags (suc u) inbounds = do
  _ ← eat_ws
  word_if (bytes "inbounds") (parse_gep_flags u d_inbounds)
      (word_if (bytes "nuw") (parse_gep_flags u inbounds)
      (word_if (bytes "nusw") (parse_gep_flags u inbounds)
      (word_if (bytes "inrange") (skip_parens >>= λ _. parse_gep_flags u inbounds)
      (ret inbounds))))

-- the indices of a constant getelementptr, from before the comma through the `)`; base type, type and value of the base stand before them
unfoldable pub gep_indices : ℕ → Prog TypeOut → Prog (List ℕ) → ℕ → List ℕ → Prog Listed
gep_indices zero type value n acc = refuse q_children
gep_indices (suc u) type value n acc =
    comma_or (byte ")")
    (do
      _ ← skip_keyword (bytes "inrange")
      x ← pair_child type value n
      gep_indices u type value (n + 2) (acc ++ x))
    (ret (listed n 0 acc))

-- `parse_ce_gep`, behind the word
unfoldable pub parse_ce_gep : Prog TypeOut → Prog (List ℕ) → Prog (List ℕ)
parse_ce_gep type value = do
  inbounds ← parse_gep_flags turns d_none
  _ ← expect_token (byte "(")
  t ← whole q_token type
  _ ← expect_token (byte ",")
  x ← pair_with type value
  l ← gep_indices list_turns type value 3 []
  ret (node (kind GepExpr) inbounds (count_of l) ((t ++ x) ++ words_of l))

-- a conversion of a constant, behind the word (`parse_ce_conv_body`)
unfoldable pub parse_ce_conv : ℕ → Prog TypeOut → Prog (List ℕ) → Prog (List ℕ)
parse_ce_conv op type value = do
  _ ← expect_token (byte "(")
  x ← pair_with type value
  _ ← expect_keyword (bytes "to")
  t ← whole q_token type
  _ ← expect_token (byte ")")
  ret (node (kind ConvExpr) op 3 (x ++ t))

-- an operation on two constants, behind the word
unfoldable pub parse_ce_bin : ℕ → Prog TypeOut → Prog (List ℕ) → Prog (List ℕ)
parse_ce_bin op type value = do
  _ ← skip_arith_flags
  _ ← expect_token (byte "(")
  x ← pair_with type value
  _ ← expect_token (byte ",")
  y ← pair_with type value
  _ ← expect_token (byte ")")
  ret (node (kind BinExpr) op 4 (x ++ y))

unfoldable pub const_exprs : Prog TypeOut → Prog (List ℕ) → Prog (List ℕ)
const_exprs type value =
    word_if (bytes "getelementptr") (parse_ce_gep type value)
    (rank_if conv_ops (λ op. parse_ce_conv op type value)
    (rank_if bin_ops (λ op. parse_ce_bin op type value)
    (refuse q_value)))

-- "A value holds typed values, each of which holds a value": what a value of one level more holds
unfoldable pub value_with : Prog TypeOut → Prog (List ℕ) → Prog (List ℕ)
value_with type value = do
  _ ← eat_ws
  i ← place
  leaf_values
      (byte_if (byte "[") (aggregate (kind ArrayConst) (byte "]") type value)
      (byte_if (byte "{") (aggregate (kind StructConst) (byte "}") type value)
      (byte_if (byte "<") (packed_const i type value)
      (const_exprs type value))))

-- `parse_value`, where d levels are left; types and values share the count
unfoldable pub parse_value : ℕ → Prog (List ℕ)
parse_value zero = eat_ws >>= λ _. refuse q_depth
parse_value (suc d) = value_with (parse_type d) (parse_value d)

unfoldable pub parse_typed_val : ℕ → Prog (List ℕ)
parse_typed_val d = pair_with (parse_type d) (parse_value d)
