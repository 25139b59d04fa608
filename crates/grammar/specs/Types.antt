-- Types (parser.rs "Types"), as programs that give their words. 01: "Types and values".
-- Assumes nothing.
use Rattle.std.specs.Prelude.{true, false, List, [], ◌∷◌, ◌++◌, ℕ, zero, suc, ◌+◌, ltb}
use Rattle.program.specs.Bytes.{bytes, byte}
use Rattle.program.specs.Choice.{pick}
use Rattle.program.specs.Prog.{Prog, ret, fail, ◌>>=◌}
use Rattle.records.specs.Words.{header, node}
use Rattle.records.specs.Kinds.{kind, Void, Int, Float, Double, Ptr, Array, Named, Struct, Label, Metadata}
use Rattle.records.specs.Limits.{turns, width_limit, number_limit, child_limit, list_turns}
use Rattle.records.specs.Questions.{q_token, q_type, q_depth, q_children}
use Rattle.records.specs.Details.{d_none, d_packed, d_dots}
use Rattle.grammar.specs.Lexer.{refuse, place, eat_ws, byte_if, word_if, token_if, expect_token, expect_keyword, dots_if, name_word, skip_parens}
use Rattle.grammar.specs.Numbers.{parse_int}
use Rattle.grammar.specs.Attributes.{skip_attrs}

-- It is asked behind each child of a list, which has n before it in its node.
unfoldable pub room : {A : Type 0} → ℕ → A → Prog A
room n a = elim (ltb n child_limit) [ true ↦ ret a | false ↦ refuse q_children ]

unfoldable pub child : {A : Type 0} → ℕ → Prog A → Prog A
child n p = p >>= room n

-- a list: how many, 1 where `...` ends it, and the words
pub data Listed : Type 0 where
  listed : ℕ → ℕ → List ℕ → Listed

abbrev pub count_of : Listed → ℕ
count_of (listed n v ws) = n

abbrev pub dots_of : Listed → ℕ
dots_of (listed n v ws) = v

abbrev pub words_of : Listed → List ℕ
words_of (listed n v ws) = ws

-- A type; or a type, a list in parentheses with no `*` behind, and the place of its `(`. "Without, the cursor returns to the `(`": nothing but a
-- call takes a `(` there, so all others refuse at that place, and the program has no need to go back.
pub data TypeOut : Type 0 where
  plain : List ℕ → TypeOut
  opened : List ℕ → Listed → ℕ → TypeOut

unfoldable pub whole_of : ℕ → TypeOut → Prog (List ℕ)
whole_of q (plain t) = ret t
whole_of q (opened t l j) = fail q j

-- a type behind which a `(` is refused with q
unfoldable pub whole : ℕ → Prog TypeOut → Prog (List ℕ)
whole q f = f >>= whole_of q

-- what refuses a `(` behind a type, the next child after n: the one too many is refused with 19 there too
unfoldable pub behind : ℕ → ℕ → ℕ
behind n q = pick (ltb n child_limit) q q_children

unfoldable pub type_child : ℕ → ℕ → Prog TypeOut → Prog (List ℕ)
type_child n q f = child n (whole (behind n q) f)

-- behind an element: a comma and more, or the closing byte
unfoldable pub comma_or : {A : Type 0} → ℕ → Prog A → Prog A → Prog A
comma_or end more stop = token_if (byte ",") more (byte_if end stop (refuse q_token))

-- elements behind commas, through the closing byte: n children so far, k for each element
unfoldable pub comma_list : ℕ → ℕ → ℕ → (ℕ → Prog (List ℕ)) → ℕ → List ℕ → Prog Listed
comma_list zero k end elem n acc = refuse q_children
comma_list (suc u) k end elem n acc = do
  x ← elem n
  comma_or end (comma_list u k end elem (n + k) (acc ++ x)) (ret (listed (n + k) 0 (acc ++ x)))

-- the same through `)`, where `...` may stand in the last place: v says so. `bad` is what an element refuses with where none begins.
unfoldable pub dots_list : ℕ → ℕ → ℕ → ℕ → (ℕ → Prog (List ℕ)) → ℕ → List ℕ → Prog Listed
dots_list zero k v bad elem n acc = refuse q_children
dots_list (suc u) k v bad elem n acc = do
  _ ← eat_ws
  dots_if bad (expect_token (byte ")") >>= λ _. ret (listed n v acc)) (do
    x ← elem n
    comma_or (byte ")") (dots_list u k v bad elem (n + k) (acc ++ x)) (ret (listed (n + k) 0 (acc ++ x))))

-- `parse_struct_fields`
unfoldable pub struct_fields : Prog TypeOut → Prog Listed
struct_fields elem =
    eat_ws >>= λ _. byte_if (byte "}") (ret (listed 0 0 [])) (comma_list list_turns 1 (byte "}") (λ n. type_child n q_token elem) 0 [])

-- a type with attributes behind it, the next child after n
unfoldable pub type_item : Prog TypeOut → ℕ → Prog (List ℕ)
type_item elem n = type_child n q_token elem >>= λ t. (skip_attrs >>= λ _. ret t)

-- Types with attributes behind each, through the closing parenthesis (`parse_type_list`). The count is that of the function type's node: "a dropped
-- type list counts with its return type".
unfoldable pub parse_type_list : ℕ → Prog TypeOut → Prog Listed
parse_type_list bad elem = eat_ws >>= λ _. byte_if (byte ")") (ret (listed 1 0 [])) (dots_list list_turns 1 d_dots bad (type_item elem) 1 [])

abbrev pub ptr_words : List ℕ
ptr_words = header (kind Ptr) d_none 0 1 ∷ []

-- Question 15: "Integer width 1 to 8,388,608"
unfoldable pub int_type : Prog (List ℕ)
int_type = parse_int 1 width_limit >>= λ n. ret (node (kind Int) d_none 0 (n ∷ []))

-- a node that holds a name
unfoldable pub name_node : ℕ → Prog (List ℕ)
name_node k = name_word >>= λ n. ret (node k d_none 0 (n ∷ []))

unfoldable pub opt_addrspace : Prog (Unit {0})
opt_addrspace = word_if (bytes "addrspace") skip_parens (ret tt)

-- `ptr`, and an `addrspace(..)` directly after it, white space allowed
unfoldable pub ptr_type : Prog (List ℕ)
ptr_type = eat_ws >>= λ _. (opt_addrspace >>= λ _. ret (node (kind Ptr) d_none 0 []))

-- the types that hold no other, or g
unfoldable pub leaf_types : Prog (List ℕ) → Prog (List ℕ)
leaf_types g =
    word_if (bytes "void") (ret (node (kind Void) d_none 0 []))
    (word_if (bytes "float") (ret (node (kind Float) d_none 0 []))
    (word_if (bytes "double") (ret (node (kind Double) d_none 0 []))
    (word_if (bytes "ptr") ptr_type
    (word_if (bytes "label") (ret (node (kind Label) d_none 0 []))
    (word_if (bytes "metadata") (ret (node (kind Metadata) d_none 0 []))
    (byte_if (byte "i") int_type
    (byte_if (byte "%") (name_node (kind Named))
    g)))))))

-- `[N x T]` and `<N x T>`, behind the opening byte
unfoldable pub array_type : ℕ → ℕ → Prog TypeOut → Prog (List ℕ)
array_type packed end elem = do
  _ ← eat_ws
  n ← parse_int 0 number_limit
  _ ← expect_keyword (bytes "x")
  t ← whole q_token elem
  _ ← expect_token end
  ret (node (kind Array) packed 1 (n ∷ t))

unfoldable pub struct_type : Prog TypeOut → Prog (List ℕ)
struct_type elem = struct_fields elem >>= λ l. ret (node (kind Struct) d_none (count_of l) (words_of l))

-- `<{..}>` or `<N x T>`, behind the `<`
unfoldable pub packed_type : Prog TypeOut → Prog (List ℕ)
packed_type elem =
    byte_if (byte "{")
    (do
      l ← struct_fields elem
      _ ← expect_token (byte ">")
      ret (node (kind Struct) d_packed (count_of l) (words_of l)))
    (array_type d_packed (byte ">") elem)

-- `parse_base_type`
unfoldable pub parse_base_type : Prog TypeOut → Prog (List ℕ)
parse_base_type elem =
    leaf_types
    (byte_if (byte "[") (array_type 0 (byte "]") elem)
    (byte_if (byte "{") (struct_type elem)
    (byte_if (byte "<") (packed_type elem)
    (refuse q_type))))

-- What may stand behind a type: "A type followed by `(`: a type list is read. With `*` behind, the type is ptr." and "Behind `addrspace(..)`,
-- other than one directly after `ptr`, the `*` must stand directly, else it is left unread."
unfoldable pub suffixes : ℕ → ℕ → Prog TypeOut → List ℕ → Prog TypeOut
suffixes zero bad elem t = ret (plain t)
suffixes (suc u) bad elem t = do
  _ ← eat_ws
  j ← place
  byte_if (byte "(")
      (do
        l ← parse_type_list bad elem
        _ ← eat_ws
        byte_if (byte "*") (suffixes u bad elem ptr_words) (ret (opened t l j)))
      (do
        _ ← opt_addrspace
        byte_if (byte "*") (suffixes u bad elem ptr_words) (ret (plain t)))

unfoldable pub type_with : ℕ → Prog TypeOut → Prog TypeOut
type_with bad elem = do
  _ ← eat_ws
  t ← parse_base_type elem
  suffixes turns bad elem t

-- what a type refuses with where none begins, by the depth that is left
unfoldable pub no_type : ℕ → ℕ
no_type zero = q_depth
no_type (suc d) = q_type

-- `parse_type`, where d levels are left: question 16, "asked before 5 and 6, at the first character"
unfoldable pub parse_type : ℕ → Prog TypeOut
parse_type zero = eat_ws >>= λ _. refuse q_depth
parse_type (suc d) = type_with (no_type d) (parse_type d)
