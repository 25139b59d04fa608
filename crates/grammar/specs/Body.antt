-- The head, the blocks and the tail, as programs (parser.rs `parse_define`, `parse_param_list`, `parse_body`). 01: "Pieces and directory".
-- Assumes nothing.
use Rattle.std.specs.Prelude.{true, false, ◌&&◌, List, [], ◌∷◌, ◌++◌, ℕ, zero, suc, ◌+◌, ◌*◌, ltb, eqb}
use Rattle.program.specs.Bytes.{bytes, byte}
use Rattle.program.specs.Choice.{pick}
use Rattle.program.specs.Prog.{Prog, ret, fail, last, ◌>>=◌}
use Rattle.records.specs.Words.{pack, node}
use Rattle.records.specs.Kinds.{kind, Head, Block, Param}
use Rattle.records.specs.Limits.{turns, depth_limit, child_limit, list_turns, counter_limit}
use Rattle.records.specs.Questions.{q_token, q_type, q_statement, q_opcode, q_children, q_counter}
use Rattle.records.specs.Details.{d_none, d_varargs, d_dots, d_named}
use Rattle.grammar.specs.Lexer.{refuse, place, eat_ws, byte_if, expect_token, dots_if, Word, is_empty_word, size_of, spelled, read_word, parse_global_name}
use Rattle.grammar.specs.Counter.{Counted, counted, counter_of, item_of, takes_next, named, counted_name}
use Rattle.grammar.specs.Attributes.{parse_linkage, skip_attrs, skip_call_cconv}
use Rattle.grammar.specs.Types.{Listed, listed, count_of, dots_of, words_of, child, whole, behind, comma_or, parse_type}
use Rattle.grammar.specs.Instructions.{is_word_then, plain_inst, value_inst, parse_ret, parse_br, parse_switch, parse_unreachable}

-- Statements.

-- what a statement gives: the counter behind it, and a label, an instruction's words, a terminator's words
pub data Statement : Type 0 where
  label : ℕ → ℕ → Statement
  instruction : ℕ → List ℕ → Statement
  terminator : ℕ → List ℕ → Statement

-- `%x = ..`, behind the `%`
unfoldable pub parse_inst : ℕ → Prog Statement
parse_inst c = do
  dest ← counted_name c
  _ ← expect_token (byte "=")
  _ ← eat_ws
  w ← read_word
  x ← value_inst (item_of dest) (spelled w)
  ret (instruction (counter_of dest) x)

unfoldable pub as_terminator : ℕ → Prog (List ℕ) → Prog Statement
as_terminator c p = p >>= λ ws. ret (terminator c ws)

unfoldable pub as_instruction : Prog (Counted (List ℕ)) → Prog Statement
as_instruction p = p >>= λ x. ret (instruction (counter_of x) (item_of x))

-- a statement that begins with a word, behind it (8 and 9)
unfoldable pub opcode : ℕ → List ℕ → Prog Statement
opcode c w =
    is_word_then w (bytes "ret") (as_terminator c parse_ret)
    (is_word_then w (bytes "br") (as_terminator c parse_br)
    (is_word_then w (bytes "switch") (as_terminator c parse_switch)
    (is_word_then w (bytes "unreachable") (as_terminator c parse_unreachable)
    (as_instruction (plain_inst c w (refuse q_opcode))))))

-- Where a block is: the counter, its last label (zero means none), how many instructions.
pub data Where : Type 0 where
  in_block : (c l n : ℕ) → Where

-- M-106: "A block takes its number before its instructions, unless a label was read before its first instruction"; i is the first statement's place
unfoldable pub entered : ℕ → Where → Prog ℕ
entered i (in_block c l n) = elim (eqb l 0 && eqb n 0) [ true ↦ takes_next i c | false ↦ ret c ]

-- the label w, judged "behind the name", at i: 26 is "label behind an instruction" too
unfoldable pub labelled : ℕ → Where → Word → Prog ℕ
labelled i (in_block c l n) w = elim (eqb n 0) [ true ↦ named i c w | false ↦ fail q_counter i ]

-- a word that began at i: a label, or an opcode
unfoldable pub statement_of : ℕ → Where → Word → Prog Statement
statement_of i b w =
    elim (is_empty_word w) [
      | true ↦ refuse q_statement
      | false ↦ do
        j ← place
        byte_if (byte ":") (labelled j b w >>= λ c. ret (label c (pack i (size_of w)))) (entered i b >>= λ c. opcode c (spelled w))
    ]

unfoldable pub parse_statement : Where → Prog Statement
parse_statement b = do
  i ← place
  byte_if (byte "%") (entered i b >>= λ c. parse_inst c) (read_word >>= λ w. statement_of i b w)

-- A block's node, or 19. `n` instructions; `over` is the place behind the 65,536th. A piece is known to be a block only at its terminator, and
-- "the tail has no node", so 19 is asked here: behind the 65,536th child, be it that instruction or the terminator.
-- What it gives is the counter behind it, then its words.
unfoldable pub finish_block : (c l n over : ℕ) → List ℕ → List ℕ → Prog (List ℕ)
finish_block c l n over acc term =
    elim (ltb n child_limit) [
      | true ↦ ret (c ∷ node (kind Block) d_none (n + 1) (l ∷ (acc ++ term)))
      | false ↦ elim (ltb child_limit n) [ true ↦ fail q_children over | false ↦ refuse q_children ]
    ]

-- the place behind the 65,536th instruction, once it is read
unfoldable pub over_at : ℕ → ℕ → ℕ → ℕ
over_at n over j = pick (eqb n child_limit) j over

-- `parse_body`, for one piece: the counter, the last label ("the last of several labels"; zero means none), how many instructions, `over`, their
-- words. A tail ends at `}` and has no words: "its instructions are read and dropped", and numbered "as a block does" (M-106).
unfoldable pub parse_body : (u c l n over : ℕ) → List ℕ → Prog (List ℕ)
parse_body zero c l n over acc = refuse q_statement
parse_body (suc u) c l n over acc = do
  _ ← eat_ws
  last (byte "}") [] (do
    s ← parse_statement (in_block c l n)
    j ← place
    elim s [
      | label d m ↦ parse_body u d m n over acc
      | instruction d ws ↦ parse_body u d l (n + 1) (over_at n over j) (acc ++ ws)
      | terminator d ws ↦ finish_block d l n over acc ws
    ])

-- a block or the tail; c is the counter where it begins
unfoldable pub parse_block : ℕ → Prog (List ℕ)
parse_block c = parse_body turns c 0 0 0 []

-- The head.

-- a parameter: "A named parameter has detail 1", "zero when absent, as is an unnamed parameter's name"; M-106: an unnamed one takes the next number
unfoldable pub param_of : ℕ → List ℕ → Prog (Counted (List ℕ))
param_of c t = do
  _ ← eat_ws
  byte_if (byte "%") (counted_name c >>= λ x. ret (counted (counter_of x) (node (kind Param) d_named 1 (item_of x ∷ t))))
      (do
        j ← place
        d ← takes_next j c
        ret (counted d (node (kind Param) d_none 1 (0 ∷ t))))

-- what refuses a `(` behind a parameter's type, where the parameter has no name: 26 if no number is left for it, else q
unfoldable pub unnumbered : ℕ → ℕ → ℕ
unnumbered c q = pick (ltb c counter_limit) q q_counter

unfoldable pub parse_param : (q c : ℕ) → Prog (Counted (List ℕ))
parse_param q c = do
  t ← whole (unnumbered c q) (parse_type depth_limit)
  _ ← skip_attrs
  param_of c t

-- parameters behind commas, through the `)`, as `dots_list` has it, by the counter: n children so far
unfoldable pub parse_params : (u c n : ℕ) → List ℕ → Prog (Counted Listed)
parse_params zero c n acc = refuse q_children
parse_params (suc u) c n acc = do
  _ ← eat_ws
  dots_if q_type (expect_token (byte ")") >>= λ _. ret (counted c (listed n d_dots acc))) (do
    x ← child n (parse_param (behind n q_token) c)
    comma_or (byte ")") (parse_params u (counter_of x) (n + 1) (acc ++ item_of x)) (ret (counted (counter_of x) (listed (n + 1) 0 (acc ++ item_of x)))))

-- `parse_param_list`, behind the `(`; the return type is a child before them. "A counter starts at 0."
unfoldable pub parse_param_list : Prog (Counted Listed)
parse_param_list = eat_ws >>= λ _. byte_if (byte ")") (ret (counted 0 (listed 1 0 []))) (parse_params list_turns 0 1 [])

-- "The head has the `Linkage` rank (10 when unwritten) plus 128 for varargs."
unfoldable pub head_node : ℕ → ℕ → List ℕ → Listed → List ℕ
head_node linkage name t l = node (kind Head) (linkage + d_varargs * dots_of l) (count_of l) (name ∷ (t ++ words_of l))

-- `parse_define`, through the `{`: the counter behind it, then its words
unfoldable pub parse_head : Prog (List ℕ)
parse_head = do
  linkage ← parse_linkage
  _ ← skip_attrs
  _ ← skip_call_cconv
  _ ← skip_attrs
  t ← whole q_token (parse_type depth_limit)
  name ← parse_global_name
  _ ← expect_token (byte "(")
  l ← parse_param_list
  _ ← skip_attrs
  _ ← eat_ws
  last (byte "{") (counter_of l ∷ head_node linkage name t (item_of l)) (refuse q_token)
