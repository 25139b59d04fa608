-- Head and block refuse inside the text, and hand a counter on that is not below the one at their start, and at most 2^32 where that one is. Their
-- words are those of a head, and of a block.
-- Assumes nothing.
use Rattle.std.specs.Prelude.{Bool, true, false, ◌&&◌, ◌||◌, ◌≡◌, refl, List, [], ◌∷◌, ◌++◌, ℕ, zero, suc, ◌+◌, ◌*◌, ◌^◌, ◌≤◌, ◌<◌, T, ltb, leb, eqb}
use Rattle.std.proofs.Common.{inl, inr, arith, le→leb, length-append, ltb-true}
use Rattle.program.specs.Choice.{pick}
use Rattle.program.specs.Prog.{Prog, ◌>>=◌}
use Rattle.records.specs.Words.{node}
use Rattle.records.specs.Kinds.{kind, Head, Block, Param}
use Rattle.records.specs.Limits.{turns, child_limit, list_turns, counter_limit}
use Rattle.records.specs.Details.{no_linkage, d_varargs}
use Rattle.records.specs.Piece.{counter_in, words_in}
use Rattle.grammar.specs.Lexer.{place, is_byte, byte_if, Word, is_empty_word, size_of, spelled}
use Rattle.grammar.specs.Counter.{Counted, counter_of, item_of}
use Rattle.grammar.specs.Types.{Listed, dots_of, behind}
use Rattle.grammar.specs.Body.{Statement, label, instruction, terminator, parse_inst, as_terminator, as_instruction, opcode, Where, in_block, entered, labelled, statement_of, parse_statement, finish_block, over_at, parse_body, parse_block, param_of, unnumbered, parse_param, parse_params, parse_param_list, head_node, parse_head}
use Rattle.trees.specs.Forms.{NameIn, name_in, type, instruction as instr, terminator as term', head, block, parameter, sort_of, optional, Is, repeat, linked, form_of, Laid}
use Rattle.theorem_refusals.specs.Inside.{Scope, asked, Inside, gives, ends, anywhere, asks_at, eats_at, looks_at, then_at, then, then_with, fails, either, either_with}
use Rattle.theorem_refusals.specs.Trees.{joined, over, Grouped, grouped, no_group, one_more, Lists}
use Rattle.theorem_refusals.specs.Lexer.{end_no_byte, word_at_lem, some_bytes, in_refuse, in_place, in_eat_ws, in_byte_if, in_expect_token, in_dots_if, in_read_word, in_parse_global_name}
use Rattle.theorem_refusals.specs.Counter.{From, stays, goes_on, Counts, in_takes_next, in_named, in_counted_name}
use Rattle.theorem_refusals.specs.Attributes.{in_parse_linkage, in_skip_attrs, in_skip_call_cconv}
use Rattle.theorem_refusals.specs.Types.{in_child, asked_behind, in_comma_or}
use Rattle.theorem_refusals.specs.Instructions.{Instruction, Terminator, Counting, in_type, in_is_word_then, in_plain_inst, in_value_inst, in_parse_ret, in_parse_br, in_parse_switch, in_parse_unreachable}

-- the counter behind a statement, and its words
abbrev Reaches : (n c : ℕ) → Statement → Type 0
Reaches n c (label d m) = From c d × NameIn n m
Reaches n c (instruction d ws) = From c d × Instruction n ws
Reaches n c (terminator d ws) = From c d × Terminator n ws

-- the counter where a statement begins
abbrev counter_at : Where → ℕ
counter_at (in_block c l k) = c

in_parse_inst : {n : Scope} (b c : ℕ) → From b c → Inside n (Reaches n.limit b) (parse_inst c)
unfolding parse_inst
in_parse_inst b c h =
    then_with (in_counted_name c) λ dest k.
    then (in_expect_token _) λ _. then in_eat_ws λ _. then in_read_word λ w. then_with (in_value_inst (item_of dest) k.1 (spelled w)) λ ws i.
    gives (goes_on h k.0, i)

in_as_terminator : {n : Scope} {b c : ℕ} {f : Prog (List ℕ)} → From b c → Inside n (Terminator n.limit) f → Inside n (Reaches n.limit b) (as_terminator c f)
unfolding as_terminator
in_as_terminator h k = then_with k λ ws t. gives (h, t)

in_as_instruction : {n : Scope} {b c : ℕ} {f : Prog (Counted (List ℕ))} → From b c → Inside n (Counting n.limit c) f → Inside n (Reaches n.limit b) (as_instruction f)
unfolding as_instruction
in_as_instruction h k = then_with k λ x l. gives (goes_on h l.0, l.1)

in_opcode : {n : Scope} (b c : ℕ) (w : List ℕ) → From b c → Inside n (Reaches n.limit b) (opcode c w)
unfolding opcode
in_opcode b c w h =
    in_is_word_then w _ (in_as_terminator h in_parse_ret)
    (in_is_word_then w _ (in_as_terminator h in_parse_br)
    (in_is_word_then w _ (in_as_terminator h in_parse_switch)
    (in_is_word_then w _ (in_as_terminator h in_parse_unreachable)
    (in_as_instruction h (in_plain_inst c w (in_refuse 9 tt))))))

in_entered : {n : Scope} (i : ℕ) (b : Where) → i ≤ n.size → Inside n (From (counter_at b)) (entered i b)
unfolding entered
in_entered i (in_block c l k) h = either (eqb l 0 && eqb k 0) (in_takes_next i c h) (gives (stays c))

in_labelled : {n : Scope} (i : ℕ) (b : Where) (w : Word) → i ≤ n.size → Inside n (From (counter_at b)) (labelled i b w)
unfolding labelled
in_labelled i (in_block c l k) w h = either (eqb k 0) (in_named i c w h) (fails 26 i tt h)

in_statement_of : {n : Scope} (i : ℕ) (b : Where) (w : Word) → i ≤ n.size → i + size_of w ≤ n.limit → Inside n (Reaches n.limit (counter_at b)) (statement_of i b w)
unfolding statement_of
in_statement_of i b w h s =
    either_with (is_empty_word w) (λ _. in_refuse 8 tt)
    (λ e. then_with in_place λ j l.
    in_byte_if _ (then_with (in_labelled j b w l) λ c k. gives (k, name_in i (size_of w) refl (some_bytes w e) s))
    (then_with (in_entered i b h) λ c k. in_opcode (counter_at b) c (spelled w) k))

in_parse_statement : {n : Scope} (b : Where) → Inside n (Reaches n.limit (counter_at b)) (parse_statement b)
unfolding parse_statement place ◌>>=◌ byte_if
in_parse_statement b =
    asks_at λ i h.
    looks_at (is_byte 37) (end_no_byte 37) (eats_at (anywhere (then_with (in_entered i b h) λ c k. in_parse_inst (counter_at b) c k)))
    (then_at (word_at_lem i) λ w l. in_statement_of i b w h l)

-- what a block's program gives: the counter, and the words of a block, in n bytes
abbrev pub Hands : (n c : ℕ) → List ℕ → Type 0
Hands n c l = From c (counter_in l) × Laid n (block ∷ []) (words_in l)

-- instructions, so many
abbrev Instructions : ℕ → ℕ → List ℕ → Type 0
Instructions n = Grouped n 0 (instr ∷ [])

block_node : {n : ℕ} (l k : ℕ) (acc term : List ℕ) → Is n optional l → Instructions n k acc → Terminator n term → k < child_limit → Laid n (block ∷ []) (node (kind Block) 0 (k + 1) (l ∷ (acc ++ term)))
unfolding sort_of form_of
block_node l k acc term o (grouped m e h) t b =
    over Block tt 0 m (l ∷ []) tt (o, tt) (omega arith) refl (omega (arith, length-append (repeat m (instr ∷ [])) (term' ∷ []))) (omega arith) (joined h t)

in_finish_block : {n : Scope} (b c l k over : ℕ) (acc term : List ℕ) → From b c → over ≤ n.size → Is n.limit optional l → Instructions n.limit k acc → Terminator n.limit term
    → Inside n (Hands n.limit b) (finish_block c l k over acc term)
unfolding finish_block
in_finish_block b c l k over acc term h o q i t =
    either_with (ltb k child_limit) (λ e. gives (h, block_node l k acc term q i t (ltb-true k child_limit e)))
    (λ _. either (ltb child_limit k) (fails 19 over tt o) (in_refuse 19 tt))

pick_low : (n : ℕ) (t : Bool) (a b : ℕ) → a ≤ n → b ≤ n → pick t a b ≤ n
pick_low n true a b h k = h
pick_low n false a b h k = k

over_low : (n k over j : ℕ) → over ≤ n → j ≤ n → over_at k over j ≤ n
unfolding over_at
over_low n k over j o l = pick_low n (eqb k child_limit) j over l o

-- A tail ends at its `}` with nothing; so nothing is asked of what it gives.
abbrev pub block_scope : (size limit : ℕ) → Scope
block_scope n e = record { size = n; limit = e; Closes = λ l. Unit {0} }

-- `over` is in the text, so the refusal there is; b is the counter at the piece's start
in_parse_body : {n m : ℕ} (b u c l k over : ℕ) (acc : List ℕ) → From b c → over ≤ n → Is m optional l → Instructions m k acc → Inside (block_scope n m) (Hands m b) (parse_body u c l k over acc)
unfolding parse_body
in_parse_body b zero c l k over acc h o q i = in_refuse 8 tt
in_parse_body {n} {m} b (suc u) c l k over acc h o q i =
    then in_eat_ws λ _. ends tt (then_with (in_parse_statement (in_block c l k)) λ s r. then_with in_place λ j m. behind s r j m (in_parse_body b u))
  where
    behind : (s : Statement) → Reaches m c s → (j : ℕ) → j ≤ n
        → ((c l k over : ℕ) (acc : List ℕ) → From b c → over ≤ n → Is m optional l → Instructions m k acc → Inside (block_scope n m) (Hands m b) (parse_body u c l k over acc))
        → Inside {A = List ℕ} (block_scope n m) (Hands m b) (elim s [
          | label d m ↦ parse_body u d m k over acc
          | instruction d ws ↦ parse_body u d l (k + 1) (over_at k over j) (acc ++ ws)
          | terminator d ws ↦ finish_block d l k over acc ws
        ])
    behind (label d x) r j p body = body d x k over acc (goes_on h r.0) o (inr r.1) i
    behind (instruction d ws) r j p body = body d l (k + 1) (over_at k over j) (acc ++ ws) (goes_on h r.0) (over_low n k over j o p) q (one_more i r.1)
    behind (terminator d ws) r j p body = in_finish_block b d l k over acc ws (goes_on h r.0) o q i r.1

pub in_parse_block : {n m : ℕ} (c : ℕ) → Inside (block_scope n m) (Hands m c) (parse_block c)
unfolding parse_block
in_parse_block c = in_parse_body c turns c 0 0 0 [] (stays c) (omega arith) (inl refl) no_group

-- The head.

-- a parameter, and the counter behind it
abbrev Parameter : (n c : ℕ) → Counted (List ℕ) → Type 0
Parameter n c x = Counts c x × Laid n (parameter ∷ []) (item_of x)

in_param_of : {n : Scope} (c : ℕ) (t : List ℕ) → Laid n.limit (type ∷ []) t → Inside n (Parameter n.limit c) (param_of c t)
unfolding param_of sort_of form_of
in_param_of c t i =
    then in_eat_ws λ _.
    in_byte_if _ (then_with (in_counted_name c) λ x h. gives (h.0, over Param tt 1 0 (item_of x ∷ []) tt (h.1, tt) (omega arith) refl refl (omega arith) i))
    (then_with in_place λ j l. then_with (in_takes_next j c l) λ d h.
    gives (h, over Param tt 0 0 (0 ∷ []) tt ((omega arith, omega arith), tt) (omega arith) refl refl (omega arith) i))

asked_unnumbered : (c q : ℕ) → T (asked q) → T (asked (unnumbered c q))
unfolding unnumbered
asked_unnumbered c q s = go (ltb c counter_limit)
  where
    go : (b : Bool) → T (asked (pick b q 26))
    go true = s
    go false = tt

in_parse_param : {n : Scope} (q c : ℕ) → T (asked q) → Inside n (Parameter n.limit c) (parse_param q c)
unfolding parse_param
in_parse_param q c s = then_with (in_type (unnumbered c q) (asked_unnumbered c q s)) λ t h. then in_skip_attrs λ _. in_param_of c t h

-- parameters in a list, behind the return type
abbrev Parameters : (n c : ℕ) → Counted Listed → Type 0
Parameters n c x = Counts c x × Lists n 1 (parameter ∷ []) (item_of x)

in_parse_params : {n : Scope} (b u c k : ℕ) (acc : List ℕ) → From b c → k ≤ child_limit → Grouped n.limit 1 (parameter ∷ []) k acc → Inside n (Parameters n.limit b) (parse_params u c k acc)
unfolding parse_params
in_parse_params {n} b zero c k acc h l g = in_refuse 19 tt
in_parse_params {n} b (suc u) c k acc h l g =
    then in_eat_ws λ _.
    in_dots_if 5 tt (then (in_expect_token _) λ _. gives (h, (g, (l, omega arith))))
    (then_with (in_child k (in_parse_param (behind k 3) c (asked_behind k 3 tt))) λ x p.
    let more : Grouped n.limit 1 (parameter ∷ []) (k + 1) (acc ++ item_of x) = one_more g p.0.1 in
    let low : k + 1 ≤ child_limit = omega (arith, p.1) in
    in_comma_or _ (in_parse_params b u (counter_of x) (k + 1) (acc ++ item_of x) (goes_on h p.0.0) low more)
    (gives (goes_on h p.0.0, (more, (low, omega arith)))))

in_parse_param_list : {n : Scope} → Inside n (Parameters n.limit 0) parse_param_list
unfolding parse_param_list
in_parse_param_list =
    then in_eat_ws λ _.
    in_byte_if _ (gives (stays 0, (no_group, (omega arith, omega arith)))) (in_parse_params 0 list_turns 0 1 [] (stays 0) (omega arith) no_group)

-- A head ends at its `{`, with a counter that question 22 lets through and with the words of a head.
abbrev pub head_scope : (size limit : ℕ) → Scope
head_scope n e = record { size = n; limit = e; Closes = λ l. (counter_in l ≤ counter_limit) × Laid e (head ∷ []) (words_in l) }

or_left : (a b : Bool) → T a → T (a || b)
or_left true b t = tt
or_left false b t = absurd t

or_right : (a b : Bool) → T b → T (a || b)
or_right true b t = tt
or_right false b t = t

both : (a b : Bool) → T a → T b → T (a && b)
both true b s t = t
both false b s t = s

-- the linkage's rank, and 128 more for `...`, is a head's detail
linked_detail : (linkage v : ℕ) → linkage ≤ no_linkage → v ≤ 1 → T (linked (linkage + d_varargs * v)) × (linkage + d_varargs * v < 2 ^ 8)
linked_detail linkage zero h k =
    let e : linkage + d_varargs * 0 ≡ linkage = omega arith in
    rw e (or_left (leb linkage no_linkage) _ (le→leb linkage no_linkage h), omega arith)
linked_detail linkage (suc zero) h k =
    let d : ℕ = linkage + d_varargs * 1 in
    (or_right (leb d no_linkage) _ (both (leb d_varargs d) _ (le→leb d_varargs d (omega arith)) (le→leb d (d_varargs + no_linkage) (omega arith))), omega arith)
linked_detail linkage (suc (suc v)) h k = absurd (omega arith)

head_laid : {n : ℕ} (linkage x : ℕ) → linkage ≤ no_linkage → NameIn n x → (t : List ℕ) → Laid n (type ∷ []) t → (l : Listed) → Lists n 1 (parameter ∷ []) l → Laid n (head ∷ []) (head_node linkage x t l)
unfolding head_node sort_of form_of
head_laid linkage x b p t h l (grouped m e i, r) =
    let d : T (linked (linkage + d_varargs * dots_of l)) × (linkage + d_varargs * dots_of l < 2 ^ 8) = linked_detail linkage (dots_of l) b r.1 in
    over Head tt (linkage + d_varargs * dots_of l) m (x ∷ []) d.0 (p, tt) d.1 refl (omega arith) r.0 (joined h i)

-- a head that is read has ended at its `{`, so none is given, and this holds for any P
pub in_parse_head : {P : List ℕ → Type 0} {n m : ℕ} → Inside (head_scope n m) P parse_head
unfolding parse_head
in_parse_head =
    then_with in_parse_linkage λ linkage b. then in_skip_attrs λ _. then in_skip_call_cconv λ _. then in_skip_attrs λ _. then_with (in_type 3 tt) λ t h.
    then_with in_parse_global_name λ x p. then (in_expect_token _) λ _. then_with in_parse_param_list λ l g. then in_skip_attrs λ _. then in_eat_ws λ _.
    ends (g.0.1 (omega arith), head_laid linkage x b p t h (item_of l) g.1) (in_refuse 3 tt)
