-- 01, "Known readings": the starred ones, two of M-100, some of M-106 and two of M-111; one table with one theorem by computation on these very definitions.
-- Assumes nothing.
use Rattle.std.specs.Prelude.{◌≡◌, refl, List, [], ◌∷◌, ◌++◌, map, ℕ, suc}
use Rattle.std.proofs.Math.Option.{Option, none, some}
use Rattle.program.specs.Bytes.{bytes}
use Rattle.program.specs.Class as Class
use Rattle.program.specs.Prog as Prog
use Rattle.records.specs.Limits as Limits
use Rattle.records.specs.Words as Words
use Rattle.records.specs.Pieces as Pieces
use Rattle.records.specs.Piece as Piece
use Rattle.grammar.specs.Lexer as Lexer
use Rattle.grammar.specs.Numbers as Numbers
use Rattle.grammar.specs.Counter as Counter
use Rattle.grammar.specs.Attributes as Attributes
use Rattle.grammar.specs.Types as Types
use Rattle.grammar.specs.Values as Values
use Rattle.grammar.specs.Instructions as Instructions
use Rattle.grammar.specs.Body as Body
use Rattle.grammar.specs.Function
use Rattle.grammar.specs.Numbered as Numbered

-- What is asked of a text: a full reading, a re-reading from an older text, a type, a value or a statement at its start; the numbers of a block's
-- instructions, by the counter at its start.
pub data Asked : Type 0 where
  function : List ℕ → Asked
  edit : List ℕ → List ℕ → Asked
  type : List ℕ → Asked
  value : List ℕ → Asked
  statement : List ℕ → Asked
  numbers : ℕ → List ℕ → Asked

abbrev pub parts : List ℕ → List ℕ
parts [] = []
parts (x ∷ []) = Words.hi x ∷ Words.lo x ∷ []
parts (x ∷ y ∷ []) = Words.hi x ∷ Words.lo x ∷ Words.hi y ∷ Words.lo y ∷ []
parts (x ∷ y ∷ c ∷ ds) = Words.hi x ∷ Words.lo x ∷ Words.hi y ∷ Words.lo y ∷ c ∷ parts ds

-- Accepted: the entry count, what is in front, the words and the directory's fields. Refused: 0, number, place.
abbrev pub shown_left : List ℕ → Pieces.Left → List ℕ
shown_left r (Pieces.left (Pieces.refused_at q p) ws ds) = 0 ∷ q ∷ p ∷ []
shown_left r (Pieces.left (Pieces.count n) ws ds) = n ∷ (r ++ (ws ++ parts ds))

-- Re-reading from the records of a full reading of the older text: `first` and `read` are in front.
abbrev pub shown_again : Pieces.Again → List ℕ
shown_again (Pieces.again_left l a b) = shown_left (a ∷ b ∷ []) l

abbrev pub again_from : List ℕ → List ℕ → Pieces.Left → List ℕ
again_from older newer (Pieces.left (Pieces.refused_at q p) ws ds) = 0 ∷ q ∷ p ∷ []
again_from older newer (Pieces.left (Pieces.count n) ws ds) = shown_again (Function.rereading_of ws ds n older newer)

abbrev pub shown_type : Prog.Res Types.TypeOut → List ℕ
shown_type (Prog.ok (Types.plain t) j) = 1 ∷ j ∷ t
shown_type (Prog.ok (Types.opened t l i) j) = 2 ∷ i ∷ t
shown_type (Prog.closed ws j) = []
shown_type (Prog.no_at q p) = 0 ∷ q ∷ p ∷ []

abbrev pub shown_value : Prog.Res (List ℕ) → List ℕ
shown_value (Prog.ok v j) = 1 ∷ j ∷ v
shown_value (Prog.closed ws j) = []
shown_value (Prog.no_at q p) = 0 ∷ q ∷ p ∷ []

abbrev pub shown_statement : Prog.Res Body.Statement → List ℕ
shown_statement (Prog.ok (Body.label c m) j) = []
shown_statement (Prog.ok (Body.instruction c ws) j) = 1 ∷ j ∷ ws
shown_statement (Prog.ok (Body.terminator c ws) j) = 2 ∷ j ∷ ws
shown_statement (Prog.closed ws j) = []
shown_statement (Prog.no_at q p) = 0 ∷ q ∷ p ∷ []

-- a number as one more than itself, 0 for none
abbrev pub shown_numbers : List (Option ℕ) → List ℕ
shown_numbers [] = []
shown_numbers (none ∷ ns) = 0 ∷ shown_numbers ns
shown_numbers (some n ∷ ns) = suc n ∷ shown_numbers ns

-- Eleven words and a directory of three entries are lent to a function.
unfoldable pub answer : Asked → List ℕ
unfolding
    Class.class_of Class.is_space Class.is_digit Class.is_hex Class.is_word Class.is_name
    Prog.byte_at Prog.lead_word Prog.scan_len Prog.run Prog.◌>>=◌ Prog.ends
    Words.pack Words.node
    Pieces.map_run Pieces.first_high Pieces.text_asked Pieces.judge Pieces.pad Pieces.all_words Pieces.entries Pieces.count_run Pieces.leave
    Pieces.and_then Pieces.cons_old Pieces.chain Pieces.olds Pieces.common Pieces.end_behind Pieces.common_end Pieces.leads Pieces.addrspace
    Pieces.closes Pieces.kept_rest Pieces.kept_front Pieces.size Pieces.source_words Pieces.is_fresh Pieces.sum_run Pieces.before Pieces.old_sizes
    Pieces.old_words Pieces.first_counter Pieces.from Pieces.from_blocks Pieces.joins Pieces.left_of Pieces.leave_again Pieces.blocks_in Pieces.blocks Pieces.reading
    Pieces.full_verdict Pieces.full Pieces.again_in Pieces.again Pieces.behind_front Pieces.keeps Pieces.rest Pieces.judge_again Pieces.reread_of
    Pieces.reread
    Piece.head_of Piece.block_of Piece.head_read Piece.block_read
    Lexer.refuse Lexer.place Lexer.space_step Lexer.eat_ws Lexer.is_byte Lexer.byte_if Lexer.byte_at_if Lexer.same_word Lexer.starts_with Lexer.eat_n
    Lexer.word_if Lexer.word_at_if Lexer.rank Lexer.rank_if Lexer.token_if Lexer.expect_token Lexer.expect_keyword Lexer.skip_keyword Lexer.skip_one
    Lexer.skip_all Lexer.three_dots Lexer.dots_if Lexer.state_of Lexer.name_step Lexer.quote_step Lexer.size_of Lexer.unescape Lexer.spelled
    Lexer.same_name Lexer.quote_end Lexer.read_word Lexer.is_empty Lexer.is_empty_word Lexer.name_of Lexer.name_word Lexer.parse_local_name
    Lexer.parse_global_name Lexer.balance_step Lexer.balanced Lexer.skip_parens Lexer.skip_metadata_ref Lexer.cstring_step Lexer.cstring_end
    Lexer.cstring_at
    Numbers.digit_step Numbers.digits Numbers.value_of Numbers.count_digits Numbers.number_of Numbers.parse_int Numbers.twos Numbers.largest
    Numbers.hex_of Numbers.hex_step Numbers.parse_hex_float Numbers.log2 Numbers.special_bits Numbers.subnormal_at Numbers.subnormal_bits
    Numbers.widen_parts Numbers.widen Numbers.parse_f0x Numbers.is_odd Numbers.rounded Numbers.nearest_at Numbers.nearest_scaled Numbers.nearest
    Numbers.zeros_of Numbers.scaled_bits Numbers.decimal_bits Numbers.read_sign Numbers.read_exponent Numbers.behind_point Numbers.read_numeric
    Numbers.is_float Numbers.is_valid Numbers.digits_of Numbers.up_of Numbers.down_of Numbers.float_of Numbers.signed Numbers.integer_of
    Numbers.decimal_of Numbers.literal_of Numbers.parse_numeral
    Counter.takes Counter.takes_next Counter.is_number Counter.named Counter.counted_name
    Attributes.flag_attrs Attributes.paren_attrs Attributes.linkages Attributes.calling_conventions Attributes.arith_flags
    Attributes.fast_math_flags Attributes.conv_flags Attributes.group_step Attributes.dead_on_return Attributes.attr_parens Attributes.skip_attrs_in
    Attributes.skip_attrs Attributes.parse_linkage Attributes.skip_call_cconv Attributes.skip_arith_flags Attributes.skip_fast_math_flags
    Types.room Types.child Types.whole_of Types.whole Types.behind Types.type_child Types.comma_or Types.comma_list Types.dots_list
    Types.struct_fields Types.type_item Types.parse_type_list Types.int_type Types.name_node Types.opt_addrspace Types.ptr_type Types.leaf_types
    Types.array_type Types.struct_type Types.packed_type Types.parse_base_type Types.suffixes Types.type_with Types.no_type Types.parse_type
    Values.conv_ops Values.bin_ops Values.prefix_if Values.literal_words Values.float_node Values.numeral Values.digit_if Values.numeric_or
    Values.cstring Values.leaf_values Values.pair_with Values.pair_child Values.pair_list Values.aggregate Values.packed_const
    Values.parse_gep_flags Values.gep_indices Values.parse_ce_gep Values.parse_ce_conv Values.parse_ce_bin Values.const_exprs Values.value_with
    Values.parse_value Values.parse_typed_val
    Instructions.label_node Instructions.parse_operand Instructions.clauses_in Instructions.parse_trailing Instructions.ending Instructions.orderings
    Instructions.skip_atomic_ordering Instructions.two_operands Instructions.binary Instructions.unary Instructions.parse_bin Instructions.parse_fbin Instructions.parse_fneg
    Instructions.no_paren Instructions.parse_conv Instructions.icmp_preds Instructions.fcmp_preds Instructions.predicate Instructions.parse_icmp
    Instructions.parse_fcmp Instructions.parse_select Instructions.load_operands Instructions.store_operands Instructions.access
    Instructions.parse_load Instructions.parse_store Instructions.pointer_then_value Instructions.parse_cmpxchg Instructions.among
    Instructions.rmw_ops Instructions.rmw_op Instructions.parse_atomicrmw Instructions.parse_extractvalue Instructions.parse_fence
    Instructions.alloca_node Instructions.parse_alloca Instructions.gep_inst_indices Instructions.parse_gep_inst
    Instructions.phi_items Instructions.parse_phi Instructions.parse_freeze Instructions.arg_item Instructions.parse_arg_list
    Instructions.func_node Instructions.call_rest Instructions.call_of Instructions.parse_call Instructions.parse_tail_call Instructions.is_void
    Instructions.numbered_call Instructions.parse_plain_call Instructions.parse_plain_tail_call Instructions.uncounted Instructions.parse_ret
    Instructions.target Instructions.parse_br Instructions.case_int Instructions.switch_cases Instructions.switch_node
    Instructions.parse_switch Instructions.parse_unreachable Instructions.fbin_ops Instructions.inst_conv_ops
    Instructions.is_word_then Instructions.tail_words Instructions.value_inst Instructions.plain_inst
    Body.parse_inst Body.as_terminator Body.as_instruction Body.opcode Body.entered Body.labelled Body.statement_of Body.parse_statement
    Body.finish_block Body.over_at Body.parse_body Body.parse_block Body.param_of Body.unnumbered Body.parse_param Body.parse_params
    Body.parse_param_list Body.head_node Body.parse_head
    Function.head_at Function.block_at Function.reading_of Function.rereading_of
    Numbered.is_numbered Numbered.instruction_number Numbered.numbers_in Numbered.call_numbers
answer (function text) = shown_left [] (Function.reading_of 11 9 text)
answer (edit older newer) = again_from older newer (Function.reading_of 11 9 older)
answer (type text) = shown_type (Prog.run (Types.parse_type Limits.depth_limit) 0 text)
answer (value text) = shown_value (Prog.run (Values.parse_value Limits.depth_limit) 0 text)
answer (statement text) = shown_statement (Prog.run (Body.parse_statement (Body.in_block 0 0 0)) 0 text)
answer (numbers c text) = shown_numbers (Numbered.call_numbers c text)

abbrev pub asked : List Asked
asked =
    function (bytes "void @f(){ret void}")
    ∷ edit (bytes "void @f(){ret void}") (bytes "void @f(){ret i32 7}")
    ∷ edit (bytes "void @f(){ret void}") (bytes "void @f(){ret void}")
    ∷ edit (bytes "void @f(){ret void}") (bytes "void @f(){}ret void}")
    ∷ function (bytes "void @f(){}")
    ∷ function []
    ∷ type (bytes "i8388608")
    ∷ type (bytes "i8388609")
    ∷ value (bytes "170141183460469231731687303715884105727")
    ∷ value (bytes "170141183460469231731687303715884105728")
    ∷ value (bytes "-170141183460469231731687303715884105728")
    ∷ value (bytes "f0x3F800000")
    ∷ value (bytes "f0x00000001")
    ∷ value (bytes "1.3")
    ∷ value (bytes "1e23")
    ∷ function (bytes "void @f(){a: b: ret void}")
    ∷ statement (bytes "%a=atomicrmw or ptr @p,i8 1")
    ∷ statement (bytes "%a=atomicrmw max ptr @p,i8 1")
    ∷ function (bytes "void @f(i8){}")
    ∷ function (bytes "void @f(i8 %0,i8 %0){}")
    ∷ function (bytes "void @f(){1:0:ret void}")
    ∷ function (bytes "void @f(){fence a:ret void}")
    ∷ function (bytes "void @f(i8 %4294967295,i8){}")
    ∷ function (bytes "void @f(){%0=freeze i8 1}")
    ∷ function (bytes "void @f(){%4294967296=freeze i8 1}")
    ∷ numbers 3 (bytes "7: x: call i8 @g() call void @g() %9 = call i8 @g() call ptr @g() ret void")
    ∷ numbers 3 (bytes "call i8 @g() ret void")
    ∷ statement (bytes "switch i8 7,label %a[i8 9,label %b]")
    ∷ statement (bytes "switch i8 7,label %a[]")
    ∷ []

-- The headers of what stands there: a head with one child, a block with one, `ret` without and with a value.
abbrev pub known : List (List ℕ)
known =
    -- 3 pieces, 6 words: head (name `f`), void; block (no label), ret; then the directory, piece by piece
    (3 ∷ 0x3C0A_0001_0000_0003 ∷ 0x0000_0006_0000_0001 ∷ 0x0100_0000_0000_0001 ∷ 0x3D00_0001_0000_0003 ∷ 0 ∷ 0x3400_0000_0000_0001 ∷ 0 ∷ 0 ∷ 0 ∷ 0 ∷ 0 ∷ 0 ∷ 10 ∷ 0 ∷ 3 ∷ 0 ∷ 10 ∷ 8 ∷ 3 ∷ 3 ∷ 0 ∷ 18 ∷ 1 ∷ 6 ∷ 0 ∷ 1 ∷ [])
    -- first 1, read 1, 11 words
    ∷ (3 ∷ 1 ∷ 1 ∷ 0x3C0A_0001_0000_0003 ∷ 0x0000_0006_0000_0001 ∷ 0x0100_0000_0000_0001 ∷ 0x3D00_0001_0000_0008 ∷ 0 ∷ 0x3401_0002_0000_0006 ∷ 0x0200_0000_0000_0002 ∷ 32 ∷ 0x1200_0000_0000_0003 ∷ 0 ∷ 7 ∷ 0 ∷ 10 ∷ 0 ∷ 3 ∷ 0 ∷ 10 ∷ 9 ∷ 3 ∷ 8 ∷ 0 ∷ 19 ∷ 1 ∷ 11 ∷ 0 ∷ 1 ∷ [])
    -- first 2, read 1
    ∷ (3 ∷ 2 ∷ 1 ∷ 0x3C0A_0001_0000_0003 ∷ 0x0000_0006_0000_0001 ∷ 0x0100_0000_0000_0001 ∷ 0x3D00_0001_0000_0003 ∷ 0 ∷ 0x3400_0000_0000_0001 ∷ 0 ∷ 0 ∷ 0 ∷ 0 ∷ 0 ∷ 0 ∷ 10 ∷ 0 ∷ 3 ∷ 0 ∷ 10 ∷ 8 ∷ 3 ∷ 3 ∷ 0 ∷ 18 ∷ 1 ∷ 6 ∷ 0 ∷ 1 ∷ [])
    -- first 0, read 2
    ∷ (2 ∷ 0 ∷ 2 ∷ 0x3C0A_0001_0000_0003 ∷ 0x0000_0006_0000_0001 ∷ 0x0100_0000_0000_0001 ∷ 0 ∷ 0 ∷ 0 ∷ 0 ∷ 0 ∷ 0 ∷ 0 ∷ 0 ∷ 0 ∷ 10 ∷ 0 ∷ 3 ∷ 0 ∷ 10 ∷ 1 ∷ 3 ∷ 0 ∷ 0 ∷ 0 ∷ 0 ∷ 0 ∷ 0 ∷ 0 ∷ [])
    -- 2 pieces
    ∷ (2 ∷ 0x3C0A_0001_0000_0003 ∷ 0x0000_0006_0000_0001 ∷ 0x0100_0000_0000_0001 ∷ 0 ∷ 0 ∷ 0 ∷ 0 ∷ 0 ∷ 0 ∷ 0 ∷ 0 ∷ 0 ∷ 10 ∷ 0 ∷ 3 ∷ 0 ∷ 10 ∷ 1 ∷ 3 ∷ 0 ∷ 0 ∷ 0 ∷ 0 ∷ 0 ∷ 0 ∷ 0 ∷ [])
    -- 5 at 0
    ∷ (0 ∷ 5 ∷ 0 ∷ [])
    ∷ (1 ∷ 8 ∷ 0x0200_0000_0000_0002 ∷ 8388608 ∷ [])
    ∷ (0 ∷ 15 ∷ 1 ∷ [])
    ∷ (1 ∷ 39 ∷ 0x1200_0000_0000_0003 ∷ 0x7FFF_FFFF_FFFF_FFFF ∷ 0xFFFF_FFFF_FFFF_FFFF ∷ [])
    ∷ (0 ∷ 7 ∷ 39 ∷ [])
    ∷ (1 ∷ 40 ∷ 0x1200_0000_0000_0003 ∷ 0x8000_0000_0000_0000 ∷ 0 ∷ [])
    ∷ (1 ∷ 11 ∷ 0x1300_0000_0000_0002 ∷ 0x3FF0_0000_0000_0000 ∷ [])
    ∷ (1 ∷ 11 ∷ 0x1300_0000_0000_0002 ∷ 0x36A0_0000_0000_0000 ∷ [])
    ∷ (1 ∷ 3 ∷ 0x1300_0000_0000_0002 ∷ 0x3FF4_CCCC_CCCC_CCCD ∷ [])
    ∷ (0 ∷ 17 ∷ 4 ∷ [])
    -- one block, whose label is the byte at 3 of its piece: `b`
    ∷ (3 ∷ 0x3C0A_0001_0000_0003 ∷ 0x0000_0006_0000_0001 ∷ 0x0100_0000_0000_0001 ∷ 0x3D00_0001_0000_0003 ∷ 0x0000_0003_0000_0001 ∷ 0x3400_0000_0000_0001 ∷ 0 ∷ 0 ∷ 0 ∷ 0 ∷ 0 ∷ 0 ∷ 10 ∷ 0 ∷ 3 ∷ 0 ∷ 10 ∷ 14 ∷ 3 ∷ 3 ∷ 0 ∷ 24 ∷ 1 ∷ 6 ∷ 0 ∷ 0 ∷ [])
    -- kind 48, rank 4, 3 children, 9 words; `a`; i8; the pointer, `p` at 21; 1
    ∷ (1 ∷ 27 ∷ 0x3004_0003_0000_0009 ∷ 0x0000_0001_0000_0001 ∷ 0x0200_0000_0000_0002 ∷ 8 ∷ 0x1100_0000_0000_0002 ∷ 0x0000_0015_0000_0001 ∷ 0x1200_0000_0000_0003 ∷ 0 ∷ 1 ∷ [])
    -- 9 behind `max`
    ∷ (0 ∷ 9 ∷ 16 ∷ [])
    -- a head with a parameter, which is 0; so the tail's third word is 1
    ∷ (2 ∷ 0x3C0A_0002_0000_0007 ∷ 0x0000_0006_0000_0001 ∷ 0x0100_0000_0000_0001 ∷ 0x3E00_0001_0000_0004 ∷ 0 ∷ 0x0200_0000_0000_0002 ∷ 8 ∷ 0 ∷ 0 ∷ 0 ∷ 0 ∷ 0 ∷ 12 ∷ 0 ∷ 7 ∷ 0 ∷ 12 ∷ 1 ∷ 7 ∷ 0 ∷ 1 ∷ 0 ∷ 0 ∷ 0 ∷ 0 ∷ 0 ∷ [])
    -- 26 behind the second `%0`
    ∷ (0 ∷ 26 ∷ 19 ∷ [])
    -- 26 behind the name of the second label, at its `:`
    ∷ (0 ∷ 26 ∷ 13 ∷ [])
    -- a label behind an instruction
    ∷ (0 ∷ 26 ∷ 17 ∷ [])
    -- an automatic 2^32, behind the parameter
    ∷ (0 ∷ 26 ∷ 25 ∷ [])
    -- the block is 0
    ∷ (0 ∷ 26 ∷ 12 ∷ [])
    -- not below 2^32
    ∷ (0 ∷ 26 ∷ 21 ∷ [])
    -- 8 for the first call, none, none, 10
    ∷ (9 ∷ 0 ∷ 0 ∷ 11 ∷ [])
    -- the block is 3, the call 4
    ∷ (5 ∷ [])
    -- kind 54, 4 children, 13 words; one case, 9; i8; 7; `a` at 19; `b` at 33
    ∷ (2 ∷ 35 ∷ 0x3600_0004_0000_000D ∷ 1 ∷ 0 ∷ 9 ∷ 0x0200_0000_0000_0002 ∷ 8 ∷ 0x1200_0000_0000_0003 ∷ 0 ∷ 7 ∷ 0x3F00_0000_0000_0002 ∷ 0x0000_0013_0000_0001 ∷ 0x3F00_0000_0000_0002 ∷ 0x0000_0021_0000_0001 ∷ [])
    -- 3 children, 9 words; no case
    ∷ (2 ∷ 22 ∷ 0x3600_0003_0000_0009 ∷ 0 ∷ 0x0200_0000_0000_0002 ∷ 8 ∷ 0x1200_0000_0000_0003 ∷ 0 ∷ 7 ∷ 0x3F00_0000_0000_0002 ∷ 0x0000_0013_0000_0001 ∷ [])
    ∷ []

pub known_readings : map answer asked ≡ known
unfolding answer
known_readings = refl
