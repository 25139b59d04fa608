-- Attributes, linkage, calling conventions and flags: what the reader drops. 01: "Keywords are compared with fixed byte strings".
-- Assumes nothing.
use Rattle.std.specs.Prelude.{List, ◌++◌, ℕ, zero, suc, eqb}
use Rattle.std.proofs.Math.Option.{Option, none, some}
use Rattle.program.specs.Bytes.{bytes, byte, table}
use Rattle.program.specs.Choice.{pick}
use Rattle.program.specs.Class.{is_digit}
use Rattle.program.specs.Prog.{Prog, ret, scan, ◌>>=◌}
use Rattle.records.specs.Limits.{turns, number_limit}
use Rattle.records.specs.Questions.{q_left_out}
use Rattle.records.specs.Details.{no_linkage}
use Rattle.grammar.specs.Lexer.{refuse, eat_ws, byte_if, byte_at_if, word_if, rank, rank_if, skip_all, skip_parens}
use Rattle.grammar.specs.Numbers.{parse_int}

-- `FLAG_ATTRS`
unfoldable pub flag_attrs : List (List ℕ)
flag_attrs =
    table "private internal available_externally linkonce linkonce_odr weak weak_odr appending common extern_weak external hidden" ++
    table "protected default dso_local dso_preemptable unnamed_addr local_unnamed_addr comdat noundef nonnull signext zeroext" ++
    table "inreg noalias nocapture readonly readnone writeonly immarg returned nest writable dead_on_unwind dead_on_return" ++
    table "nounwind nofree mustprogress willreturn norecurse nosync nocallback uwtable noreturn noinline alwaysinline inlinehint" ++
    table "optsize optnone minsize cold hot convergent speculatable nobuiltin noimplicitfloat noredzone strictfp ssp sspstrong" ++
    table "sspreq sanitize_address sanitize_memory sanitize_thread"

-- `PAREN_ATTRS`
unfoldable pub paren_attrs : List (List ℕ)
paren_attrs =
    table "captures memory range dereferenceable dereferenceable_or_null byval byref sret inalloca preallocated elementtype" ++
    table "alignstack allocsize allockind vscale_range nofpclass addrspace initializes dead_on_return"

-- `Linkage`, in ast.rs order
unfoldable pub linkages : List (List ℕ)
linkages = table "private internal available_externally linkonce weak common appending extern_weak linkonce_odr weak_odr external"

-- `CCONVS`
unfoldable pub calling_conventions : List (List ℕ)
calling_conventions = table "ccc fastcc coldcc tailcc swiftcc swifttailcc anyregcc preserve_mostcc preserve_allcc cxx_fast_tlscc"

-- the flags of `skip_arith_flags`
unfoldable pub arith_flags : List (List ℕ)
arith_flags = table "nuw nsw exact disjoint"

-- the flags of `skip_fast_math_flags`
unfoldable pub fast_math_flags : List (List ℕ)
fast_math_flags = table "fast nnan ninf nsz arcp contract afn reassoc"

-- the flags of `parse_conv`
unfoldable pub conv_flags : List (List ℕ)
conv_flags = table "nneg nuw nsw"

-- digits behind `#`, without underscores ("those behind `#` are skipped unjudged")
unfoldable pub group_step : ℕ → ℕ → Option ℕ
group_step q x = pick (is_digit x) (some 0) none

-- the one word of both lists, by its rank in `paren_attrs`
unfoldable pub dead_on_return : ℕ
dead_on_return = rank (bytes "dead_on_return") paren_attrs

-- The parentheses behind a word of `paren_attrs`, by its rank. M-101: "The parenthesised rule goes first and applies only when `(` follows, white
-- space and comments allowed; otherwise the bare rule applies."
unfoldable pub attr_parens : ℕ → Prog (Unit {0})
attr_parens r = pick (eqb r dead_on_return) (eat_ws >>= λ _. byte_at_if (byte "(") skip_parens (ret tt)) skip_parens

-- `skip_attrs`: attributes, as many as stand there. A word with parentheses goes first; a quoted attribute is 18.
unfoldable pub skip_attrs_in : ℕ → Prog (Unit {0})
skip_attrs_in zero = ret tt
skip_attrs_in (suc u) = do
  _ ← eat_ws
  byte_if (byte "#") (scan group_step 0 (λ w. skip_attrs_in u))
      (byte_at_if (byte "\"") (refuse q_left_out)
      (rank_if paren_attrs (λ r. attr_parens r >>= λ _. skip_attrs_in u)
      (word_if (bytes "align") (eat_ws >>= λ _. (parse_int 0 number_limit >>= λ _. skip_attrs_in u))
      (rank_if flag_attrs (λ r. skip_attrs_in u) (ret tt)))))

unfoldable pub skip_attrs : Prog (Unit {0})
skip_attrs = skip_attrs_in turns

-- `parse_linkage`: its rank, 10 when unwritten
unfoldable pub parse_linkage : Prog ℕ
parse_linkage = eat_ws >>= λ _. rank_if linkages ret (ret no_linkage)

-- `skip_call_cconv`
unfoldable pub skip_call_cconv : Prog (Unit {0})
skip_call_cconv =
    eat_ws >>= λ _.
    rank_if calling_conventions (λ r. ret tt)
    (word_if (bytes "cc") (eat_ws >>= λ _. (parse_int 0 number_limit >>= λ _. ret tt)) (ret tt))

unfoldable pub skip_arith_flags : Prog (Unit {0})
skip_arith_flags = skip_all turns arith_flags

unfoldable pub skip_fast_math_flags : Prog (Unit {0})
skip_fast_math_flags = skip_all turns fast_math_flags
