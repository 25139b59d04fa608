-- The rank says which way `value_at` goes, the code's tests cut the ranks into the same ways, and the opcode's bytes pay for the words before the
-- operands.
use mathlib.Core.Path.{◌≡◌, ap}
use native.Mathlib.Omega.{arith}
use Rattle.lexer.proofs.Laws.{fail_is}
use Rattle.piece_block.specs.Opcodes.{value_at}
use Rattle.piece_block.proofs.OpcodeLaws.{value_bin, value_fbin, value_conv, value_tail, value_none}
use Rattle.lexer.proofs.Laws.{turn}
use Rattle.piece_block.proofs.StatementLaws.{paid, paid_rich}
use Rattle.piece_block.proofs.opcodes.value_inst.Goals as goal

pub shape_of-words-then-r-lt-V_FADD : goal.shape_of-words-then-r-lt-V_FADD
shape_of-words-then-r-lt-V_FADD c = c.parse_bin.auto.words

pub returns-then-r-lt-V_FADD : goal.returns-then-r-lt-V_FADD
returns-then-r-lt-V_FADD c =
    turn (value_bin _ _ c.if-r-lt-V_FADD.true)
    (paid c.parse_bin.ensures (omega arith))

pub shape_of-words-then-r-lt-V_FNEG : goal.shape_of-words-then-r-lt-V_FNEG
shape_of-words-then-r-lt-V_FNEG c = c.parse_fbin.auto.words

pub returns-then-r-lt-V_FNEG : goal.returns-then-r-lt-V_FNEG
returns-then-r-lt-V_FNEG c =
    turn (value_fbin _ _ c.if-r-lt-V_FADD.false c.if-r-lt-V_FNEG.true)
    (paid c.parse_fbin.ensures (omega arith))

pub shape_of-words-then-r-eq-V_FNEG : goal.shape_of-words-then-r-eq-V_FNEG
shape_of-words-then-r-eq-V_FNEG c = c.parse_fneg.auto.words

pub returns-then-r-eq-V_FNEG : goal.returns-then-r-eq-V_FNEG
unfolding value_at
returns-then-r-eq-V_FNEG c =
    turn (ap (value_at _) c.if-r-eq-V_FNEG.true)
    (paid c.parse_fneg.ensures (omega arith))

pub shape_of-words-then-r-lt-V_ICMP : goal.shape_of-words-then-r-lt-V_ICMP
shape_of-words-then-r-lt-V_ICMP c = c.parse_conv.auto.words

pub returns-then-r-lt-V_ICMP : goal.returns-then-r-lt-V_ICMP
returns-then-r-lt-V_ICMP c =
    turn (value_conv _ _ (omega (arith, c.if-r-lt-V_FNEG.false, c.if-r-eq-V_FNEG.false)) c.if-r-lt-V_ICMP.true) (paid c.parse_conv.ensures (omega arith))

pub shape_of-words-then-r-lt-V_NONE : goal.shape_of-words-then-r-lt-V_NONE
shape_of-words-then-r-lt-V_NONE c = c.parse_tail_call.auto.words

pub returns-then-r-lt-V_NONE : goal.returns-then-r-lt-V_NONE
returns-then-r-lt-V_NONE c =
    turn (value_tail _ _ c.if-r-ge-V_TAIL.true c.if-r-lt-V_NONE.true)
    (paid_rich c.parse_tail_call.ensures (omega arith))

pub returns-then-r-ge-V_TAIL : goal.returns-then-r-ge-V_TAIL
returns-then-r-ge-V_TAIL c = turn (value_none _ _ c.if-r-lt-V_NONE.false) (fail_is _ c.refuse.ensures)

pub shape_of-words-in-31 : goal.shape_of-words-in-31
shape_of-words-in-31 c = c.parse_icmp.auto.words

pub returns-in-31 : goal.returns-in-31
unfolding value_at
returns-in-31 c =
    turn (ap (value_at _) c.in-31.is)
    (paid c.parse_icmp.ensures (omega arith))

pub shape_of-words-in-32 : goal.shape_of-words-in-32
shape_of-words-in-32 c = c.parse_fcmp.auto.words

pub returns-in-32 : goal.returns-in-32
unfolding value_at
returns-in-32 c =
    turn (ap (value_at _) c.in-32.is)
    (paid c.parse_fcmp.ensures (omega arith))

pub shape_of-words-in-33 : goal.shape_of-words-in-33
shape_of-words-in-33 c = c.parse_select.auto.words

pub returns-in-33 : goal.returns-in-33
unfolding value_at
returns-in-33 c =
    turn (ap (value_at _) c.in-33.is)
    (paid c.parse_select.ensures (omega arith))

pub shape_of-words-in-34 : goal.shape_of-words-in-34
shape_of-words-in-34 c = c.parse_load.auto.words

pub returns-in-34 : goal.returns-in-34
unfolding value_at
returns-in-34 c =
    turn (ap (value_at _) c.in-34.is)
    (paid c.parse_load.ensures (omega arith))

pub shape_of-words-in-35 : goal.shape_of-words-in-35
shape_of-words-in-35 c = c.parse_gep_inst.auto.words

pub returns-in-35 : goal.returns-in-35
unfolding value_at
returns-in-35 c =
    turn (ap (value_at _) c.in-35.is)
    (paid c.parse_gep_inst.ensures (omega arith))

pub shape_of-words-in-36 : goal.shape_of-words-in-36
shape_of-words-in-36 c = c.parse_phi.auto.words

pub returns-in-36 : goal.returns-in-36
unfolding value_at
returns-in-36 c =
    turn (ap (value_at _) c.in-36.is)
    (paid c.parse_phi.ensures (omega arith))

pub shape_of-words-in-37 : goal.shape_of-words-in-37
shape_of-words-in-37 c = c.parse_alloca.auto.words

pub returns-in-37 : goal.returns-in-37
unfolding value_at
returns-in-37 c =
    turn (ap (value_at _) c.in-37.is)
    (paid_rich c.parse_alloca.ensures (omega arith))

pub shape_of-words-in-38 : goal.shape_of-words-in-38
shape_of-words-in-38 c = c.parse_freeze.auto.words

pub returns-in-38 : goal.returns-in-38
unfolding value_at
returns-in-38 c =
    turn (ap (value_at _) c.in-38.is)
    (paid c.parse_freeze.ensures (omega arith))

pub shape_of-words-in-39 : goal.shape_of-words-in-39
shape_of-words-in-39 c = c.parse_call.auto.words

pub returns-in-39 : goal.returns-in-39
unfolding value_at
returns-in-39 c =
    turn (ap (value_at _) c.in-39.is)
    (paid_rich c.parse_call.ensures (omega arith))

pub shape_of-words-in-40 : goal.shape_of-words-in-40
shape_of-words-in-40 c = c.parse_cmpxchg.auto.words

pub returns-in-40 : goal.returns-in-40
unfolding value_at
returns-in-40 c =
    turn (ap (value_at _) c.in-40.is)
    (paid_rich c.parse_cmpxchg.ensures (omega arith))

pub shape_of-words-in-41 : goal.shape_of-words-in-41
shape_of-words-in-41 c = c.parse_atomicrmw.auto.words

pub returns-in-41 : goal.returns-in-41
unfolding value_at
returns-in-41 c =
    turn (ap (value_at _) c.in-41.is)
    (paid_rich c.parse_atomicrmw.ensures (omega arith))

pub shape_of-words-in_default : goal.shape_of-words-in_default
shape_of-words-in_default c = c.parse_extractvalue.auto.words

pub returns-in_default : goal.returns-in_default
unfolding value_at
returns-in_default c =
    let e : c.args.r ≡ 42 = omega (arith, c.if-r-lt-V_ICMP.false, c.if-r-ge-V_TAIL.false) in turn (ap (value_at _) e) (paid c.parse_extractvalue.ensures (omega arith))
