-- The rank says which way `plain_at` goes, the code goes the same way, and the opcode's bytes pay for the words before the operands.
use mathlib.Core.Path.{◌≡◌, ap}
use native.Mathlib.Omega.{arith}
use Rattle.lexer.proofs.Laws.{fail_is, turn}
use Rattle.piece_block.specs.Opcodes.{plain_at}
use Rattle.piece_block.proofs.OpcodeLaws.{plain_tail_lem, plain_none}
use Rattle.piece_block.proofs.StatementLaws.{above, paid, paid_rich, uncounted_is}
use Rattle.piece_block.proofs.opcodes.plain_inst.Goals as goal

pub shape_of-words-then-r-lt-S_NONE : goal.shape_of-words-then-r-lt-S_NONE
shape_of-words-then-r-lt-S_NONE c = c.parse_plain_tail_call.auto.words

pub returns-then-r-lt-S_NONE : goal.returns-then-r-lt-S_NONE
returns-then-r-lt-S_NONE c =
    turn (plain_tail_lem _ _ c.if-r-ge-S_TAIL.true c.if-r-lt-S_NONE.true)
    (paid_rich c.parse_plain_tail_call.ensures (omega arith))

pub returns-then-r-ge-S_TAIL : goal.returns-then-r-ge-S_TAIL
returns-then-r-ge-S_TAIL c = turn (plain_none _ _ c.if-r-lt-S_NONE.false) (fail_is _ c.refuse-q.ensures)

pub shape_of-words-then-r-eq-S_STORE : goal.shape_of-words-then-r-eq-S_STORE
shape_of-words-then-r-eq-S_STORE c = c.parse_store-q1.auto.words

pub returns-then-r-eq-S_STORE : goal.returns-then-r-eq-S_STORE
unfolding plain_at
returns-then-r-eq-S_STORE c =
    turn (ap (plain_at _) c.if-r-eq-S_STORE.true)
    (uncounted_is _ _
    (paid c.parse_store-q1.ensures (omega arith)))

pub shape_of-words-then-r-eq-S_FENCE : goal.shape_of-words-then-r-eq-S_FENCE
shape_of-words-then-r-eq-S_FENCE c = c.parse_fence-q2.auto.words

pub returns-then-r-eq-S_FENCE : goal.returns-then-r-eq-S_FENCE
unfolding plain_at
returns-then-r-eq-S_FENCE c =
    turn (ap (plain_at _) c.if-r-eq-S_FENCE.true)
    (uncounted_is _ _
    (paid c.parse_fence-q2.ensures (omega arith)))

pub shape_of-words : goal.shape_of-words
shape_of-words c = c.parse_plain_call.auto.words

pub returns : goal.returns
unfolding plain_at
returns c =
    let e : c.args.r ≡ 6 = omega (arith, c.requires, c.if-r-ge-S_TAIL.false, above (above c.requires c.if-r-eq-S_STORE.false) c.if-r-eq-S_FENCE.false) in
    turn (ap (plain_at _) e) (paid_rich c.parse_plain_call.ensures (omega arith))
