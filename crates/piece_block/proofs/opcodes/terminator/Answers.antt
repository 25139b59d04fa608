-- The rank says which way `terminator_at` goes, the code goes the same way, and the opcode's bytes pay for the words before the operands.
use mathlib.Core.Path.{◌≡◌, ap}
use native.Mathlib.Omega.{arith}
use Rattle.piece_block.specs.Opcodes.{terminator_at}
use Rattle.lexer.proofs.Laws.{turn}
use Rattle.piece_block.proofs.StatementLaws.{paid, paid_rich}
use Rattle.piece_block.proofs.opcodes.terminator.Goals as goal

pub shape_of-words-in-0 : goal.shape_of-words-in-0
shape_of-words-in-0 c = c.parse_ret.auto.words

pub returns-in-0 : goal.returns-in-0
unfolding terminator_at
returns-in-0 c =
    turn (ap terminator_at c.in-0.is)
    (paid c.parse_ret.ensures (omega arith))

pub shape_of-words-in-1 : goal.shape_of-words-in-1
shape_of-words-in-1 c = c.parse_br.auto.words

pub returns-in-1 : goal.returns-in-1
unfolding terminator_at
returns-in-1 c =
    turn (ap terminator_at c.in-1.is)
    (paid c.parse_br.ensures (omega arith))

pub shape_of-words-in-2 : goal.shape_of-words-in-2
shape_of-words-in-2 c = c.parse_switch.auto.words

pub returns-in-2 : goal.returns-in-2
unfolding terminator_at
returns-in-2 c =
    turn (ap terminator_at c.in-2.is)
    (paid_rich c.parse_switch.ensures (omega arith))

pub shape_of-words-in_default : goal.shape_of-words-in_default
shape_of-words-in_default c = c.parse_unreachable.auto.words

pub returns-in_default : goal.returns-in_default
unfolding terminator_at
returns-in_default c = let e : c.args.r ≡ 3 = omega (arith, c.requires) in turn (ap terminator_at e) (paid c.parse_unreachable.ensures (omega arith))
