-- Neither shift reaches past the word, since the last bit is inside the window.
use lib.Pow.{pow_pos}
use Prim.Native.Nat.{◌-◌}
use native.Mathlib.Omega.{arith}
use Rattle.channel_table.proofs.Bits.{one_shl, half, row_shl}
use Rattle.channel_table.proofs.windows.bits_of.Goals as goal

pub overflow_sub-below-2 : goal.overflow_sub-below-2
overflow_sub-below-2 c = rw (one_shl c.args.a c.args.b c.requires.1) (pow_pos (c.args.b - c.args.a))

pub overflow_add-result : goal.overflow_add-result
overflow_add-result c = rw (one_shl c.args.a c.args.b c.requires.1) (omega (arith, half c.args.a c.args.b c.requires.1))

pub overflow_add-result-2 : goal.overflow_add-result-2
overflow_add-result-2 c = rw (one_shl c.args.a c.args.b c.requires.1) (omega (arith, half c.args.a c.args.b c.requires.1))

pub returns : goal.returns
returns c = rw (one_shl c.args.a c.args.b c.requires.1) (row_shl c.args.a c.args.b c.requires.1 c.requires.0)
