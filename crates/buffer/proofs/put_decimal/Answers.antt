-- What std writes is the number in decimal.
use native.Mathlib.Omega.{arith}
use Rattle.buffer.proofs.Decimals.{decimal_same}
use Rattle.buffer.proofs.put_decimal.Goals as goal

pub returns : goal.returns
returns c = rw (← decimal_same c.args.n (omega arith), ← c.format.ensures.text, ← c.as_bytes.ensures.value) c.put_all.ensures
