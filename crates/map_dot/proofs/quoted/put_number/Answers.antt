-- The calls, one behind the other; a number's digits stand as they are.
use Rattle.buffer.specs.Laws.{and_then}
use Rattle.map_spec.specs.Drawing.{in_quotes}
use Rattle.map_dot.proofs.Letters.{decimal_letters}
use Rattle.map_dot.proofs.quoted.put_number.Goals as goal

pub returns : goal.returns
unfolding in_quotes
returns c =
    rw (in_quotes, decimal_letters c.args.number)
    (and_then c.put_all-k.ensures
    (and_then c.put_decimal-k1.ensures c.put_all.ensures))
