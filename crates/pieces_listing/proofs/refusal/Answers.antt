-- The calls, one behind the other.
use mathlib.Core.Path.{◌∙◌}
use Rattle.pieces_listing.specs.Lines.{refusal_line}
use Rattle.buffer.specs.Laws.{and_then}
use Rattle.pieces_listing.proofs.refusal.Goals as goal

pub shape_of-out : goal.shape_of-out
shape_of-out c =
    c.put_all.auto.out ∙ c.put_decimal-k7.auto.out ∙ c.put_all-k6.auto.out ∙ c.put_decimal-k5.auto.out ∙ c.put_all-k4.auto.out ∙ c.put_decimal-k3.auto.out ∙ c.put_all-k2.auto.out ∙ c.put_decimal-k1.auto.out ∙ c.put_all-k.auto.out

pub returns : goal.returns
unfolding refusal_line
returns c =
    let line = rw c.position_of-at.ensures at c.put_decimal-k5.ensures in
    let column = rw c.position_of-at.ensures at c.put_decimal-k7.ensures in
    and_then c.put_all-k.ensures (and_then c.put_decimal-k1.ensures (and_then c.put_all-k2.ensures (and_then c.put_decimal-k3.ensures (and_then c.put_all-k4.ensures (and_then line (and_then c.put_all-k6.ensures (and_then column c.put_all.ensures)))))))
