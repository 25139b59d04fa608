-- A plain letter is one byte; another is a `\\` and two digits, one behind the other.
use mathlib.Core.Path.{sym, ◌∙◌}
use Rattle.buffer.specs.Laws.{and_then}
use Rattle.map_spec.specs.Drawing.{escape}
use Rattle.map_dot.proofs.Letters.{one, plain_letter, other_letter}
use Rattle.map_dot.proofs.quoted.put_letter.Goals as goal

pub returns-then-is_plain : goal.returns-then-is_plain
returns-then-is_plain c =
    rw (plain_letter c.args.x
    (sym c.is_plain.ensures ∙ c.if-is_plain.true)) (one c.put.ensures)

pub returns : goal.returns
unfolding escape
returns c =
    rw (
      other_letter c.args.x
          (sym c.is_plain.ensures ∙ c.if-is_plain.false),
      escape,
      ← c.last_digit.ensures,
      ← c.last_digit-2.ensures,
    )
    (and_then c.put_all-k.ensures
    (and_then (one c.put-k1.ensures) (one c.put-2.ensures)))
