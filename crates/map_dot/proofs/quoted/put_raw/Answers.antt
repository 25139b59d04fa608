-- Between quotes escapes are undone; without quotes a name stands as it is.
use mathlib.Core.Path.{sym, ◌∙◌}
use Rattle.map_dot.proofs.Letters.{spelled_quoted, spelled_plain}
use Rattle.map_dot.proofs.quoted.put_raw.Goals as goal

pub returns-then-is_quoted : goal.returns-then-is_quoted
returns-then-is_quoted c =
    rw (spelled_quoted c.args.raw.now
    (sym c.is_quoted.ensures ∙ c.if-is_quoted.true))
    (rw c.between.ensures at c.put_unescaped.ensures)

pub returns : goal.returns
returns c =
    rw (spelled_plain c.args.raw.now
    (sym c.is_quoted.ensures ∙ c.if-is_quoted.false)) c.put_letters.ensures
