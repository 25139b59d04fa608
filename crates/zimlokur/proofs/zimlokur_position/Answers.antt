-- The line and the column are those of the one position that the definition gives.
use Rattle.text_lines.specs.declared.Position.{Position}
use mathlib.Core.Path.{ap}
use Rattle.zimlokur.proofs.zimlokur_position.Goals as goal

pub returns : goal.returns
returns c = (ap (λ (p : Position). p.line) c.position_of-at.ensures, ap (λ (p : Position). p.column) c.position_of-at.ensures)
