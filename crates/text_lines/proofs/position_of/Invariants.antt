-- The invariant `LineAt`: line and column behind the bytes that have been seen.
use Rattle.text_lines.proofs.Columns.{LineAt}
use Rattle.text_lines.proofs.position_of.Given as goal

abbrev pub invariant-loop-b : goal.invariant-loop-b
invariant-loop-b l = LineAt l.b-items l.b-index l.line l.column
