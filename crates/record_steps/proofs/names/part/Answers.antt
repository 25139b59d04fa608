-- The two tests of the code are those of the definition, and two halves of a word do not wrap.
use native.Mathlib.Omega.{arith}
use borrow.Author.Tests.{le-leb, lt-leb, lt-ltb}
use Rattle.trees.specs.Steps.{part_of}
use Rattle.record_steps.proofs.names.part.Goals as goal

pub returns-then-name-eq0 : goal.returns-then-name-eq0
unfolding part_of
returns-then-name-eq0 c = simp (part_of, c.if-name-eq0.true)

pub returns-then-start-length : goal.returns-then-start-length
unfolding part_of
returns-then-start-length c = simp (part_of, lt-ltb 0 c.args.name (omega arith), le-leb _ _ c.if-start-length.true)

pub returns : goal.returns
unfolding part_of
returns c = simp (part_of, lt-ltb 0 c.args.name (omega arith), lt-leb _ _ c.if-start-length.false)
