-- The test of the code is the definition's.
use borrow.Author.Tests.{eq-eqb, ne_eqb}
use Rattle.grammar.specs.Numbered.{block_number}
use Rattle.map_spec.specs.Blocks.{block_name}
use Rattle.map_dot.proofs.quoted.put_block.Goals as goal

pub returns-then-label-eq0 : goal.returns-then-label-eq0
unfolding block_name block_number
returns-then-label-eq0 c = rw (block_name, block_number, eq-eqb _ _ c.if-label-eq0.true) c.put_number.ensures

pub returns : goal.returns
unfolding block_name block_number
returns c = rw (block_name, block_number, ne_eqb _ _ c.if-label-eq0.false) c.put_name.ensures
