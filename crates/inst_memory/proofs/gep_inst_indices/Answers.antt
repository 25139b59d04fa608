use mathlib.Core.Path.{refl, ◌∙◌}
use Rattle.lexer.proofs.Laws.{stay, go_on}
use Rattle.inst_memory.proofs.MemoryLaws.{indices_out, indices_end, indices_skip, indices_more}
use Rattle.records.specs.Limits.{turns}
use Rattle.grammar.specs.Instructions.{gep_inst_indices}
use Rattle.inst_memory.proofs.gep_inst_indices.Goals as goal

pub loop-left-init : goal.loop-left-init
loop-left-init c = (stay (gep_inst_indices turns 2), refl)

pub loop-left-preserved-then-looks-2 : goal.loop-left-preserved-then-looks-2
loop-left-preserved-then-looks-2 c = (
  go_on c.loop-left.invariant.0
      (λ ws. indices_skip c.loop-left._left c.loop-left.n ws c.loop-left-test.true c.eat_ws-q.ensures c.looks.ensures c.if-looks.true c.pass-q.ensures c.eat_ws-q-then-looks.ensures c.looks-then-looks.ensures c.if-looks-2.true c.pass-q-then-looks-2.ensures c.skip_metadata_ref-q.ensures),
  c.loop-left.invariant.1,
)

pub loop-left-preserved : goal.loop-left-preserved
loop-left-preserved c = (
  go_on c.loop-left.invariant.0
      (λ ws. indices_more c.loop-left._left c.loop-left.n ws c.loop-left-test.true c.eat_ws-q.ensures c.looks.ensures c.if-looks.true c.pass-q.ensures c.eat_ws-q-then-looks.ensures c.looks-then-looks.ensures _ c.if-looks-2.false c.pair_child-x.ensures),
  c.pair_child-x.auto.words ∙ c.loop-left.invariant.1,
)

pub shape_of-words-else-looks : goal.shape_of-words-else-looks
shape_of-words-else-looks c = c.loop-left.invariant.1

pub returns-else-looks : goal.returns-else-looks
returns-else-looks c =
    go_on c.loop-left.invariant.0
    (λ ws. indices_end c.loop-left._left c.loop-left.n ws c.loop-left-test.true c.eat_ws-q.ensures c.looks.ensures c.if-looks.false)

pub shape_of-words : goal.shape_of-words
shape_of-words c = c.loop-left.invariant.1

pub returns : goal.returns
returns c =
    go_on c.loop-left.invariant.0
    (λ ws. indices_out c.loop-left._left c.loop-left.n ws c.loop-left-test.false)
