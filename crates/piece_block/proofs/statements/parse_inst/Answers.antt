-- The calls are the definition's steps in the same order; the opcode's rank stands for the opcode.
use Rattle.grammar.specs.Body.{parse_inst}
use Rattle.lexer.proofs.Laws.{val, done, turn}
use Rattle.piece_block.proofs.OpcodeLaws.{value_at_lem}
use Rattle.inst_operands.proofs.RichLaws.{enrich, then_rich}
use Rattle.piece_block.proofs.statements.parse_inst.Goals as goal

pub shape_of-words : goal.shape_of-words
shape_of-words c = c.value_inst-q4.auto.words

pub returns : goal.returns
unfolding parse_inst
returns c =
    val _ c.counted_name-d.ensures
    (val _ c.expect_token-q1.ensures
    (val _ c.eat_ws-q2.ensures
    (val _ c.read_word-x.ensures.gives
    (then_rich 3 _ {c = 0} (turn (value_at_lem _ _ _ c.value_rank-r.ensures) c.value_inst-q4.ensures) (λ ws. enrich done)))))
