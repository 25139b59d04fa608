use mathlib.Core.Path.{refl, ap, ◌∙◌}
use Rattle.piece_block.specs.Stated.{number, word_in}
use native.Mathlib.Omega.{arith}
use Rattle.grammar.specs.Body.{parse_body}
use Rattle.lexer.proofs.Laws.{stay}
use Rattle.inst_operands.proofs.RichLaws.{enrich}
use Rattle.piece_block.proofs.BlockLaws.{lead_anew, body_tail, body_label, body_instruction, body_terminator, body_out}
use Rattle.piece_block.proofs.parse_body.Goals as goal

pub loop-left-init : goal.loop-left-init
loop-left-init c = (omega arith, enrich (stay (parse_body 16777217 _ 0 0 0)), refl)

pub shape_of-words-then-looks : goal.shape_of-words-then-looks
shape_of-words-then-looks c = c.loop-left.invariant.2

pub returns-then-looks : goal.returns-then-looks
returns-then-looks c = body_tail _ _ _ _ _ c.loop-left.invariant.1 c.loop-left-test.true c.eat_ws-r.ensures c.looks.ensures c.if-looks.true c.pass-r1.ensures

pub loop-left-smaller-in-Label : goal.loop-left-smaller-in-Label
loop-left-smaller-in-Label c = omega (arith, c.loop-left-test.true)

pub loop-left-preserved-in-Label : goal.loop-left-preserved-in-Label
loop-left-preserved-in-Label c =
    (omega (arith, c.loop-left.invariant.0, c.loop-left-test.true), body_label _ _ _ _ _ c.loop-left.invariant.1 c.loop-left-test.true c.eat_ws-r.ensures c.looks.ensures c.if-looks.false (lead_anew c.anew-r3.ensures c.parse_statement-s.ensures) _ (ap number c.in-Label.is) (ap word_in c.in-Label.is), c.parse_statement-s.auto.words ∙ c.loop-left.invariant.2)

pub overflow_add-n : goal.overflow_add-n
overflow_add-n c = omega (arith, c.loop-left.invariant.0)

pub loop-left-smaller : goal.loop-left-smaller
loop-left-smaller c = omega (arith, c.loop-left-test.true)

pub loop-left-preserved : goal.loop-left-preserved
loop-left-preserved c =
    (omega (arith, c.loop-left.invariant.0, c.loop-left-test.true), body_instruction _ _ _ _ _ c.loop-left.invariant.1 c.loop-left-test.true c.eat_ws-r.ensures c.looks.ensures c.if-looks.false (lead_anew c.anew-r3.ensures c.parse_statement-s.ensures) _ _ (ap number c.in-Instruction.is) c.place-at.ensures c.over_at-over.ensures, c.parse_statement-s.auto.words ∙ c.loop-left.invariant.2)

pub shape_of-words-in-Terminator : goal.shape_of-words-in-Terminator
shape_of-words-in-Terminator c = c.parse_statement-s.auto.words ∙ c.loop-left.invariant.2

pub returns-in-Terminator : goal.returns-in-Terminator
returns-in-Terminator c =
    body_terminator _ _ _ _ _ c.loop-left.invariant.1 c.loop-left-test.true c.eat_ws-r.ensures c.looks.ensures c.if-looks.false (lead_anew c.anew-r3.ensures c.parse_statement-s.ensures) (λ z. absurd (omega (arith, ap number c.in-Terminator.is))) (λ z. absurd (omega (arith, ap number c.in-Terminator.is)))

pub shape_of-words : goal.shape_of-words
shape_of-words c = c.loop-left.invariant.2

pub returns : goal.returns
returns c = body_out _ _ _ _ _ c.loop-left.invariant.1 c.loop-left-test.false c.refuse-q1.ensures
