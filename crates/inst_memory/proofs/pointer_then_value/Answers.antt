-- The pointer is passed over first and read again behind the value's type, from the place where it was found; the other calls are the definition's
-- steps in the same order.
use Rattle.inst_operands.proofs.Twice.{found_on, dry_then, shows_made, again_then}
use Rattle.inst_operands.proofs.RichLaws.{enrich}
use Rattle.values.proofs.ValueLaws.{stuck_value}
use Rattle.types.proofs.TypeLaws.{type_then}
use Rattle.grammar.specs.Instructions.{pointer_then_value}
use Rattle.lexer.proofs.Laws.{then, val, done}
use mathlib.Core.Path.{◌∙◌}
use Rattle.inst_memory.proofs.pointer_then_value.Goals as goal

pub shape_of-words : goal.shape_of-words
shape_of-words c =
    c.parse_value.auto.words ∙ c.parse_operand-z1.auto.words ∙ c.parse_type-q3.auto.words

pub returns : goal.returns
unfolding pointer_then_value
returns c =
    dry_then _ c.pass_operand-q.ensures.reads c.join-q1.ensures
    (λ u F. val _ c.expect_token-q2.ensures
    (type_then 6 _ c.parse_type-q3.ensures (stuck_value _ _)
    (λ t. again_then (found_on (found_on F c.expect_token-q2.ensures.hands) c.parse_type-q3.ensures.hands) shows_made c.resume-z.ensures c.parse_operand-z1.ensures c.resume-q4.ensures
    (then _ c.parse_value.ensures
    (λ v. enrich done)))))
