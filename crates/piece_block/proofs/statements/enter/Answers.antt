-- The definition makes the same two tests.
use Rattle.piece_block.proofs.StatementLaws.{entered_not, entered_later, entered_first}
use Rattle.piece_block.proofs.statements.enter.Goals as goal

pub returns-then-b-ne0 : goal.returns-then-b-ne0
returns-then-b-ne0 c = λ text. entered_not _ _ _ _ c.if-b-ne0.true

pub returns-then-b-ne0-2 : goal.returns-then-b-ne0-2
returns-then-b-ne0-2 c = λ text. entered_later _ _ _ _ c.if-b-ne0.false c.if-b-ne0-2.true

pub returns : goal.returns
returns c = λ text. entered_first _ _ _ _ c.if-b-ne0.false c.if-b-ne0-2.false (c.take_next.ensures text)
