-- The definition asks for the same `%`; behind it an instruction stands, and else a statement that begins with a word.
use Rattle.grammar.specs.Body.{parse_statement}
use Rattle.lexer.proofs.Laws.{val, place_at, byte_yes, byte_no}
use Rattle.piece_block.proofs.StatementLaws.{call_instruction}
use Rattle.piece_block.proofs.statements.parse_statement.Goals as goal

pub shape_of-words-then-looks : goal.shape_of-words-then-looks
shape_of-words-then-looks c = c.parse_inst-x.auto.words

pub returns-then-looks : goal.returns-then-looks
unfolding parse_statement
returns-then-looks c =
    place_at _ _ c.place-at.ensures
    (λ l. byte_yes _ _ c.looks.ensures c.if-looks.true c.pass-q.ensures (val _ (c.enter-e.ensures _) (call_instruction _ _ c.parse_inst-x.ensures)))

pub shape_of-words : goal.shape_of-words
shape_of-words c = c.word_statement.auto.words

pub returns : goal.returns
unfolding parse_statement
returns c =
    place_at _ _ c.place-at.ensures
    (λ l. byte_no _ _ c.looks.ensures c.if-looks.false (c.word_statement.ensures l))
