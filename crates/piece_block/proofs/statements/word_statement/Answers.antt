-- The word's rank in the one table of terminators and instructions says which of the definition's ways is taken, or that there is none.
use mathlib.Core.Path.{refl, sym, ◌∙◌}
use Rattle.grammar.specs.Body.{as_terminator, as_instruction}
use Rattle.lexer.proofs.Laws.{val, place_at, byte_yes, byte_no, fail_is, turn}
use Rattle.piece_block.proofs.OpcodeLaws.{statement_at_lem, statement_end, statement_plain}
use Rattle.inst_operands.proofs.RichLaws.{enrich, then_rich}
use Rattle.piece_block.specs.Stated.{an_instruction, a_terminator}
use Rattle.piece_block.proofs.StatementLaws.{is_stated, is_label, word_then, statement_none, statement_some}
use Rattle.piece_block.proofs.statements.word_statement.Goals as goal

pub returns-then-x : goal.returns-then-x
returns-then-x c = λ l. val _ c.read_word-x.ensures.gives
    (statement_none _ _ _ (sym c.read_word-x.ensures.none ∙ c.if-x.true) (fail_is _ c.refuse-q1.ensures))

pub returns-then-looks : goal.returns-then-looks
returns-then-looks c =
    λ l. word_then _ c.read_word-x.ensures.gives (sym c.read_word-x.ensures.none ∙ c.if-x.false)
    (statement_some _ _ _ (sym c.read_word-x.ensures.none ∙ c.if-x.false)
    (place_at _ _ c.place-j.ensures
    (λ m. byte_yes _ _ c.looks.ensures c.if-looks.true c.pass-q2.ensures
    (val _ c.label_counter-d.ensures
    (enrich (is_label _ _ _ _ _ _ c.saturating_sub-n.ensures c.read_word-x.ensures.size l c.pack_word-label.ensures))))))

pub shape_of-words-then-r-lt-S_STORE : goal.shape_of-words-then-r-lt-S_STORE
shape_of-words-then-r-lt-S_STORE c = c.terminator-q5.auto.words

pub returns-then-r-lt-S_STORE : goal.returns-then-r-lt-S_STORE
unfolding as_terminator
returns-then-r-lt-S_STORE c =
    λ l. word_then _ c.read_word-x.ensures.gives (sym c.read_word-x.ensures.none ∙ c.if-x.false)
    (statement_some _ _ _ (sym c.read_word-x.ensures.none ∙ c.if-x.false)
    (place_at _ _ c.place-j.ensures
    (λ m. byte_no _ _ c.looks.ensures c.if-looks.false
    (val _ (c.enter-e.ensures _)
    (turn (statement_at_lem _ _ _ c.statement_rank-r.ensures)
    (turn (statement_end _ _ c.if-r-lt-S_STORE.true)
    (then_rich 3 _ {c = 0} c.terminator-q5.ensures (λ ws. enrich (is_stated _ (a_terminator refl))))))))))

pub shape_of-words : goal.shape_of-words
shape_of-words c = c.plain_inst-y.auto.words

pub returns : goal.returns
unfolding as_instruction
returns c =
    λ l. word_then _ c.read_word-x.ensures.gives (sym c.read_word-x.ensures.none ∙ c.if-x.false)
    (statement_some _ _ _ (sym c.read_word-x.ensures.none ∙ c.if-x.false)
    (place_at _ _ c.place-j.ensures
    (λ m. byte_no _ _ c.looks.ensures c.if-looks.false
    (val _ (c.enter-e.ensures _)
    (turn (statement_at_lem _ _ _ c.statement_rank-r.ensures)
    (turn (statement_plain _ _ c.if-r-lt-S_STORE.false)
    (then_rich 3 _ {c = 0} c.plain_inst-y.ensures (λ ws. enrich (is_stated _ (an_instruction refl))))))))))
