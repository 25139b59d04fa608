-- A quote at the cursor, or none: the word is what the automaton passes, and it is empty where its end is its start.
use native.Mathlib.Omega.{arith}
use mathlib.Core.Path.{sym, ◌∙◌}
use Rattle.grammar.specs.Lexer.{quote_step}
use Rattle.lexer.proofs.Scan.{byte_inside}
use Rattle.lexer_names.proofs.Strings.{word_plain, word_none, word_quoted, quote_bad, quote_open}
use Rattle.lexer_names.proofs.word_at.Goals as goal

pub overflow_add-from : goal.overflow_add-from
overflow_add-from c =
    omega (
      arith,
      byte_inside c.args.text.now c.args.c.at 34
          (sym c.at_byte.ensures ∙ c.if-at_byte.true),
    )

pub returns-then-x-ne0 : goal.returns-then-x-ne0
returns-then-x-ne0 c =
    rw c.no_word.ensures
    (word_none _ _ _ _
    (quote_bad _ c.args.c (sym c.at_byte.ensures ∙ c.if-at_byte.true) _ (c.scan_text-x.ensures quote_step (λ q b r l h e. e)) c.if-x-ne0.true))

pub overflow_add-end : goal.overflow_add-end
overflow_add-end c =
    omega (
      arith,
      byte_inside c.args.text.now c.scan_text-x.result.at 34
          (sym c.at_byte-then-at_byte.ensures ∙ c.if-at_byte-2.true),
    )

pub returns-then-at_byte-2 : goal.returns-then-at_byte-2
returns-then-at_byte-2 c =
    (word_quoted _ _ (sym c.at_byte.ensures ∙ c.if-at_byte.true) _ (c.scan_text-x.ensures quote_step (λ q b r l h e. e)) c.if-x-ne0.false
    (sym c.at_byte-then-at_byte.ensures ∙ c.if-at_byte-2.true))

pub returns-then-at_byte : goal.returns-then-at_byte
returns-then-at_byte c =
    rw c.no_word-then-at_byte.ensures
    (word_none _ _ _ _
    (quote_open _ c.args.c (sym c.at_byte.ensures ∙ c.if-at_byte.true) _ (c.scan_text-x.ensures quote_step (λ q b r l h e. e)) c.if-x-ne0.false
    (sym c.at_byte-then-at_byte.ensures ∙ c.if-at_byte-2.false)))

pub returns : goal.returns
returns c =
    (word_plain _ _ _ (sym c.at_byte.ensures ∙ c.if-at_byte.false) c.name_end-i.ensures)
