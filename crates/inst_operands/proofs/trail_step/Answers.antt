-- The definition's tests in their order: a comma, then `align` with its number, else `!`, else the refusal; without a comma the clauses are over.
use Rattle.inst_operands.specs.Trailing.{align_of}
use Rattle.program.specs.Prog.{◌>>=◌}
use Rattle.grammar.specs.Lexer.{refuse}
use Rattle.grammar.specs.Instructions.{clauses_in}
use Rattle.lexer.proofs.Laws.{true_false, g_then, g_done, g_stay, g_byte_yes, g_byte_no, g_word_yes, g_word_no, g_token_yes, g_token_no, g_fail}
use mathlib.Core.Path.{sym}
use Rattle.inst_operands.proofs.trail_step.Goals as goal

pub returns-then-word : goal.returns-then-word
unfolding clauses_in align_of
returns-then-word c =
    record {
      again = λ e u. g_token_yes _ _ c.eat_ws-q.ensures c.looks.ensures c.if-looks.true c.pass-q1.ensures
          (g_then _ c.eat_ws-q2.ensures
          (g_word_yes _ _ c.word.ensures c.if-word.true c.pass_word-q3.ensures
          (g_then _ c.eat_ws-q4.ensures (g_then _ c.parse_int-n.ensures g_stay))));
      over = λ e u. true_false (sym e);
    }

pub returns-then-looks-2 : goal.returns-then-looks-2
unfolding clauses_in align_of
returns-then-looks-2 c =
    record {
      again = λ e u. g_token_yes _ _ c.eat_ws-q.ensures c.looks.ensures c.if-looks.true c.pass-q1.ensures
          (g_then _ c.eat_ws-q2.ensures
          (g_word_no _ _ c.word.ensures c.if-word.false
          (g_byte_yes _ _ c.looks-then-looks.ensures c.if-looks-2.true c.pass-q6.ensures (g_then _ c.skip_metadata_ref-q7.ensures g_stay))));
      over = λ e u. true_false (sym e);
    }

pub returns-then-looks : goal.returns-then-looks
unfolding refuse ◌>>=◌ clauses_in align_of
returns-then-looks c =
    record {
      again = λ e u. true_false e;
      over = λ e u. g_token_yes _ _ c.eat_ws-q.ensures c.looks.ensures c.if-looks.true c.pass-q1.ensures
          (g_then _ c.eat_ws-q2.ensures
          (g_word_no _ _ c.word.ensures c.if-word.false
          (g_byte_no _ _ c.looks-then-looks.ensures c.if-looks-2.false (g_fail _ c.refuse-q8.ensures))));
    }

pub returns : goal.returns
unfolding clauses_in align_of
returns c = record { again = λ e u. true_false e; over = λ e u. g_token_no _ _ c.eat_ws-q.ensures c.looks.ensures c.if-looks.false g_done }
