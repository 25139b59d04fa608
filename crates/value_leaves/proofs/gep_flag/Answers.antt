-- White space, then the tests of the definition in their order; `inbounds` alone sets the flag, and where no word stands the flags are over.
use mathlib.Core.Path.{sym}
use Rattle.grammar.specs.Values.{parse_gep_flags}
use Rattle.lexer.proofs.Laws.{true_false, g_then, g_done, g_stay, g_word_yes, g_word_no}
use Rattle.value_leaves.proofs.gep_flag.Goals as goal

pub returns-then-word : goal.returns-then-word
unfolding parse_gep_flags
returns-then-word c =
    record {
      again = λ e u. g_then _ c.eat_ws-q.ensures
          (g_word_yes _ _ c.word.ensures c.if-word.true c.pass_word-q1.ensures g_stay);
      over = λ e u. true_false (sym e);
    }

pub returns-then-word-2 : goal.returns-then-word-2
unfolding parse_gep_flags
returns-then-word-2 c =
    record {
      again = λ e u. g_then _ c.eat_ws-q.ensures
          (g_word_no _ _ c.word.ensures c.if-word.false
          (g_word_yes _ _ c.word-2.ensures c.if-word-2.true c.pass_word-q1-then-word-2.ensures g_stay));
      over = λ e u. true_false (sym e);
    }

pub returns-then-word-3 : goal.returns-then-word-3
unfolding parse_gep_flags
returns-then-word-3 c =
    record {
      again = λ e u. g_then _ c.eat_ws-q.ensures
          (g_word_no _ _ c.word.ensures c.if-word.false
          (g_word_no _ _ c.word-2.ensures c.if-word-2.false
          (g_word_yes _ _ c.word-3.ensures c.if-word-3.true c.pass_word-q1-then-word-3.ensures g_stay)));
      over = λ e u. true_false (sym e);
    }

pub returns-then-word-4 : goal.returns-then-word-4
unfolding parse_gep_flags
returns-then-word-4 c =
    record {
      again = λ e u. g_then _ c.eat_ws-q.ensures
          (g_word_no _ _ c.word.ensures c.if-word.false
          (g_word_no _ _ c.word-2.ensures c.if-word-2.false
          (g_word_no _ _ c.word-3.ensures c.if-word-3.false
          (g_word_yes _ _ c.word-4.ensures c.if-word-4.true c.pass_word-r.ensures (g_then _ c.skip_parens-r1.ensures g_stay)))));
      over = λ e u. true_false (sym e);
    }

pub returns : goal.returns
unfolding parse_gep_flags
returns c =
    record {
      again = λ e u. true_false e;
      over = λ e u. g_then _ c.eat_ws-q.ensures
          (g_word_no _ _ c.word.ensures c.if-word.false
          (g_word_no _ _ c.word-2.ensures c.if-word-2.false
          (g_word_no _ _ c.word-3.ensures c.if-word-3.false
          (g_word_no _ _ c.word-4.ensures c.if-word-4.false (g_done)))));
    }
