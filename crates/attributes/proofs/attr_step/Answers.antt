-- The tests of the definition stand in another order here: two letters, `noundef`, and the words that are none are asked first. Each way the laws
-- of `LetterLaws` say what the tests that were left out would answer.
use Rattle.attributes.proofs.LetterLaws.{lettered, letters_rank, letters_word, known_rank, known_word, known_in, apart, apart_rank, apart_word}
use Rattle.attributes.specs.Step.{letters, is_small, no_attrs}
use Rattle.grammar.specs.Lexer.{rank, same_word}
use Rattle.program.specs.Bytes.{bytes}
use mathlib.Core.Path.{refl}
use Rattle.attributes.specs.Step.{group_digits}
use Rattle.lexer_keywords.proofs.Ranks.{g_rank_yes, g_rank_no}
use Rattle.lexer.proofs.Laws.{true_false, g_then, g_done, g_stay, g_byte_yes, g_byte_no, g_byte_at_yes, g_byte_at_no, g_word_yes, g_word_no, g_fail}
use Rattle.grammar.specs.Attributes.{paren_attrs, flag_attrs, skip_attrs_in}
use Rattle.program.specs.Prog.{◌>>=◌}
use mathlib.Core.Path.{sym}
use Rattle.attributes.proofs.attr_step.Goals as goal

pub returns-then-looks : goal.returns-then-looks
unfolding skip_attrs_in paren_attrs flag_attrs group_digits ◌>>=◌
returns-then-looks c =
    record {
      again = λ e u. g_then _ c.eat_ws-q.ensures
          (g_byte_yes _ _ c.looks.ensures c.if-looks.true c.pass-q1.ensures
          (g_then {f = group_digits} (λ _. skip_attrs_in u) c.skip_group-q2.ensures g_stay));
      over = λ e u. true_false (sym e);
    }

pub returns-then-looks-2 : goal.returns-then-looks-2
unfolding skip_attrs_in paren_attrs flag_attrs group_digits ◌>>=◌
returns-then-looks-2 c =
    record {
      again = λ e u. true_false e;
      over = λ e u. g_then _ c.eat_ws-q.ensures
          (g_byte_no _ _ c.looks.ensures c.if-looks.false
          (g_byte_at_yes _ _ c.looks-2.ensures c.if-looks-2.true (g_fail _ c.refuse-q3.ensures)));
    }

pub returns-then-not-two_letters : goal.returns-then-not-two_letters
unfolding skip_attrs_in paren_attrs flag_attrs group_digits ◌>>=◌ letters lettered is_small
returns-then-not-two_letters c =
    record {
      again = λ e u. true_false e;
      over = λ e u. g_then _ c.eat_ws-q.ensures
          (g_byte_no _ _ c.looks.ensures c.if-looks.false
          (g_byte_at_no _ _ c.looks-2.ensures c.if-looks-2.false
          (letters_rank paren_attrs _ refl c.two_letters.ensures c.if-not-two_letters.true
          (letters_word (bytes "align") _ refl c.two_letters.ensures c.if-not-two_letters.true
          (letters_rank flag_attrs _ refl c.two_letters.ensures c.if-not-two_letters.true g_done)))));
    }

pub returns-then-word : goal.returns-then-word
unfolding skip_attrs_in paren_attrs flag_attrs group_digits ◌>>=◌ rank same_word
returns-then-word c =
    record {
      again = λ e u. g_then _ c.eat_ws-q.ensures
          (g_byte_no _ _ c.looks.ensures c.if-looks.false
          (g_byte_at_no _ _ c.looks-2.ensures c.if-looks-2.false
          (known_rank (bytes "noundef") paren_attrs _ refl c.word.ensures c.if-word.true
          (known_word (bytes "noundef") (bytes "align") _ refl c.word.ensures c.if-word.true
          (known_in (bytes "noundef") flag_attrs _ _ refl c.word.ensures c.if-word.true
          (g_word_yes _ _ c.word.ensures c.if-word.true c.pass_word-q4.ensures g_stay))))));
      over = λ e u. true_false (sym e);
    }

pub returns-then-n-lt8 : goal.returns-then-n-lt8
unfolding skip_attrs_in paren_attrs flag_attrs no_attrs group_digits ◌>>=◌ apart rank same_word
returns-then-n-lt8 c =
    record {
      again = λ e u. true_false e;
      over = λ e u. g_then _ c.eat_ws-q.ensures
          (g_byte_no _ _ c.looks.ensures c.if-looks.false
          (g_byte_at_no _ _ c.looks-2.ensures c.if-looks-2.false
          (apart_rank no_attrs paren_attrs _ refl c.no_attr-n.ensures.0 c.if-n-lt8.true
          (apart_word no_attrs (bytes "align") _ refl c.no_attr-n.ensures.0 c.if-n-lt8.true
          (apart_rank no_attrs flag_attrs _ refl c.no_attr-n.ensures.0 c.if-n-lt8.true g_done)))));
    }

pub returns-then-r-lt19 : goal.returns-then-r-lt19
unfolding skip_attrs_in paren_attrs flag_attrs group_digits ◌>>=◌
returns-then-r-lt19 c =
    record {
      again = λ e u. g_then _ c.eat_ws-q.ensures
          (g_byte_no _ _ c.looks.ensures c.if-looks.false
          (g_byte_at_no _ _ c.looks-2.ensures c.if-looks-2.false
          (g_rank_yes _ _ _ c.paren_attr-k.ensures c.if-r-lt19.true (g_then _ c.attr_parens-q6.ensures g_stay))));
      over = λ e u. true_false (sym e);
    }

pub returns-then-word-2 : goal.returns-then-word-2
unfolding skip_attrs_in paren_attrs flag_attrs group_digits ◌>>=◌
returns-then-word-2 c =
    record {
      again = λ e u. g_then _ c.eat_ws-q.ensures
          (g_byte_no _ _ c.looks.ensures c.if-looks.false
          (g_byte_at_no _ _ c.looks-2.ensures c.if-looks-2.false
          (g_rank_no _ _ _ c.paren_attr-k.ensures c.if-r-lt19.false
          (g_word_yes _ _ c.word-2.ensures c.if-word-2.true c.pass_word-q7.ensures
          (g_then _ c.eat_ws-q8.ensures (g_then _ c.parse_int-n.ensures g_stay))))));
      over = λ e u. true_false (sym e);
    }

pub returns-then-s-lt64 : goal.returns-then-s-lt64
unfolding skip_attrs_in paren_attrs flag_attrs group_digits ◌>>=◌
returns-then-s-lt64 c =
    record {
      again = λ e u. g_then _ c.eat_ws-q.ensures
          (g_byte_no _ _ c.looks.ensures c.if-looks.false
          (g_byte_at_no _ _ c.looks-2.ensures c.if-looks-2.false
          (g_rank_no _ _ _ c.paren_attr-k.ensures c.if-r-lt19.false
          (g_word_no _ _ c.word-2.ensures c.if-word-2.false
          (g_rank_yes _ _ _ c.flag_attr-f.ensures c.if-s-lt64.true g_stay)))));
      over = λ e u. true_false (sym e);
    }

pub returns : goal.returns
unfolding skip_attrs_in paren_attrs flag_attrs group_digits ◌>>=◌
returns c =
    record {
      again = λ e u. true_false e;
      over = λ e u. g_then _ c.eat_ws-q.ensures
          (g_byte_no _ _ c.looks.ensures c.if-looks.false
          (g_byte_at_no _ _ c.looks-2.ensures c.if-looks-2.false
          (g_rank_no _ _ _ c.paren_attr-k.ensures c.if-r-lt19.false
          (g_word_no _ _ c.word-2.ensures c.if-word-2.false
          (g_rank_no _ _ _ c.flag_attr-f.ensures c.if-s-lt64.false g_done)))));
    }
