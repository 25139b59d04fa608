-- The definition asks for the same word, and passes it and the parentheses behind it.
use Rattle.inst_memory.specs.Ordering.{opt_scope}
use Rattle.lexer.proofs.Laws.{g_done, g_word_yes, g_word_no}
use Rattle.inst_memory.proofs.opt_scope.Goals as goal

pub returns-then-word : goal.returns-then-word
unfolding opt_scope
returns-then-word c = g_word_yes _ _ c.word.ensures c.if-word.true c.pass_word-q.ensures c.skip_parens.ensures

pub returns : goal.returns
unfolding opt_scope
returns c = g_word_no _ _ c.word.ensures c.if-word.false g_done
