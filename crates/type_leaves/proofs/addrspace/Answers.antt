-- The test of `opt_addrspace`: behind the word the parentheses are skipped, else nothing is.
use Rattle.lexer.proofs.Laws.{g_done, g_word_yes, g_word_no}
use Rattle.grammar.specs.Types.{opt_addrspace}
use Rattle.type_leaves.proofs.addrspace.Goals as goal

pub returns-then-word : goal.returns-then-word
unfolding opt_addrspace
returns-then-word c = g_word_yes _ _ c.word.ensures c.if-word.true c.pass_word-q.ensures c.skip_parens.ensures

pub returns : goal.returns
unfolding opt_addrspace
returns c = g_word_no _ _ c.word.ensures c.if-word.false g_done
