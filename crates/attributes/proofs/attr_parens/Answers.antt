-- Of `dead_on_return` the byte behind the space says whether parentheses are read; of every other word they are.
use Rattle.grammar.specs.Attributes.{paren_attrs, dead_on_return, attr_parens}
use Rattle.grammar.specs.Lexer.{rank, same_word}
use Rattle.lexer.proofs.Laws.{g_then, g_done, g_byte_at_yes, g_byte_at_no}
use borrow.Author.Tests.{eq-eqb, ne_eqb}
use Rattle.attributes.proofs.attr_parens.Goals as goal

pub returns-then-looks : goal.returns-then-looks
unfolding attr_parens dead_on_return paren_attrs rank same_word
returns-then-looks c =
    rw (eq-eqb _ dead_on_return c.if-r-eq-DEAD_ON_RETURN.true)
    (g_then _ c.eat_ws-q.ensures (g_byte_at_yes _ _ c.looks.ensures c.if-looks.true c.skip_parens.ensures))

pub returns-then-r-eq-DEAD_ON_RETURN : goal.returns-then-r-eq-DEAD_ON_RETURN
unfolding attr_parens dead_on_return paren_attrs rank same_word
returns-then-r-eq-DEAD_ON_RETURN c =
    rw (eq-eqb _ dead_on_return c.if-r-eq-DEAD_ON_RETURN.true)
    (g_then _ c.eat_ws-q.ensures (g_byte_at_no _ _ c.looks.ensures c.if-looks.false g_done))

pub returns : goal.returns
unfolding attr_parens dead_on_return paren_attrs rank same_word
returns c = rw (ne_eqb _ dead_on_return c.if-r-eq-DEAD_ON_RETURN.false) c.skip_parens-2.ensures
