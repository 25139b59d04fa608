-- An empty word is refused behind it; the size of any other is its end less its start, and both halves of the word fit.
use mathlib.Core.Path.{sym, ◌∙◌}
use Rattle.lexer.proofs.Laws.{g_fail}
use Rattle.lexer_names.proofs.Strings.{name_none, name_some}
use Rattle.lexer_names.proofs.name_of.Goals as goal

pub returns-then-x : goal.returns-then-x
returns-then-x c = λ text p w l. name_none _ _ (sym w.none ∙ c.if-x.true) (g_fail _ c.refuse-q2.ensures)

pub returns : goal.returns
returns c = λ text p w l. name_some _ _ _ _ _ c.saturating_sub-n.ensures w.size (sym w.none ∙ c.if-x.false) l c.pack_word-v.ensures
