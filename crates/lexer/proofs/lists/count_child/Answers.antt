-- The comparison is the one that the definition makes.
use mathlib.Core.Path.{◌∙◌, sym}
use borrow.Author.Tests.{lt-ltb, le-ltb}
use Rattle.lexer.proofs.lists.count_child.Goals as goal

pub returns-then-more : goal.returns-then-more
returns-then-more c = rw (lt-ltb _ _ c.if-more.true)

pub returns : goal.returns
returns c = c.refuse.ensures ∙ sym (rw (le-ltb _ _ c.if-more.false))
