-- The two tests are those of `passed`.
use borrow.Author.Tests.{le-leb}
use Rattle.lexer.proofs.pass.Goals as goal

pub returns-then-m-text : goal.returns-then-m-text
returns-then-m-text c =
    rw
    (c.in_ok-c.was, le-leb _ _ c.if-c-text.true, le-leb _ _ c.if-m-text.true)
