-- White space is one scan, and `space_end` is the place where it stops.
use borrow.Author.Rules.{rules}
use Rattle.grammar.specs.Lexer.{eat_ws}
use Rattle.program.specs.Prog.{run}
use Rattle.lexer.proofs.Laws.{given, handed}
use Rattle.lexer.proofs.eat_ws.Goals as goal

pub returns : goal.returns
unfolding eat_ws run
returns c = rw c.in_ok-c.was (given _ _ (λ i. rw c.space_end-at.ensures))

pub returns-in_err-c : goal.returns-in_err-c
returns-in_err-c c = handed c.in_err-c.was (search rules)
