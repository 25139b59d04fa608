-- The scope before an ordering.
-- Assumes nothing.
use Rattle.program.specs.Bytes.{bytes}
use Rattle.program.specs.Prog.{Prog, ret}
use Rattle.grammar.specs.Lexer.{word_if, skip_parens}

-- the scope of an ordering
unfoldable pub opt_scope : Prog (Unit {0})
opt_scope = word_if (bytes "syncscope") skip_parens (ret tt)
