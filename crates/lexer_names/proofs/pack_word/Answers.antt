-- Both numbers fit 32 bits, so the sum does not wrap.
use Rattle.records.specs.Words.{pack}
use borrow.Author.Rules.{rules}
use Rattle.lexer_names.proofs.pack_word.Goals as goal

pub returns-then-n-lt-HALF_LIMIT : goal.returns-then-n-lt-HALF_LIMIT
unfolding pack
returns-then-n-lt-HALF_LIMIT c = search rules
