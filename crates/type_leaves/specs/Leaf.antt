-- The types that are a word.
-- Assumes nothing.
use Rattle.std.specs.Prelude.{List, [], ℕ}
use Rattle.program.specs.Bytes.{bytes}
use Rattle.program.specs.Prog.{Prog, ret}
use Rattle.records.specs.Words.{node}
use Rattle.records.specs.Kinds.{kind, Void, Float, Double, Label, Metadata}
use Rattle.grammar.specs.Lexer.{word_if}
use Rattle.grammar.specs.Types.{ptr_type}

-- the types that are a word, or g
unfoldable pub word_types : Prog (List ℕ) → Prog (List ℕ)
word_types g =
    word_if (bytes "void") (ret (node (kind Void) 0 0 []))
    (word_if (bytes "float") (ret (node (kind Float) 0 0 []))
    (word_if (bytes "double") (ret (node (kind Double) 0 0 []))
    (word_if (bytes "ptr") ptr_type
    (word_if (bytes "label") (ret (node (kind Label) 0 0 []))
    (word_if (bytes "metadata") (ret (node (kind Metadata) 0 0 []))
    g)))))
