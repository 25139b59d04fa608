-- A function: its head and blocks as pieces, the full reading and the re-reading of a text.
-- Assumes nothing.
use Rattle.std.specs.Prelude.{List, ℕ}
use Rattle.records.specs.Pieces.{HeadRead, BlockRead, full, reread, Left, Again}
use Rattle.records.specs.Piece.{head_read, block_read}
use Rattle.grammar.specs.Body.{parse_block, parse_head}

-- What reading at a piece's start gives; of a block or the tail, by the counter there.
unfoldable pub head_at : List ℕ → HeadRead
head_at = head_read parse_head

unfoldable pub block_at : ℕ → List ℕ → BlockRead
block_at = block_read parse_block

-- The full reading: what it leaves in arrays of these lengths, and its answer.
unfoldable pub reading_of : (words dir : ℕ) → List ℕ → Left
reading_of words dir text = full head_at block_at words dir text

-- Re-reading: words and directory as they stood, the entry count, both texts.
unfoldable pub rereading_of : (words dir : List ℕ) (entries : ℕ) (older newer : List ℕ) → Again
rereading_of words dir entries older newer = reread head_at block_at words dir entries older newer
