-- A reader of pieces from two programs.
-- Assumes nothing.
use Rattle.std.specs.Prelude.{List, ℕ, get_or, drop}
use Rattle.program.specs.Prog.{Prog, Res, ok, closed, no_at, run}
use Rattle.records.specs.Pieces.{HeadRead, head, bad_head, BlockRead, block, tail, bad_block}

-- What the program of a piece gives: the counter behind the piece, then its words.
abbrev pub counter_in : List ℕ → ℕ
counter_in l = get_or l 0 0

abbrev pub words_in : List ℕ → List ℕ
words_in l = drop 1 l

-- A reader of pieces from two programs. The head ends with its closing byte, so does the tail; a block ends by `ret`.
unfoldable pub head_of : Res (List ℕ) → HeadRead
head_of (ok l j) = bad_head 0 0
head_of (closed l j) = head j (counter_in l) (words_in l)
head_of (no_at q p) = bad_head q p

unfoldable pub block_of : Res (List ℕ) → BlockRead
block_of (ok l j) = block j (counter_in l) (words_in l)
block_of (closed l j) = tail j
block_of (no_at q p) = bad_block q p

-- What reading at a piece's start gives, by a program for the head and one for a block or the tail, which is told the counter there.
unfoldable pub head_read : Prog (List ℕ) → List ℕ → HeadRead
head_read f s = head_of (run f 0 s)

unfoldable pub block_read : (ℕ → Prog (List ℕ)) → ℕ → List ℕ → BlockRead
block_read f d s = block_of (run (f d) 0 s)
