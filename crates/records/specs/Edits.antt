-- Re-reading after an edit, by computation: a small language whose head ends at `{`, whose blocks end at `.` and the spaces behind it, and whose
-- tail ends at `}`; the words of a head or block are its bytes but those spaces. Its counter is one more behind each `+`, and 9 behind `=`.
-- What an edit of a definition changes shows here.
-- Assumes nothing.
use Rattle.std.specs.Prelude.{◌≡◌, refl, true, false, ◌||◌, List, [], ◌∷◌, ◌++◌, map, ℕ, ◌+◌, eqb}
use Rattle.std.proofs.Math.Option.{Option, none, some}
use Rattle.program.specs.Bytes.{bytes, byte}
use Rattle.program.specs.Choice.{pick}
use Rattle.program.specs.Class.{class_of, is_word}
use Rattle.program.specs.Prog.{Prog, ret, fail, look, eat, here, scan, last, run, ◌>>=◌, byte_at, scan_len, ends}
use Rattle.records.specs.Words.{pack, hi, lo}
use Rattle.records.specs.Pieces as Pieces
use Rattle.records.specs.Piece.{head_of, block_of}

unfoldable pub to_head : ℕ → ℕ → Option ℕ
to_head q x = pick (eqb x (byte "{")) none (some 0)

unfoldable pub to_block : ℕ → ℕ → Option ℕ
to_block q x = pick (eqb x (byte ".") || eqb x (byte "}")) none (some 0)

unfoldable pub spaces : ℕ → ℕ → Option ℕ
spaces q x = pick (eqb x 32) (some 0) none

unfoldable pub counts : ℕ → List ℕ → ℕ
counts c [] = c
counts c (x ∷ r) = counts (pick (eqb x (byte "+")) (c + 1) (pick (eqb x (byte "=")) 9 c)) r

unfoldable pub small_head : Prog (List ℕ)
small_head = scan to_head 0 (λ w. last (byte "{") (counts 0 w ∷ (w ++ bytes "{")) (here (λ i. fail 3 i)))

unfoldable pub small_block : ℕ → Prog (List ℕ)
small_block c =
    scan to_block 0 (λ w. last (byte "}") [] (look (λ b. elim (eqb b (byte ".")) [
      | true ↦ eat (scan spaces 0 (λ v. ret (counts c w ∷ (w ++ bytes "."))))
      | false ↦ here (λ i. fail 3 i)
    ])))

unfoldable pub head_at : List ℕ → Pieces.HeadRead
head_at s = head_of (run small_head 0 s)

unfoldable pub block_at : ℕ → List ℕ → Pieces.BlockRead
block_at c s = block_of (run (small_block c) 0 s)

-- The older records: made by a full reading into so many words and directory words, or lent as they stand with a count.
pub data Older : Type 0 where
  made : ℕ → ℕ → Older
  lent : List ℕ → List ℕ → ℕ → Older

pub data Edit : Type 0 where
  edit : Older → List ℕ → List ℕ → Edit

abbrev pub parts : List ℕ → List ℕ
parts [] = []
parts (x ∷ []) = hi x ∷ lo x ∷ []
parts (x ∷ y ∷ []) = hi x ∷ lo x ∷ hi y ∷ lo y ∷ []
parts (x ∷ y ∷ c ∷ ds) = hi x ∷ lo x ∷ hi y ∷ lo y ∷ c ∷ parts ds

-- Refused: 0, number, place. Accepted: 1, first, read, the entry count. Then the words and the directory's fields.
abbrev pub shown_left : ℕ → ℕ → Pieces.Left → List ℕ
shown_left a b (Pieces.left (Pieces.refused_at q p) ws ds) = 0 ∷ q ∷ p ∷ (ws ++ parts ds)
shown_left a b (Pieces.left (Pieces.count n) ws ds) = 1 ∷ a ∷ b ∷ n ∷ (ws ++ parts ds)

abbrev pub shown : Pieces.Again → List ℕ
shown (Pieces.again_left l a b) = shown_left a b l

-- Where the full reading of the older text is refused: 9, then what that leaves.
abbrev pub again_on : Pieces.Left → List ℕ → List ℕ → List ℕ
again_on (Pieces.left (Pieces.refused_at q p) ws ds) older newer = 9 ∷ shown_left 0 0 (Pieces.left (Pieces.refused_at q p) ws ds)
again_on (Pieces.left (Pieces.count n) ws ds) older newer = shown (Pieces.reread head_at block_at ws ds n older newer)

unfoldable pub outcome : Edit → List ℕ
unfolding class_of is_word byte_at scan_len run ◌>>=◌ ends pack Pieces.map_run Pieces.first_high Pieces.text_asked Pieces.judge Pieces.pad Pieces.all_words Pieces.entries Pieces.count_run Pieces.leave Pieces.and_then Pieces.cons_old Pieces.chain Pieces.olds Pieces.common Pieces.end_behind Pieces.common_end Pieces.leads Pieces.addrspace Pieces.closes Pieces.kept_rest Pieces.kept_front Pieces.size Pieces.source_words Pieces.is_fresh Pieces.sum_run Pieces.before Pieces.old_sizes Pieces.old_words Pieces.first_counter Pieces.from Pieces.from_blocks Pieces.joins Pieces.left_of Pieces.leave_again Pieces.blocks_in Pieces.blocks Pieces.reading Pieces.full_verdict Pieces.full Pieces.again_in Pieces.again Pieces.behind_front Pieces.keeps Pieces.rest Pieces.judge_again Pieces.reread_of Pieces.reread head_of block_of to_head to_block spaces counts small_head small_block head_at block_at
outcome (edit (made w d) older newer) = again_on (Pieces.full head_at block_at w d older) older newer
outcome (edit (lent ws ds n) older newer) = shown (Pieces.reread head_at block_at ws ds n older newer)

abbrev pub edits : List Edit
edits =
    -- The same text again: first 2, read 1.
    edit (made 9 12) (bytes "h{a.}") (bytes "h{a.}")
    -- A tail put before the block: first 0, read 2.
    ∷ edit (made 9 12) (bytes "h{a.}") (bytes "h{}a.}")
    -- An edit inside the block: first 1, read 1.
    ∷ edit (made 9 12) (bytes "h{xa.}") (bytes "h{xb.}")
    -- An edit past the byte behind the tail: all are kept, none is read, first is the number of pieces.
    ∷ edit (made 9 12) (bytes "h{a.}pp") (bytes "h{a.}pq")
    -- A byte put before the first block: first 0, read 2, two kept behind.
    ∷ edit (made 9 12) (bytes "h{a.b.}") (bytes "h{xa.b.}")
    -- The same without room for the words: 20 at the end of the kept block.
    ∷ edit (made 6 12) (bytes "h{a.b.}") (bytes "h{xa.b.}")
    -- An added block without room for the tail's entry: 21 at the end of the kept tail.
    ∷ edit (made 9 9) (bytes "h{a.}") (bytes "h{x.a.}")
    -- A newer text that is refused.
    ∷ edit (made 9 12) (bytes "h{a.}") (bytes "h{a.b")
    -- Altered words survive in the pieces that are kept.
    ∷ edit (lent (1 ∷ 2 ∷ 3 ∷ 4 ∷ 5 ∷ 6 ∷ []) (pack 0 2 ∷ pack 0 2 ∷ 0 ∷ pack 2 2 ∷ pack 2 2 ∷ 0 ∷ pack 4 1 ∷ pack 4 0 ∷ 0 ∷ []) 3) (bytes "h{a.}") (bytes "h{a.}")
    -- Two older pieces with one start: the first such is kept.
    ∷ edit (lent (1 ∷ 2 ∷ 3 ∷ 4 ∷ 5 ∷ 6 ∷ []) (pack 0 2 ∷ pack 0 2 ∷ 0 ∷ pack 2 0 ∷ pack 2 1 ∷ 0 ∷ pack 2 2 ∷ pack 3 2 ∷ 0 ∷ pack 4 1 ∷ pack 5 0 ∷ 0 ∷ []) 4) (bytes "h{a.}") (bytes "H{a.}")
    -- A head of length 0 is kept, and entry 1 is a block whatever its text.
    ∷ edit (lent (1 ∷ 2 ∷ 3 ∷ 4 ∷ 5 ∷ 6 ∷ []) (pack 0 0 ∷ pack 0 1 ∷ 0 ∷ pack 0 4 ∷ pack 1 2 ∷ 0 ∷ pack 4 1 ∷ pack 3 0 ∷ 0 ∷ []) 3) (bytes "h{a.}") (bytes "h{a.}")
    -- A tail that has words, kept behind.
    ∷ edit (lent (1 ∷ 2 ∷ 3 ∷ 4 ∷ 5 ∷ 6 ∷ []) (pack 0 2 ∷ pack 0 2 ∷ 0 ∷ pack 2 2 ∷ pack 2 1 ∷ 0 ∷ pack 4 1 ∷ pack 3 3 ∷ 0 ∷ []) 3) (bytes "h{a.}") (bytes "h{b.}")
    -- One entry only.
    ∷ edit (lent (1 ∷ 2 ∷ 3 ∷ 4 ∷ 5 ∷ 6 ∷ []) (pack 0 2 ∷ pack 0 2 ∷ 0 ∷ pack 2 2 ∷ pack 2 2 ∷ 0 ∷ pack 4 1 ∷ pack 4 0 ∷ 0 ∷ []) 1) (bytes "h{a.}") (bytes "h{a.}")
    -- An entry count of 2^64 - 1.
    ∷ edit (lent (1 ∷ 2 ∷ 3 ∷ 4 ∷ 5 ∷ 6 ∷ []) (pack 0 2 ∷ pack 0 2 ∷ 0 ∷ pack 2 2 ∷ pack 2 2 ∷ 0 ∷ pack 4 1 ∷ pack 4 0 ∷ 0 ∷ []) 18446744073709551615) (bytes "h{a.}") (bytes "h{a.}")
    -- An entry that does not start where the last ended.
    ∷ edit (lent (1 ∷ 2 ∷ 3 ∷ 4 ∷ 5 ∷ 6 ∷ []) (pack 0 2 ∷ pack 0 2 ∷ 0 ∷ pack 1 2 ∷ pack 2 2 ∷ 0 ∷ pack 4 1 ∷ pack 4 0 ∷ 0 ∷ []) 3) (bytes "h{a.}") (bytes "h{a.}")
    -- 1 and 2 come before 22.
    ∷ edit (lent (1 ∷ 2 ∷ 3 ∷ 4 ∷ 5 ∷ 6 ∷ []) (pack 0 2 ∷ pack 0 2 ∷ 0 ∷ pack 2 2 ∷ pack 2 2 ∷ 0 ∷ pack 4 1 ∷ pack 4 0 ∷ 0 ∷ []) 1) (bytes "h{a.}") (104 ∷ 200 ∷ [])
    -- The word behind a block is cut by the edit: that block is read again, first 1, read 2.
    ∷ edit (made 9 12) (bytes "h{a.bb.}") (bytes "h{a.bx.}")
    -- No room for the fourth entry, behind a head kept in front: 21.
    ∷ edit (made 9 9) (bytes "h{xa.}") (bytes "h{xa.b.}")
    -- The word behind a block is `addrspace`: that block is read again.
    ∷ edit (made 30 12) (bytes "h{a.addrspace .}") (bytes "h{a.addrspace b.}")
    -- The older text is refused: a full reading leaves zeros.
    ∷ edit (made 5 9) (bytes "h{a.b") (bytes "h{a.}")
    -- Reading begins with the counter of the old piece at which it starts: first 2, read 1.
    ∷ edit (made 10 12) (bytes "h{+.x a.}") (bytes "h{+.x b.}")
    -- An edit moves the counter: no old piece agrees, and all behind it are read, first 1, read 3.
    ∷ edit (made 9 12) (bytes "h{xa.b.}") (bytes "h{x+.b.}")
    -- The counter catches up behind the next block: first 1, read 2, two kept behind.
    ∷ edit (made 9 15) (bytes "h{xa.=.c.}") (bytes "h{x+.=.c.}")
    -- The head's counter is handed on: first 0, read 4.
    ∷ edit (made 9 12) (bytes "h{a.b.}") (bytes "+h{a.b.}")
    -- Older counters that no reading left: those kept in front stay, and reading begins with 7.
    ∷ edit (lent (1 ∷ 2 ∷ 3 ∷ 4 ∷ 5 ∷ 6 ∷ []) (pack 0 2 ∷ pack 0 2 ∷ 5 ∷ pack 2 2 ∷ pack 2 2 ∷ 7 ∷ pack 4 1 ∷ pack 4 0 ∷ 7 ∷ []) 3) (bytes "h{xa}}") (bytes "h{xb.}")
    -- Behind the first kept piece counters are not compared.
    ∷ edit (lent (1 ∷ 2 ∷ 3 ∷ 4 ∷ 5 ∷ 6 ∷ []) (pack 0 2 ∷ pack 0 2 ∷ 0 ∷ pack 2 2 ∷ pack 2 1 ∷ 0 ∷ pack 4 2 ∷ pack 3 1 ∷ 0 ∷ pack 6 1 ∷ pack 4 0 ∷ 3 ∷ []) 4) (bytes "h{a.b.}") (bytes "H{a.b.}")
    -- Of two older pieces with one start, the first whose counter agrees.
    ∷ edit (lent (1 ∷ 2 ∷ 3 ∷ 4 ∷ 5 ∷ 6 ∷ []) (pack 0 2 ∷ pack 0 2 ∷ 0 ∷ pack 2 0 ∷ pack 2 1 ∷ 4 ∷ pack 2 2 ∷ pack 3 2 ∷ 0 ∷ pack 4 1 ∷ pack 5 0 ∷ 0 ∷ []) 4) (bytes "h{a.}") (bytes "H{a.}")
    -- A counter of 2^32 is one.
    ∷ edit (lent (1 ∷ 2 ∷ 3 ∷ 4 ∷ 5 ∷ 6 ∷ []) (pack 0 2 ∷ pack 0 2 ∷ 0 ∷ pack 2 2 ∷ pack 2 2 ∷ 4294967296 ∷ pack 4 1 ∷ pack 4 0 ∷ 4294967296 ∷ []) 3) (bytes "h{a.}") (bytes "h{a.}")
    -- A counter above 2^32: 22.
    ∷ edit (lent (1 ∷ 2 ∷ 3 ∷ 4 ∷ 5 ∷ 6 ∷ []) (pack 0 2 ∷ pack 0 2 ∷ 0 ∷ pack 2 2 ∷ pack 2 2 ∷ 0 ∷ pack 4 1 ∷ pack 4 0 ∷ 4294967297 ∷ []) 3) (bytes "h{a.}") (bytes "h{a.}")
    -- An entry of which two words are lent is none: 22.
    ∷ edit (lent (1 ∷ 2 ∷ 3 ∷ 4 ∷ 5 ∷ 6 ∷ []) (pack 0 2 ∷ pack 0 2 ∷ 0 ∷ pack 2 2 ∷ pack 2 2 ∷ 0 ∷ pack 4 1 ∷ pack 4 0 ∷ []) 3) (bytes "h{a.}") (bytes "h{a.}")
    ∷ []

abbrev pub outcomes : List (List ℕ)
outcomes =
    -- The same text again: first 2, read 1.
    (1 ∷ 2 ∷ 1 ∷ 3 ∷ 104 ∷ 123 ∷ 97 ∷ 46 ∷ 0 ∷ 0 ∷ 0 ∷ 0 ∷ 0 ∷ 0 ∷ 2 ∷ 0 ∷ 2 ∷ 0 ∷ 2 ∷ 2 ∷ 2 ∷ 2 ∷ 0 ∷ 4 ∷ 1 ∷ 4 ∷ 0 ∷ 0 ∷ 0 ∷ 0 ∷ 0 ∷ 0 ∷ 0 ∷ [])
    -- A tail put before the block: first 0, read 2.
    ∷ (1 ∷ 0 ∷ 2 ∷ 2 ∷ 104 ∷ 123 ∷ 0 ∷ 0 ∷ 0 ∷ 0 ∷ 0 ∷ 0 ∷ 0 ∷ 0 ∷ 2 ∷ 0 ∷ 2 ∷ 0 ∷ 2 ∷ 1 ∷ 2 ∷ 0 ∷ 0 ∷ 0 ∷ 0 ∷ 0 ∷ 0 ∷ 0 ∷ 0 ∷ 0 ∷ 0 ∷ 0 ∷ 0 ∷ [])
    -- An edit inside the block: first 1, read 1.
    ∷ (1 ∷ 1 ∷ 1 ∷ 3 ∷ 104 ∷ 123 ∷ 120 ∷ 98 ∷ 46 ∷ 0 ∷ 0 ∷ 0 ∷ 0 ∷ 0 ∷ 2 ∷ 0 ∷ 2 ∷ 0 ∷ 2 ∷ 3 ∷ 2 ∷ 3 ∷ 0 ∷ 5 ∷ 1 ∷ 5 ∷ 0 ∷ 0 ∷ 0 ∷ 0 ∷ 0 ∷ 0 ∷ 0 ∷ [])
    -- An edit past the byte behind the tail: all are kept, none is read, first is the number of pieces.
    ∷ (1 ∷ 3 ∷ 0 ∷ 3 ∷ 104 ∷ 123 ∷ 97 ∷ 46 ∷ 0 ∷ 0 ∷ 0 ∷ 0 ∷ 0 ∷ 0 ∷ 2 ∷ 0 ∷ 2 ∷ 0 ∷ 2 ∷ 2 ∷ 2 ∷ 2 ∷ 0 ∷ 4 ∷ 1 ∷ 4 ∷ 0 ∷ 0 ∷ 0 ∷ 0 ∷ 0 ∷ 0 ∷ 0 ∷ [])
    -- A byte put before the first block: first 0, read 2, two kept behind.
    ∷ (1 ∷ 0 ∷ 2 ∷ 4 ∷ 104 ∷ 123 ∷ 120 ∷ 97 ∷ 46 ∷ 98 ∷ 46 ∷ 0 ∷ 0 ∷ 0 ∷ 2 ∷ 0 ∷ 2 ∷ 0 ∷ 2 ∷ 3 ∷ 2 ∷ 3 ∷ 0 ∷ 5 ∷ 2 ∷ 5 ∷ 2 ∷ 0 ∷ 7 ∷ 1 ∷ 7 ∷ 0 ∷ 0 ∷ [])
    -- The same without room for the words: 20 at the end of the kept block.
    ∷ (0 ∷ 20 ∷ 7 ∷ 104 ∷ 123 ∷ 97 ∷ 46 ∷ 98 ∷ 46 ∷ 0 ∷ 2 ∷ 0 ∷ 2 ∷ 0 ∷ 2 ∷ 2 ∷ 2 ∷ 2 ∷ 0 ∷ 4 ∷ 2 ∷ 4 ∷ 2 ∷ 0 ∷ 6 ∷ 1 ∷ 6 ∷ 0 ∷ 0 ∷ [])
    -- An added block without room for the tail's entry: 21 at the end of the kept tail.
    ∷ (0 ∷ 21 ∷ 7 ∷ 104 ∷ 123 ∷ 97 ∷ 46 ∷ 0 ∷ 0 ∷ 0 ∷ 0 ∷ 0 ∷ 0 ∷ 2 ∷ 0 ∷ 2 ∷ 0 ∷ 2 ∷ 2 ∷ 2 ∷ 2 ∷ 0 ∷ 4 ∷ 1 ∷ 4 ∷ 0 ∷ 0 ∷ [])
    -- A newer text that is refused.
    ∷ (0 ∷ 3 ∷ 5 ∷ 104 ∷ 123 ∷ 97 ∷ 46 ∷ 0 ∷ 0 ∷ 0 ∷ 0 ∷ 0 ∷ 0 ∷ 2 ∷ 0 ∷ 2 ∷ 0 ∷ 2 ∷ 2 ∷ 2 ∷ 2 ∷ 0 ∷ 4 ∷ 1 ∷ 4 ∷ 0 ∷ 0 ∷ 0 ∷ 0 ∷ 0 ∷ 0 ∷ 0 ∷ [])
    -- Altered words survive in the pieces that are kept.
    ∷ (1 ∷ 2 ∷ 1 ∷ 3 ∷ 1 ∷ 2 ∷ 3 ∷ 4 ∷ 0 ∷ 0 ∷ 0 ∷ 2 ∷ 0 ∷ 2 ∷ 0 ∷ 2 ∷ 2 ∷ 2 ∷ 2 ∷ 0 ∷ 4 ∷ 1 ∷ 4 ∷ 0 ∷ 0 ∷ [])
    -- Two older pieces with one start: the first such is kept.
    ∷ (1 ∷ 0 ∷ 1 ∷ 4 ∷ 72 ∷ 123 ∷ 3 ∷ 4 ∷ 5 ∷ 0 ∷ 0 ∷ 2 ∷ 0 ∷ 2 ∷ 0 ∷ 2 ∷ 0 ∷ 2 ∷ 1 ∷ 0 ∷ 2 ∷ 2 ∷ 3 ∷ 2 ∷ 0 ∷ 4 ∷ 1 ∷ 5 ∷ 0 ∷ 0 ∷ [])
    -- A head of length 0 is kept, and entry 1 is a block whatever its text.
    ∷ (1 ∷ 2 ∷ 1 ∷ 3 ∷ 1 ∷ 2 ∷ 3 ∷ 0 ∷ 0 ∷ 0 ∷ 0 ∷ 0 ∷ 0 ∷ 1 ∷ 0 ∷ 0 ∷ 4 ∷ 1 ∷ 2 ∷ 0 ∷ 4 ∷ 1 ∷ 3 ∷ 0 ∷ 0 ∷ [])
    -- A tail that has words, kept behind.
    ∷ (0 ∷ 20 ∷ 5 ∷ 1 ∷ 2 ∷ 3 ∷ 4 ∷ 5 ∷ 6 ∷ 0 ∷ 2 ∷ 0 ∷ 2 ∷ 0 ∷ 2 ∷ 2 ∷ 2 ∷ 1 ∷ 0 ∷ 4 ∷ 1 ∷ 3 ∷ 3 ∷ 0 ∷ [])
    -- One entry only.
    ∷ (0 ∷ 22 ∷ 0 ∷ 1 ∷ 2 ∷ 3 ∷ 4 ∷ 5 ∷ 6 ∷ 0 ∷ 2 ∷ 0 ∷ 2 ∷ 0 ∷ 2 ∷ 2 ∷ 2 ∷ 2 ∷ 0 ∷ 4 ∷ 1 ∷ 4 ∷ 0 ∷ 0 ∷ [])
    -- An entry count of 2^64 - 1.
    ∷ (0 ∷ 22 ∷ 0 ∷ 1 ∷ 2 ∷ 3 ∷ 4 ∷ 5 ∷ 6 ∷ 0 ∷ 2 ∷ 0 ∷ 2 ∷ 0 ∷ 2 ∷ 2 ∷ 2 ∷ 2 ∷ 0 ∷ 4 ∷ 1 ∷ 4 ∷ 0 ∷ 0 ∷ [])
    -- An entry that does not start where the last ended.
    ∷ (0 ∷ 22 ∷ 0 ∷ 1 ∷ 2 ∷ 3 ∷ 4 ∷ 5 ∷ 6 ∷ 0 ∷ 2 ∷ 0 ∷ 2 ∷ 0 ∷ 1 ∷ 2 ∷ 2 ∷ 2 ∷ 0 ∷ 4 ∷ 1 ∷ 4 ∷ 0 ∷ 0 ∷ [])
    -- 1 and 2 come before 22.
    ∷ (0 ∷ 2 ∷ 1 ∷ 1 ∷ 2 ∷ 3 ∷ 4 ∷ 5 ∷ 6 ∷ 0 ∷ 2 ∷ 0 ∷ 2 ∷ 0 ∷ 2 ∷ 2 ∷ 2 ∷ 2 ∷ 0 ∷ 4 ∷ 1 ∷ 4 ∷ 0 ∷ 0 ∷ [])
    -- The word behind a block is cut by the edit: that block is read again, first 1, read 2.
    ∷ (1 ∷ 1 ∷ 2 ∷ 4 ∷ 104 ∷ 123 ∷ 97 ∷ 46 ∷ 98 ∷ 120 ∷ 46 ∷ 0 ∷ 0 ∷ 0 ∷ 2 ∷ 0 ∷ 2 ∷ 0 ∷ 2 ∷ 2 ∷ 2 ∷ 2 ∷ 0 ∷ 4 ∷ 3 ∷ 4 ∷ 3 ∷ 0 ∷ 7 ∷ 1 ∷ 7 ∷ 0 ∷ 0 ∷ [])
    -- No room for the fourth entry, behind a head kept in front: 21.
    ∷ (0 ∷ 21 ∷ 8 ∷ 104 ∷ 123 ∷ 120 ∷ 97 ∷ 46 ∷ 0 ∷ 0 ∷ 0 ∷ 0 ∷ 0 ∷ 2 ∷ 0 ∷ 2 ∷ 0 ∷ 2 ∷ 3 ∷ 2 ∷ 3 ∷ 0 ∷ 5 ∷ 1 ∷ 5 ∷ 0 ∷ 0 ∷ [])
    -- The word behind a block is `addrspace`: that block is read again.
    ∷ (1 ∷ 1 ∷ 2 ∷ 4 ∷ 104 ∷ 123 ∷ 97 ∷ 46 ∷ 97 ∷ 100 ∷ 100 ∷ 114 ∷ 115 ∷ 112 ∷ 97 ∷ 99 ∷ 101 ∷ 32 ∷ 98 ∷ 46 ∷ 0 ∷ 0 ∷ 0 ∷ 0 ∷ 0 ∷ 0 ∷ 0 ∷ 0 ∷ 0 ∷ 0 ∷ 0 ∷ 0 ∷ 0 ∷ 0 ∷ 0 ∷ 2 ∷ 0 ∷ 2 ∷ 0 ∷ 2 ∷ 2 ∷ 2 ∷ 2 ∷ 0 ∷ 4 ∷ 12 ∷ 4 ∷ 12 ∷ 0 ∷ 16 ∷ 1 ∷ 16 ∷ 0 ∷ 0 ∷ [])
    -- The older text is refused: a full reading leaves zeros.
    ∷ (9 ∷ 0 ∷ 3 ∷ 5 ∷ 0 ∷ 0 ∷ 0 ∷ 0 ∷ 0 ∷ 0 ∷ 0 ∷ 0 ∷ 0 ∷ 0 ∷ 0 ∷ 0 ∷ 0 ∷ 0 ∷ 0 ∷ 0 ∷ 0 ∷ 0 ∷ 0 ∷ 0 ∷ [])
    -- Reading begins with the counter of the old piece at which it starts: first 2, read 1.
    ∷ (1 ∷ 2 ∷ 1 ∷ 4 ∷ 104 ∷ 123 ∷ 43 ∷ 46 ∷ 120 ∷ 32 ∷ 98 ∷ 46 ∷ 0 ∷ 0 ∷ 0 ∷ 2 ∷ 0 ∷ 2 ∷ 0 ∷ 2 ∷ 2 ∷ 2 ∷ 2 ∷ 0 ∷ 4 ∷ 4 ∷ 4 ∷ 4 ∷ 1 ∷ 8 ∷ 1 ∷ 8 ∷ 0 ∷ 1 ∷ [])
    -- An edit moves the counter: no old piece agrees, and all behind it are read, first 1, read 3.
    ∷ (1 ∷ 1 ∷ 3 ∷ 4 ∷ 104 ∷ 123 ∷ 120 ∷ 43 ∷ 46 ∷ 98 ∷ 46 ∷ 0 ∷ 0 ∷ 0 ∷ 2 ∷ 0 ∷ 2 ∷ 0 ∷ 2 ∷ 3 ∷ 2 ∷ 3 ∷ 0 ∷ 5 ∷ 2 ∷ 5 ∷ 2 ∷ 1 ∷ 7 ∷ 1 ∷ 7 ∷ 0 ∷ 1 ∷ [])
    -- The counter catches up behind the next block: first 1, read 2, two kept behind.
    ∷ (1 ∷ 1 ∷ 2 ∷ 5 ∷ 104 ∷ 123 ∷ 120 ∷ 43 ∷ 46 ∷ 61 ∷ 46 ∷ 99 ∷ 46 ∷ 0 ∷ 2 ∷ 0 ∷ 2 ∷ 0 ∷ 2 ∷ 3 ∷ 2 ∷ 3 ∷ 0 ∷ 5 ∷ 2 ∷ 5 ∷ 2 ∷ 1 ∷ 7 ∷ 2 ∷ 7 ∷ 2 ∷ 9 ∷ 9 ∷ 1 ∷ 9 ∷ 0 ∷ 9 ∷ [])
    -- The head's counter is handed on: first 0, read 4.
    ∷ (1 ∷ 0 ∷ 4 ∷ 4 ∷ 43 ∷ 104 ∷ 123 ∷ 97 ∷ 46 ∷ 98 ∷ 46 ∷ 0 ∷ 0 ∷ 0 ∷ 3 ∷ 0 ∷ 3 ∷ 0 ∷ 3 ∷ 2 ∷ 3 ∷ 2 ∷ 1 ∷ 5 ∷ 2 ∷ 5 ∷ 2 ∷ 1 ∷ 7 ∷ 1 ∷ 7 ∷ 0 ∷ 1 ∷ [])
    -- Older counters that no reading left: those kept in front stay, and reading begins with 7.
    ∷ (1 ∷ 1 ∷ 2 ∷ 3 ∷ 1 ∷ 2 ∷ 120 ∷ 98 ∷ 46 ∷ 0 ∷ 0 ∷ 2 ∷ 0 ∷ 2 ∷ 5 ∷ 2 ∷ 3 ∷ 2 ∷ 3 ∷ 7 ∷ 5 ∷ 1 ∷ 5 ∷ 0 ∷ 7 ∷ [])
    -- Behind the first kept piece counters are not compared.
    ∷ (1 ∷ 0 ∷ 1 ∷ 4 ∷ 72 ∷ 123 ∷ 3 ∷ 4 ∷ 0 ∷ 0 ∷ 0 ∷ 2 ∷ 0 ∷ 2 ∷ 0 ∷ 2 ∷ 2 ∷ 2 ∷ 1 ∷ 0 ∷ 4 ∷ 2 ∷ 3 ∷ 1 ∷ 0 ∷ 6 ∷ 1 ∷ 4 ∷ 0 ∷ 3 ∷ [])
    -- Of two older pieces with one start, the first whose counter agrees.
    ∷ (1 ∷ 0 ∷ 1 ∷ 3 ∷ 72 ∷ 123 ∷ 4 ∷ 5 ∷ 0 ∷ 0 ∷ 0 ∷ 2 ∷ 0 ∷ 2 ∷ 0 ∷ 2 ∷ 2 ∷ 2 ∷ 2 ∷ 0 ∷ 4 ∷ 1 ∷ 4 ∷ 0 ∷ 0 ∷ 0 ∷ 0 ∷ 0 ∷ 0 ∷ 0 ∷ [])
    -- A counter of 2^32 is one.
    ∷ (1 ∷ 2 ∷ 1 ∷ 3 ∷ 1 ∷ 2 ∷ 3 ∷ 4 ∷ 0 ∷ 0 ∷ 0 ∷ 2 ∷ 0 ∷ 2 ∷ 0 ∷ 2 ∷ 2 ∷ 2 ∷ 2 ∷ 4294967296 ∷ 4 ∷ 1 ∷ 4 ∷ 0 ∷ 4294967296 ∷ [])
    -- A counter above 2^32: 22.
    ∷ (0 ∷ 22 ∷ 0 ∷ 1 ∷ 2 ∷ 3 ∷ 4 ∷ 5 ∷ 6 ∷ 0 ∷ 2 ∷ 0 ∷ 2 ∷ 0 ∷ 2 ∷ 2 ∷ 2 ∷ 2 ∷ 0 ∷ 4 ∷ 1 ∷ 4 ∷ 0 ∷ 4294967297 ∷ [])
    -- An entry of which two words are lent is none: 22.
    ∷ (0 ∷ 22 ∷ 0 ∷ 1 ∷ 2 ∷ 3 ∷ 4 ∷ 5 ∷ 6 ∷ 0 ∷ 2 ∷ 0 ∷ 2 ∷ 0 ∷ 2 ∷ 2 ∷ 2 ∷ 2 ∷ 0 ∷ 4 ∷ 1 ∷ 4 ∷ 0 ∷ [])
    ∷ []

pub edit_outcomes : map outcome edits ≡ outcomes
unfolding outcome
edit_outcomes = refl
