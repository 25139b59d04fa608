-- Reading a text by pieces, and re-reading after an edit, over any reader of one piece. Definitions only.
-- Each piece hands a value on to the next: the counter (02: M-106). Here it is any number; the grammar says what it counts.
use Rattle.std.specs.Prelude.{Bool, true, false, ◌&&◌, not, List, [], ◌∷◌, ◌++◌, reverse, ℕ, zero, suc, ◌+◌, ◌-◌, ◌*◌, ltb, leb, eqb, length, take, drop, replicate}
use Rattle.std.proofs.Math.Option.{Option, none, some}
use Rattle.program.specs.Bytes.{bytes}
use Rattle.program.specs.Class.{is_word}
use Rattle.program.specs.Prog.{ends}
use Rattle.records.specs.Limits.{half_limit, text_limit, byte_limit, counter_limit, entry_words}
use Rattle.records.specs.Words.{pack, hi, lo}
use Rattle.records.specs.Questions.{q_length, q_ascii, q_words, q_entries, q_older}

-- What reading at the start of a suffix of the text gives.
pub data HeadRead : Type 0 where
  head : ℕ → ℕ → List ℕ → HeadRead  -- length, the counter behind it, words
  bad_head : ℕ → ℕ → HeadRead  -- number, place from the suffix's start

pub data BlockRead : Type 0 where
  block : ℕ → ℕ → List ℕ → BlockRead
  tail : ℕ → BlockRead
  bad_block : ℕ → ℕ → BlockRead

-- Pieces in order, each a length, the counter at its start and something (its words, their number, or where they come from), and how they end.
pub data Run (A : Type 0) : Type 0 where
  done : Run A
  stop : ℕ → ℕ → Run A  -- number, place from the end of the last piece
  item : ℕ → ℕ → A → Run A → Run A

unfoldable pub map_run : {A B : Type 0} → (A → B) → Run A → Run B
map_run f done = done
map_run f (stop q p) = stop q p
map_run f (item e c a r) = item e c (f a) (map_run f r)

-- Questions 1 and 2.
pub data Verdict : Type 0 where
  fine : Verdict
  refused : ℕ → ℕ → Verdict

unfoldable pub first_high : ℕ → List ℕ → Verdict
first_high i [] = fine
first_high i (x ∷ xs) = elim (leb x byte_limit) [ true ↦ first_high (suc i) xs | false ↦ refused q_ascii i ]

unfoldable pub text_asked : List ℕ → Verdict
text_asked text = elim (leb (length text) text_limit) [ true ↦ first_high 0 text | false ↦ refused q_length text_limit ]

-- Questions 20 and 21, asked of the pieces of a run in order; the run's own refusal in its turn.
-- `words`, `dir`: the lengths of the lent arrays. `i`, `pos`, `at`: number, start and first word of the next piece.
unfoldable pub judge : (words dir i pos at : ℕ) → Run ℕ → Verdict
judge words dir i pos at done = fine
judge words dir i pos at (stop q p) = refused q (pos + p)
judge words dir i pos at (item e c n r) =
    elim (leb (at + n) words && ltb (at + n) half_limit) [
      | true ↦ elim (leb (i * entry_words + entry_words) dir) [ true ↦ judge words dir (suc i) (pos + e) (at + n) r | false ↦ refused q_entries (pos + e) ]
      | false ↦ refused q_words (pos + e)
    ]

-- The arrays that a list of pieces leaves.
unfoldable pub pad : ℕ → List ℕ → List ℕ
pad n xs = xs ++ replicate (n - length xs) 0

unfoldable pub all_words : Run (List ℕ) → List ℕ
all_words done = []
all_words (stop q p) = []
all_words (item e c ws r) = ws ++ all_words r

-- "Directory entries gain a third word holding the counter at the piece's start" (02: M-106).
unfoldable pub entries : (pos at : ℕ) → Run (List ℕ) → List ℕ
entries pos at done = []
entries pos at (stop q p) = []
entries pos at (item e c ws r) = pack pos e ∷ pack at (length ws) ∷ c ∷ entries (pos + e) (at + length ws) r

unfoldable pub count_run : {A : Type 0} → Run A → ℕ
count_run done = 0
count_run (stop q p) = 0
count_run (item e c a r) = suc (count_run r)

-- What a call leaves: both arrays whole, and the answer. A refused full reading leaves zeros.
pub data Answer : Type 0 where
  refused_at : ℕ → ℕ → Answer  -- number, place
  count : ℕ → Answer  -- entry count

pub data Left : Type 0 where
  left : Answer → List ℕ → List ℕ → Left  -- answer, words, directory

unfoldable pub leave : (words dir : ℕ) → Verdict → Run (List ℕ) → Left
leave words dir fine r = left (count (count_run r)) (pad words (all_words r)) (pad dir (entries 0 0 r))
leave words dir (refused q p) r = left (refused_at q p) (pad words []) (pad dir [])

-- If the first verdict is fine, the second decides.
unfoldable pub and_then : Verdict → Verdict → Verdict
and_then fine v = v
and_then (refused q p) v = refused q p

-- The older directory, taken apart: each piece's length, first word, number of words and counter. `none`: question 22 refuses.
pub data Old : Type 0 where
  old : ℕ → ℕ → ℕ → ℕ → Old

unfoldable pub cons_old : Old → Option (List Old) → Option (List Old)
cons_old o none = none
cons_old o (some os) = some (o ∷ os)

unfoldable pub chain : (text words : ℕ) (n pos at : ℕ) → List ℕ → Option (List Old)
chain text words zero pos at dir = some []
chain text words (suc n) pos at [] = none
chain text words (suc n) pos at (x ∷ []) = none
chain text words (suc n) pos at (x ∷ y ∷ []) = none
-- "The older directory check asks that this word be at most 2^32" (02: M-106).
chain text words (suc n) pos at (x ∷ y ∷ c ∷ dir) =
    elim (eqb (hi x) pos && eqb (hi y) at && leb (pos + lo x) text && leb (at + lo y) words && leb c counter_limit) [
      | true ↦ cons_old (old (lo x) at (lo y) c) (chain text words n (pos + lo x) (at + lo y) dir)
      | false ↦ none
    ]

unfoldable pub olds : (text words n : ℕ) → List ℕ → Option (List Old)
olds text words n dir = elim (leb 2 n) [ true ↦ chain text words n 0 0 dir | false ↦ none ]

-- "let a be the longest common prefix of older and newer, c the longest common suffix of what remains of both"
unfoldable pub common : (older newer : List ℕ) → List ℕ
common [] ys = []
common (x ∷ xs) [] = []
common (x ∷ xs) (y ∷ ys) = elim (eqb x y) [ true ↦ x ∷ common xs ys | false ↦ [] ]

unfoldable pub end_behind : (a : ℕ) (older newer : List ℕ) → ℕ
end_behind a older newer = length (common (reverse (drop a older)) (reverse (drop a newer)))

unfoldable pub common_end : (older newer : List ℕ) → ℕ
common_end older newer = end_behind (length (common older newer)) older newer

-- `leads w s`: s begins with exactly the word w and a byte that is no letter, digit or `_`.
unfoldable pub leads : List ℕ → List ℕ → Bool
leads [] [] = false
leads [] (x ∷ xs) = not (is_word x)
leads (w ∷ ws) [] = false
leads (w ∷ ws) (x ∷ xs) = eqb w x && leads ws xs

unfoldable pub addrspace : List ℕ
addrspace = bytes "addrspace"

-- The text from a block's end, as far as it is common to both texts, settles that end.
unfoldable pub closes : List ℕ → Bool
closes s = ends s && not (leads addrspace s)

-- How many pieces are kept in front. `s`: the common text from the first piece's start on.
unfoldable pub kept_rest : List ℕ → List Old → ℕ
kept_rest s [] = 0
kept_rest s (old e f n c ∷ []) = elim (ltb e (length s)) [ true ↦ 1 | false ↦ 0 ]
kept_rest s (old e f n c ∷ o ∷ os) = elim (closes (drop e s)) [ true ↦ suc (kept_rest (drop e s) (o ∷ os)) | false ↦ 0 ]

unfoldable pub kept_front : List ℕ → List Old → ℕ
kept_front s [] = 0
kept_front s (old e f n c ∷ os) = elim (ltb e (length s)) [ true ↦ suc (kept_rest (drop e s) os) | false ↦ 0 ]

-- Where the words of a piece come from.
pub data Source : Type 0 where
  fresh : List ℕ → Source
  kept : ℕ → ℕ → Source  -- first word, number of words, before the call

unfoldable pub size : Source → ℕ
size (fresh ws) = length ws
size (kept f n) = n

unfoldable pub source_words : List ℕ → Source → List ℕ
source_words words (fresh ws) = ws
source_words words (kept f n) = take n (drop f words)

unfoldable pub is_fresh : Source → ℕ
is_fresh (fresh ws) = 1
is_fresh (kept f n) = 0

unfoldable pub sum_run : Run ℕ → ℕ
sum_run done = 0
sum_run (stop q p) = 0
sum_run (item e c n r) = n + sum_run r

-- Old pieces as a run, in front of another. "A kept piece keeps its third word" (02: M-106).
unfoldable pub before : List Old → Run Source → Run Source
before [] r = r
before (old e f n c ∷ os) r = item e c (kept f n) (before os r)

unfoldable pub old_sizes : List Old → ℕ
old_sizes [] = 0
old_sizes (old e f n c ∷ os) = e + old_sizes os

unfoldable pub old_words : List Old → ℕ
old_words [] = 0
old_words (old e f n c ∷ os) = n + old_words os

-- the counter at the start of the first of them
unfoldable pub first_counter : List Old → ℕ
first_counter [] = 0
first_counter (old e f n c ∷ os) = c

-- The old pieces from the first that starts at `target` with the counter d: "kept only where the counter agrees too" (02: M-106).
unfoldable pub from : (target d pos : ℕ) → List Old → Option (List Old)
from target d pos [] = none
from target d pos (old e f n c ∷ os) = elim (eqb pos target && eqb c d) [ true ↦ some (old e f n c ∷ os) | false ↦ from target d (pos + e) os ]

-- Old pieces but the head, with the head's end.
unfoldable pub from_blocks : (target d : ℕ) → List Old → Option (List Old)
from_blocks target d [] = none
from_blocks target d (old e f n c ∷ os) = from target d e os

-- The old pieces that are kept behind, where s is the newer text behind a head or block just read, and d the counter there.
unfoldable pub joins : (c olen : ℕ) (os : List Old) (d : ℕ) → List ℕ → Option (List Old)
joins c olen os d s = elim (leb (length s) c) [ true ↦ from_blocks (olen - length s) d os | false ↦ none ]

-- What re-reading leaves: arrays and answer, the number of the first piece read, and how many are read.
pub data Again : Type 0 where
  again_left : Left → ℕ → ℕ → Again

unfoldable pub left_of : Again → Left
left_of (again_left l a b) = l

-- "A refused edit, 22 included, now leaves words and directory unchanged" (02: M-113).
unfoldable pub leave_again : (words dir : List ℕ) → Verdict → ℕ → Run Source → Run Source → Again
leave_again words dir fine k r all = again_left (leave (length words) (length dir) fine (map_run (source_words words) all)) k (sum_run (map_run is_fresh r))
leave_again words dir (refused q p) k r all = again_left (left (refused_at q p) words dir) 0 0

-- `block_at` is told the counter at the piece's start.
module _ (head_at : List ℕ → HeadRead) (block_at : ℕ → List ℕ → BlockRead) where
  -- A full reading. `d`: the counter there.
  unfoldable pub blocks_in : (n d : ℕ) → List ℕ → Run (List ℕ)
  blocks_in zero d s = done
  blocks_in (suc n) d s =
      elim (block_at d s) [
        | block e d2 ws ↦ item e d ws (blocks_in n d2 (drop e s))
        | tail e ↦ item e d [] done
        | bad_block q p ↦ stop q p
      ]

  unfoldable pub blocks : ℕ → List ℕ → Run (List ℕ)
  blocks d s = blocks_in (suc (length s)) d s

  unfoldable pub reading : List ℕ → Run (List ℕ)
  reading s = elim (head_at s) [ head e d ws ↦ item e 0 ws (blocks d (drop e s)) | bad_head q p ↦ stop q p ]

  unfoldable pub full_verdict : (words dir : ℕ) → List ℕ → Verdict
  full_verdict words dir text = and_then (text_asked text) (judge words dir 0 0 0 (map_run length (reading text)))

  unfoldable pub full : (words dir : ℕ) → List ℕ → Left
  full words dir text = leave words dir (full_verdict words dir text) (reading text)

  -- Reading again. `c`: the common end. `olen`: the older text's length. `os`: the older pieces. `d`: the counter there.
  -- From a block on, behind what is kept in front or behind a piece just read that no old piece joins.
  unfoldable pub again_in : (c olen : ℕ) (os : List Old) → (n d : ℕ) → List ℕ → Run Source
  again_in c olen os zero d s = done
  again_in c olen os (suc n) d s =
      elim (block_at d s) [
        | block e d2 ws ↦ item e d (fresh ws) (elim (joins c olen os d2 (drop e s)) [ some ps ↦ before ps done | none ↦ again_in c olen os n d2 (drop e s) ])
        | tail e ↦ item e d (fresh []) done
        | bad_block q p ↦ stop q p
      ]

  unfoldable pub again : (c olen : ℕ) (os : List Old) (d : ℕ) → List ℕ → Run Source
  again c olen os d s = again_in c olen os (suc (length s)) d s

  -- The pieces that are not kept in front. `k`: how many are. "Reading begins with that of the old piece it starts at, and with 0 at the head"
  -- (02: M-106).
  unfoldable pub behind_front : (c olen : ℕ) (os : List Old) (k : ℕ) → List ℕ → Run Source
  behind_front c olen os zero newer =
      elim (head_at newer) [
        | head e d ws ↦ item e 0 (fresh ws) (elim (joins c olen os d (drop e newer)) [ some ps ↦ before ps done | none ↦ again c olen os d (drop e newer) ])
        | bad_head q p ↦ stop q p
      ]
  behind_front c olen os (suc k) newer =
      elim (ltb (suc k) (length os)) [ true ↦ again c olen os (first_counter (drop (suc k) os)) (drop (old_sizes (take (suc k) os)) newer) | false ↦ done ]

  -- Re-reading, the older directory taken apart. Nothing here sees what the older words hold.
  unfoldable pub keeps : (older newer : List ℕ) → List Old → ℕ
  keeps older newer os = kept_front (common older newer) os

  unfoldable pub rest : (older newer : List ℕ) → List Old → Run Source
  rest older newer os = behind_front (common_end older newer) (length older) os (keeps older newer os) newer

  unfoldable pub judge_again : (words dir : ℕ) (older newer : List ℕ) → List Old → Verdict
  judge_again words dir older newer os =
      judge words dir (keeps older newer os) (old_sizes (take (keeps older newer os) os)) (old_words (take (keeps older newer os) os)) (map_run size (rest older newer os))

  unfoldable pub reread_of : (words dir : List ℕ) (older newer : List ℕ) → Option (List Old) → Again
  reread_of words dir older newer none = leave_again words dir (and_then (text_asked newer) (refused q_older 0)) 0 done done
  reread_of words dir older newer (some os) =
      leave_again words dir (and_then (text_asked newer) (judge_again (length words) (length dir) older newer os))
      (keeps older newer os) (rest older newer os) (before (take (keeps older newer os) os) (rest older newer os))

  unfoldable pub reread : (words dir : List ℕ) (n : ℕ) (older newer : List ℕ) → Again
  reread words dir n older newer = reread_of words dir older newer (olds (length older) (length words) n dir)
