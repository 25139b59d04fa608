-- The first pass of a re-reading as the code has it. Nothing is written, so words and directory are as they stood.
-- Assumes nothing.
use Rattle.std.specs.Prelude.{◌≡◌, List, ℕ, zero, suc, ◌+◌, ◌-◌, ◌*◌, ◌≤◌, ◌<◌, length, take, drop, Result, Ok, Err}
use Rattle.records.specs.Limits.{half_limit, text_limit, entry_words}
use Rattle.records.specs.Pieces.{Run, map_run, Source, size, old_sizes, old_words, Verdict, refused, judge, common_end, again, behind_front, keeps, rest, judge_again}
use Rattle.grammar.specs.Function.{head_at, block_at}
use Rattle.piece_directory.specs.Olds.{olds_of, begins, Chained, Passed}
use Rattle.reread_kept.specs.Place.{Taken, read_then, read_size, read_words, Settled}
use Rattle.reread_passes.specs.Numbered.{Takes}
use Rattle.records.specs.declared.Refusal.{Refusal}
use Rattle.reread_passes.specs.declared.first.Plan.{Plan}

-- both texts, how many words are lent, and the older directory's n entries
module _ (older newer : List ℕ) (W n : ℕ) (dir : List ℕ) where
  -- how many old pieces are kept in front, where they end in text and words, and the counter with which reading begins behind them
  abbrev pub kept : ℕ
  kept = keeps head_at block_at older newer (olds_of n dir)

  abbrev pub kept_size : ℕ
  kept_size = old_sizes (take kept (olds_of n dir))

  abbrev pub kept_words : ℕ
  kept_words = old_words (take kept (olds_of n dir))

  abbrev pub kept_counter : ℕ
  kept_counter = begins kept (olds_of n dir)

  -- the pieces behind them, and what the questions say of these
  abbrev pub behind : Run Source
  behind = rest head_at block_at older newer (olds_of n dir)

  abbrev pub said : Verdict
  said = judge_again head_at block_at W (length dir) older newer (olds_of n dir)

  -- what is left where piece i is next, at pos and with the counter d
  abbrev pub onward : (i pos d : ℕ) → Run Source
  onward zero pos d = behind_front head_at block_at (common_end older newer) (length older) (olds_of n dir) 0 newer
  onward (suc i) pos d = again head_at block_at (common_end older newer) (length older) (olds_of n dir) d (drop pos newer)

  -- what re-reading goes by: question 22 does not refuse, and the newer text is not too long
  pub record Given : Type 0 where
    pub chained : Chained (length older) W n dir
    pub small : length newer ≤ text_limit

  -- The pieces fs have been read; i, pos and `word` are number, start and first word of the next one, and d is the counter there. Old starts are
  -- looked for from piece j on.
  pub record Dry (i pos word d j : ℕ) : Type 0 where
    pub fs : List Taken
    pub run : behind ≡ read_then fs (onward i pos d)
    pub verdict : said ≡ judge W (length dir) i pos word (map_run size (onward i pos d))
    pub number : i ≡ kept + length fs
    pub place : pos ≡ kept_size + read_size fs
    pub first : word ≡ kept_words + length (read_words fs)
    pub start : i ≡ 0 → pos ≡ 0
    pub begin : i ≡ 0 → d ≡ 0
    pub inside : pos ≤ length newer
    pub from : j ≤ n
    pub passed : Passed (olds_of n dir) j (length older - (length newer - pos))
    pub in_words : word ≤ W
    pub in_dir : i * entry_words ≤ length dir

  -- Piece i was read there, with length e and m words, and with the counter d2 behind it: it is a head or a block.
  pub record Took (i pos word d j e m d2 : ℕ) : Type 0 where
    pub dry : Dry i pos word d j
    pub ws : List ℕ
    pub is : Takes newer i pos d e d2 ws
    pub many : m ≡ length ws

  -- No question refuses, and the old pieces from number j on are kept behind.
  pub record Planned (i pos word j : ℕ) : Type 0 where
    pub settled : Settled W (length dir) (length newer) said behind n dir kept kept_size kept_words i pos word j
    pub small : kept < i → word < half_limit

  -- What follows the pieces read up to number i, place pos, `word` and the counter d: one more, old ones, or a refusal.
  abbrev pub Follows : (i pos word d : ℕ) → Result (Result ℕ ℕ) Refusal → Type 0
  Follows i pos word d (Ok (Err j)) = Dry i pos word d j
  Follows i pos word d (Ok (Ok j)) = Planned i pos word j
  Follows i pos word d (Err r) = said ≡ refused r.question r.place

  abbrev pub Ends : Result Plan Refusal → Type 0
  Ends (Ok p) = Planned p.behind.number p.behind.pos p.behind.word p.from
  Ends (Err r) = said ≡ refused r.question r.place
