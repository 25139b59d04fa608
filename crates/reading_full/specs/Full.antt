-- A full reading as the code has it, piece by piece.
-- Assumes nothing.
use Rattle.std.specs.Prelude.{◌≡◌, List, ℕ, ◌+◌, ◌*◌, ◌≤◌, ◌<◌, length, take, drop, set, Result, Ok, Err}
use Rattle.records.specs.Limits.{half_limit, entry_words}
use Rattle.records.specs.Pieces.{Run, done, map_run, Verdict, fine, refused, judge, reading, blocks}
use Rattle.grammar.specs.Function.{head_at, block_at}
use Rattle.reread_kept.specs.Place.{Taken, full_then, read_size, read_words, read_entries}
use Rattle.reading_full.specs.declared.Written.{Written}
use Rattle.records.specs.Words.{pack}
use Rattle.records.specs.declared.Refusal.{Refusal}
use Rattle.piece_directory.specs.declared.pieces.Spot.{Spot}
use Rattle.piece_directory.specs.declared.pieces.Size.{Size}
use Rattle.piece_room.specs.Rooms.{room_of, after_room}

-- The pieces of a text, and what questions 20 and 21 and the readers say of them, in arrays of those lengths.
abbrev pub pieces : List ℕ → Run (List ℕ)
pieces text = reading head_at block_at text

abbrev pub said : (W D : ℕ) → List ℕ → Verdict
said W D text = judge W D 0 0 0 (map_run length (pieces text))

-- The pieces fs have been read; i, pos and `word` are number, start and first word of the next one, which is a block or the tail, and d is the
-- counter there. Their words and entries stand in front of the arrays.
pub record Come (text : List ℕ) (W D i pos word d : ℕ) (words dir : List ℕ) : Type 0 where
  pub fs : List Taken
  pub run : pieces text ≡ full_then fs (blocks head_at block_at d (drop pos text))
  pub verdict : said W D text ≡ judge W D i pos word (map_run length (blocks head_at block_at d (drop pos text)))
  pub number : i ≡ length fs
  pub place : pos ≡ read_size fs
  pub first : word ≡ length (read_words fs)
  pub inside : pos ≤ length text
  pub in_words : word ≤ W
  pub small : word < half_limit
  pub in_dir : i * entry_words ≤ D
  pub long_words : length words ≡ W
  pub long_dir : length dir ≡ D
  pub words_are : take word words ≡ read_words fs
  pub entries_are : take (i * entry_words) dir ≡ read_entries 0 0 fs

-- All pieces have been read, i of them; `word` is behind the last of their words.
pub record Whole (text : List ℕ) (W D i word : ℕ) (words dir : List ℕ) : Type 0 where
  pub fs : List Taken
  pub run : pieces text ≡ full_then fs done
  pub is_fine : said W D text ≡ fine
  pub number : i ≡ length fs
  pub first : word ≡ length (read_words fs)
  pub in_dir : i * entry_words ≤ D
  pub long_words : length words ≡ W
  pub long_dir : length dir ≡ D
  pub words_are : take word words ≡ read_words fs
  pub entries_are : take (i * entry_words) dir ≡ read_entries 0 0 fs

-- A question refuses.
pub record Stopped (text : List ℕ) (W D q p : ℕ) (words dir : List ℕ) : Type 0 where
  pub is : said W D text ≡ refused q p
  pub long_words : length words ≡ W
  pub long_dir : length dir ≡ D

abbrev pub Ended : (text : List ℕ) (W D : ℕ) (words dir : List ℕ) → Result Written Refusal → Type 0
Ended text W D words dir (Ok n) = Whole text W D n.entries n.words words dir
Ended text W D words dir (Err r) = Stopped text W D r.question r.place words dir

-- A piece has room in W words and in a directory, and has its entry there; or a question refuses, and the directory is as it was.
abbrev pub Entered : (W : ℕ) → Spot → Size → (dir dir' : List ℕ) → Result (Unit {0}) Refusal → Type 0
Entered W s z dir dir' (Ok _) =
    (room_of W (length dir) s.number s.word z.words ≡ Ok tt)
    × (dir' ≡ set (set (set dir (s.number * entry_words) (pack s.pos z.bytes)) (s.number * entry_words + 1) (pack s.word z.words)) (s.number * entry_words + 2) s.counter)
Entered W s z dir dir' (Err r) =
    ((v : Verdict) → after_room (room_of W (length dir) s.number s.word z.words) (s.pos + z.bytes) v ≡ refused r.question r.place) × (dir' ≡ dir)
