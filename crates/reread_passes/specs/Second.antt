-- The second pass of a re-reading as the code has it: the pieces that the first pass found are read again, and written.
-- Assumes nothing.
use Rattle.std.specs.Prelude.{◌≡◌, List, ◌++◌, ℕ, ◌+◌, ◌-◌, ◌*◌, ◌≤◌, ◌<◌, length, take, drop}
use Rattle.grammar.specs.Function.{head_at, block_at}
use Rattle.reread_kept.specs.Place.{Taken, read_size, read_words, read_entries, reads}
use Rattle.records.specs.Limits.{half_limit, entry_words}

-- the pieces of a text from number k on up to number i, where piece k starts at pos and with the counter d
abbrev pub read : (newer : List ℕ) (k pos d i : ℕ) → List Taken
read newer k pos d i = reads head_at block_at k pos d (i - k) newer

-- From `word` up to `to` they fit the text and the arrays.
pub record Fit (newer : List ℕ) (W D k pos word d i to : ℕ) : Type 0 where
  pub number : i ≡ k + length (read newer k pos d i)
  pub start : k ≡ 0 → pos ≡ 0
  pub begin : k ≡ 0 → d ≡ 0
  pub place : pos + read_size (read newer k pos d i) ≤ length newer
  pub first : to ≡ word + length (read_words (read newer k pos d i))
  pub in_words : to ≤ W
  pub small : k < i → to < half_limit
  pub in_dir : i * entry_words ≤ D

-- They have been written there, and nothing else.
pub record Wrote (newer : List ℕ) (k pos word d i to : ℕ) (words dir words' dir' : List ℕ) : Type 0 where
  pub front : take to words' ≡ take word words ++ read_words (read newer k pos d i)
  pub behind : drop to words' ≡ drop to words
  pub long : length words' ≡ length words
  pub entries : dir' ≡ (take (k * entry_words) dir ++ read_entries pos word (read newer k pos d i)) ++ drop (i * entry_words) dir
  pub dir_long : length dir' ≡ length dir
