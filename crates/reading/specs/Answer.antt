-- What the cases of each answer mean: 01's number and values.
-- Assumes nothing.
use Rattle.std.specs.Prelude.{◌≡◌, List, [], ℕ, length, Result, Ok, Err}
use Rattle.records.specs.Pieces.{Left, left, refused_at, count, Again, again_left, text_asked, fine, pad}
use Rattle.records.specs.declared.Refusal.{Refusal}
use Rattle.grammar.specs.Function.{reading_of}
use Rattle.reading_full.specs.Full.{Whole}
use Rattle.reading_full.specs.declared.Written.{Written}
use Rattle.reading.specs.declared.Renewed.{Renewed}

-- A full reading: the answer, and both arrays as they are left.
abbrev pub left_by : Result ℕ Refusal → List ℕ → List ℕ → Left
left_by (Ok n) words dir = left (count n) words dir
left_by (Err r) words dir = left (refused_at r.question r.place) words dir

-- A re-reading: also the number of the first piece read, and how many are read. "On refusal both reports are 0."
abbrev pub left_again : Result Renewed Refusal → List ℕ → List ℕ → Again
left_again (Ok r) words dir = again_left (left (count r.entries) words dir) r.first r.read
left_again (Err r) words dir = again_left (left (refused_at r.question r.place) words dir) 0 0

-- All questions of a full reading in arrays of those lengths: the pieces stand in front of both; or the reading is refused.
abbrev pub AllAsked : (text : List ℕ) (W D : ℕ) (words dir : List ℕ) → Result Written Refusal → Type 0
AllAsked text W D words dir (Ok n) = (fine ≡ text_asked text) × Whole text W D n.entries n.words words dir
AllAsked text W D words dir (Err r) = (left (refused_at r.question r.place) (pad W []) (pad D []) ≡ reading_of W D text) × (length words ≡ W) × (length dir ≡ D)
