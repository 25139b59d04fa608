-- What the calls from outside report, in 01's numbers.
-- Assumes nothing.
use Rattle.std.specs.Prelude.{List, ℕ}
use Rattle.std.proofs.Math.Option.{Option, none, some}
use Rattle.records.specs.Questions.{q_output}
use Rattle.records.specs.Pieces.{Answer, refused_at, count, Left, left, Again, again_left}
use Rattle.trees.specs.Steps.{Part, part}
use Rattle.map_spec.specs.Buffer.{Outcome, drawn, too_long}
use Rattle.channel_spec.specs.Told.{Told, Answer as told, Refused as refused}
use Rattle.channel_spec.specs.Answers.{answer_none}

-- the question that refuses, or 0; the place, 0 where it is accepted; the entry count, 0 where it is refused
abbrev pub question_of : Answer → ℕ
question_of (count n) = 0
question_of (refused_at q p) = q

abbrev pub place_of : Answer → ℕ
place_of (count n) = 0
place_of (refused_at q p) = p

abbrev pub entries_of : Answer → ℕ
entries_of (count n) = n
entries_of (refused_at q p) = 0

-- A full reading leaves l: what is returned, what stands at `place` and `entries`, both arrays.
pub data Reports : Left → (r place entries : ℕ) (words dir : List ℕ) → Type 0 where
  reports : {a : Answer} {words dir : List ℕ} → Reports (left a words dir) (question_of a) (place_of a) (entries_of a) words dir

-- A re-reading: also the number of the first piece read, and how many are read.
pub data ReportsAgain : Again → (r place entries first many : ℕ) (words dir : List ℕ) → Type 0 where
  reports_again : {a : Answer} {words dir : List ℕ} {first many : ℕ} → ReportsAgain (again_left (left a words dir) first many) (question_of a) (place_of a) (entries_of a) first many words dir

-- A step: 1 and the place it goes to; or 0 and the place `at` where it was asked.
pub data ReportsStep : Option ℕ → (at r to : ℕ) → Type 0 where
  made : {at to : ℕ} → ReportsStep (some to) at 1 to
  stays : {at : ℕ} → ReportsStep none at 0 at

-- A name: 1 and the start and length of its part of the piece; or three times 0.
pub data ReportsPart : Option Part → (r start length : ℕ) → Type 0 where
  found : {start length : ℕ} → ReportsPart (some (part start length)) 1 start length
  no_part : ReportsPart none 0 0 0

-- A map: 0, place 0 and how many bytes it has; or 27, place 0, and 0; and the buffer.
pub data ReportsMap : Outcome → (r place length : ℕ) (map : List ℕ) → Type 0 where
  mapped : {length : ℕ} {map : List ℕ} → ReportsMap (drawn length map) 0 0 length map
  no_map : {map : List ℕ} → ReportsMap (too_long map) q_output 0 0 map

-- Channel rules: 0, place 0 and the answer; or the number of the question that refuses the table, its place, and the answer for none.
pub data ReportsChannel : Told → (r place answer : ℕ) → Type 0 where
  answered : {a : ℕ} → ReportsChannel (told a) 0 0 a
  turned_away : {q p : ℕ} → ReportsChannel (refused q p) q p answer_none
