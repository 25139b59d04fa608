-- Questions 20 and 21 of one piece, and what they mean in a verdict.
-- Assumes nothing.
use Rattle.std.specs.Prelude.{true, false, ◌&&◌, ◌≡◌, ℕ, ◌+◌, ◌*◌, leb, ltb, Result, Ok, Err}
use Rattle.records.specs.Questions.{q_words, q_entries}
use Rattle.records.specs.Limits.{half_limit, entry_words}
use Rattle.records.specs.Pieces.{Verdict, refused}
use Rattle.records.specs.declared.Refusal.{Refusal}

-- There is room, or the number of the question that refuses.
unfoldable pub room_of : (words dir i word n : ℕ) → Result (Unit {0}) ℕ
room_of words dir i word n =
    elim (leb (word + n) words && ltb (word + n) half_limit) [
      | true ↦ elim (leb (i * entry_words + entry_words) dir) [ true ↦ Ok tt | false ↦ Err q_entries ]
      | false ↦ Err q_words
    ]

-- What follows in a verdict: a refusal at the piece's end, or what is asked next.
unfoldable pub after_room : Result (Unit {0}) ℕ → ℕ → Verdict → Verdict
after_room (Ok _) place v = v
after_room (Err q) place v = refused q place

-- Questions 20 and 21 of piece i, which ends at `place`.
abbrev pub Asked : (words dir i word n place : ℕ) → Result (Unit {0}) Refusal → Type 0
Asked words dir i word n place (Ok _) = room_of words dir i word n ≡ Ok tt
Asked words dir i word n place (Err r) = (v : Verdict) → after_room (room_of words dir i word n) place v ≡ refused r.question r.place
