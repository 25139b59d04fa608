-- The verdict of questions that are asked of a text or of room, as the definitions have it.
-- Assumes nothing.
use Rattle.std.specs.Prelude.{Result, Ok, Err}
use Rattle.records.specs.Pieces.{Verdict, fine, refused}
use Rattle.records.specs.declared.Refusal.{Refusal}

abbrev pub verdict : Result (Unit {0}) Refusal → Verdict
verdict (Ok _) = fine
verdict (Err r) = refused r.question r.place
