-- Readings of which a part is written and another part is left for later.
-- Assumes nothing.
use Rattle.std.specs.Prelude.{List, ℕ, ◌+◌, drop}
use Rattle.program.specs.Prog.{Prog, Res, no_at, run}
use Rattle.lexer.specs.Reads.{Budget, At, Goal}
use Rattle.lexer.specs.declared.Cursor.{Cursor}
use Rattle.lexer.specs.Parsed.{Parsed, Ok, Refused}

-- The program goes on there as f of some list and of what stands behind low; as many words as `weight` has of that list are paid for.
pub data Keeps {A : Type 0} (b : Budget) (f : List ℕ → List ℕ → Prog A) (weight : List ℕ → ℕ) (text : List ℕ) (p0 : Parsed) (k : ℕ) (low : List ℕ) : Res A → Parsed → List ℕ → Type 0 where
  keeps : (x : List ℕ) {mid : List ℕ} {cur : Cursor} {words : List ℕ} → At b text p0 (weight x + k) low mid cur words → Keeps b f weight text p0 k low (run (f x mid) cur.at (drop cur.at text)) (Ok cur) words
  keeps_not : {e q : ℕ} {words : List ℕ} → Keeps b f weight text p0 k low (no_at e q) (Refused e q) words

abbrev pub kept : {A : Type 0} → (List ℕ → List ℕ → Prog A) → (List ℕ → ℕ) → List ℕ → Parsed → Goal A
kept f weight text p0 = record { ends = λ b k low r p words. Keeps b f weight text p0 k low r p words; outs = λ b k low e q words. keeps_not }

abbrev pub nothing : List ℕ → ℕ
nothing x = 0
