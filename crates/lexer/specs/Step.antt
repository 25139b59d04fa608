-- Names as they stand in a text: 01, "raw text behind the sigil, quotes included".
-- Assumes nothing.
use Rattle.std.specs.Prelude.{◌≡◌, Bool, false, List, ℕ, ◌+◌, ◌-◌, ◌<◌, ltb, leb, length, take, drop, Some, None}
use Rattle.std.specs.Prelude.{Option as Maybe}
use Rattle.std.proofs.Math.Option.{Option, none, some}
use Rattle.program.specs.Prog.{scan_len, byte_at, lead_word}
use Rattle.grammar.specs.Lexer.{state_of, is_byte, same_word, rank}
use Rattle.lexer.specs.Parsed.{Parsed, Ok, Err, Refused}
use Rattle.lexer.specs.declared.Stop.{Stop}
use Rattle.program.specs.Choice.{pick}

-- the bytes that an automaton passes
abbrev pub taken : (ℕ → ℕ → Option ℕ) → ℕ → List ℕ → List ℕ
taken f q s = take (scan_len f q s) s

-- where an automaton stops that begins at a place in state 0
pub record StopAt (f : ℕ → ℕ → Option ℕ) (text : List ℕ) (at : ℕ) (r : Stop) : Type 0 where
  pub place : r.at ≡ at + scan_len f 0 (drop at text)
  pub state : r.q ≡ state_of f 0 (taken f 0 (drop at text))

-- a step of an automaton as the code has it
abbrev pub step_of : Maybe ℕ → Option ℕ
step_of None = none
step_of (Some q) = some q

-- whatever a closure answers, it is that automaton's step
abbrev pub Steps : {F : Type 0} → (F → ℕ → ℕ → Maybe ℕ → Type 0) → F → (ℕ → ℕ → Option ℕ) → Type 0
Steps post step f = (q b : ℕ) (r : Maybe ℕ) → q < 256 → b < 256 → post step q b r → step_of r ≡ f q b

-- one more word, up to a lid that no text reaches
unfoldable pub bumped : ℕ → ℕ
bumped w = pick (ltb w 4294967296) (w + 1) w

-- is b the next byte?
abbrev pub looks_p : List ℕ → Parsed → ℕ → Bool
looks_p text (Ok c) b = is_byte b (byte_at (drop c.at text))
looks_p text (Err r) b = false

-- is kw the next word?
abbrev pub word_p : List ℕ → Parsed → List ℕ → Bool
word_p text (Ok c) kw = same_word (lead_word (drop c.at text)) kw
word_p text (Err r) kw = false

-- m bytes on, where the text has as many
abbrev pub passed : List ℕ → ℕ → Parsed → Parsed
passed text m (Ok c) =
    pick (leb c.at (length text))
    (pick (leb m (length text - c.at)) (Ok (record { at = c.at + m; w = c.w })) (Ok c))
    (Ok c)
passed text m (Err r) = Err r

-- a refusal at the cursor
abbrev pub refused : ℕ → Parsed → Parsed
refused e (Ok c) = Refused e c.at
refused e (Err r) = Err r

-- behind a child that has n before it: question 19
abbrev pub counted_p : ℕ → Parsed → Parsed
counted_p n p = pick (ltb n 65535) p (refused 19 p)

-- a refusal at another place
abbrev pub refused_at : ℕ → ℕ → Parsed → Parsed
refused_at e i (Ok c) = Refused e i
refused_at e i (Err r) = Err r

-- the place of the cursor
abbrev pub place_p : Parsed → ℕ
place_p (Ok c) = c.at
place_p (Err r) = 0

-- the rank of the next word in a table, and where the reader is behind it, or where it is if the table has it not
abbrev pub rank_p : List (List ℕ) → List ℕ → Parsed → ℕ
rank_p table text (Ok c) = rank (lead_word (drop c.at text)) table
rank_p table text (Err r) = length table

abbrev pub ranked_p : List (List ℕ) → List ℕ → Parsed → Parsed
ranked_p table text (Ok c) =
    pick (ltb (rank (lead_word (drop c.at text)) table) (length table))
    (Ok (record { at = c.at + length (lead_word (drop c.at text)); w = c.w }))
    (Ok c)
ranked_p table text (Err r) = Err r
