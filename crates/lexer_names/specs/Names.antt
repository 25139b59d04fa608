-- Names as they stand in a text: 01, "raw text behind the sigil, quotes included".
-- Assumes nothing.
use Rattle.std.specs.Prelude.{◌≡◌, Bool, true, false, List, [], ◌∷◌, ℕ, ◌-◌, ◌<◌, ◌≤◌, eqb, length, take, drop, Option, Some, None}
use Rattle.program.specs.Bytes.{byte}
use Rattle.program.specs.Prog.{Prog, ◌>>=◌}
use Rattle.std.proofs.Math.Option.{Option as Maybe, none, some}
use Rattle.program.specs.Choice.{pick}
use Rattle.grammar.specs.Lexer.{Word, plain, quoted, size_of, is_empty_word, unescape, read_word, name_word, eat_ws, byte_if, refuse}
use Rattle.lexer.specs.Reads.{Gives}
use Rattle.lexer_names.specs.declared.Letter.{Letter}
use Rattle.lexer.specs.declared.Num.{Num}
use Rattle.lexer.specs.Parsed.{Parsed, Refused}
use Rattle.lexer_names.specs.declared.WordAt.{WordAt}

-- the bytes of a text from a place to another
abbrev pub part : List ℕ → ℕ → ℕ → List ℕ
part text from to = take (to - from) (drop from text)

unfoldable pub is_quoted : List ℕ → Bool
is_quoted [] = false
is_quoted (x ∷ r) = eqb x (byte "\"")

-- what stands between quotes
abbrev pub inner : List ℕ → List ℕ
inner raw = take (length raw - 2) (drop 1 raw)

-- the word that stands so, quotes included
unfoldable pub raw_word : List ℕ → Word
raw_word raw = elim (is_quoted raw) [ true ↦ quoted (inner raw) | false ↦ plain raw ]

-- `read_word` gives the word that stands from `start` to `end`.
pub record WordIs (text : List ℕ) (p : Parsed) (r : WordAt) : Type 0 where
  pub gives : Gives read_word (raw_word (part text r.start r.end)) text p r.p
  pub size : size_of (raw_word (part text r.start r.end)) ≡ r.end - r.start
  pub none : r.empty ≡ is_empty_word (raw_word (part text r.start r.end))

-- a refusal
abbrev pub no_word : ℕ → ℕ → WordAt
no_word e i = record { p = Refused e i; start = 0; end = 0; empty = true }

-- white space, and a name with the sigil b
abbrev pub sigil_name : ℕ → Prog ℕ
sigil_name b = eat_ws >>= λ _. byte_if b name_word (refuse 3)

-- in a byte string, the bytes that stand for themselves: all but `"` and `\`
unfoldable pub plain_step : ℕ → ℕ → Maybe ℕ
plain_step q x = pick (eqb x (byte "\"")) none (pick (eqb x (byte "\\")) none (some 0))

-- an automaton's step at the first byte of s, or none where there is no byte
unfoldable pub step_at : (ℕ → ℕ → Maybe ℕ) → ℕ → List ℕ → Maybe ℕ
step_at f q [] = none
step_at f q (x ∷ s) = f q x

-- a byte string that is not closed
abbrev pub not_closed : ℕ → Num
not_closed i = record { p = Refused 13 i; v = 0 }

-- the spelling of what stands between quotes, or as it is
unfoldable pub spelled_of : Bool → List ℕ → List ℕ
spelled_of true w = unescape 0 0 w
spelled_of false w = w

-- In the word w, from a place on, s is spelled: it begins with the letter x and goes on as `rest` spells what is behind x, which is further on.
pub record Begins (w : List ℕ) (at : ℕ) (s : List ℕ) (rest : List ℕ → List ℕ) (x : Letter) : Type 0 where
  pub some : s ≡ x.b ∷ rest (drop x.next w)
  pub on : at < x.next
  pub within : x.next ≤ length w

-- The first letter of s, if it has one.
abbrev pub FirstOf : List ℕ → ℕ → List ℕ → (List ℕ → List ℕ) → Option Letter → Type 0
FirstOf w at s rest None = s ≡ []
FirstOf w at s rest (Some x) = Begins w at s rest x

-- The byte of an escape, behind its backslash at the place before, and the place behind it, which is further on.
abbrev pub EscapeAt : List ℕ → ℕ → Option Letter → Type 0
EscapeAt w at r = FirstOf w at (unescape 1 0 (drop at w)) (unescape 0 0) r

-- The first byte of a spelling from a place on, and the place behind it, which is further on.
abbrev pub LetterAt : Bool → List ℕ → ℕ → Option Letter → Type 0
LetterAt q w at r = FirstOf w at (spelled_of q (drop at w)) (spelled_of q) r
