-- What the writer of words does, exactly: at every cursor and every array of words.
-- Assumes nothing.
use Rattle.std.specs.Prelude.{List, ℕ, ◌+◌, ◌-◌, ltb, set}
use Rattle.program.specs.Choice.{pick}
use Rattle.records.specs.Words.{header}
use Rattle.lexer.specs.Parsed.{Parsed, Ok, Err}
use Rattle.lexer.specs.Step.{bumped}

-- one more word: where the cursor is then, and the words
abbrev pub pushed : Parsed → Parsed
pushed (Ok c) = Ok (record { at = c.at; w = bumped c.w })
pushed (Err r) = Err r

abbrev pub pushes : ℕ → Parsed → List ℕ → List ℕ
pushes x (Ok c) words = set words c.w x
pushes x (Err r) words = words

-- the header of a node whose words begin at `from` and end before `to`
abbrev pub header_of : ℕ → ℕ → ℕ → ℕ → ℕ → ℕ
header_of kind d n from to = pick (ltb (to - from) 4294967296) (header kind d n (to - from)) 0

abbrev pub closes : ℕ → ℕ → ℕ → Parsed → Parsed → List ℕ → List ℕ
closes kind d n (Ok b) (Ok c) words = set words b.w (header_of kind d n b.w c.w)
closes kind d n (Ok b) (Err r) words = words
closes kind d n (Err r) p words = words

-- word number k since p0 becomes x
abbrev pub patches : ℕ → ℕ → Parsed → Parsed → List ℕ → List ℕ
patches k x (Ok b) (Ok c) words = set words (b.w + k) x
patches k x (Ok b) (Err r) words = words
patches k x (Err r) p words = words

-- behind p, with one word x in place of all since p0
abbrev pub replaced : Parsed → Parsed → Parsed
replaced (Ok b) (Ok c) = Ok (record { at = c.at; w = bumped b.w })
replaced (Ok b) (Err r) = Err r
replaced (Err r) p = p

abbrev pub replaces : ℕ → Parsed → Parsed → List ℕ → List ℕ
replaces x (Ok b) (Ok c) words = set words b.w x
replaces x (Ok b) (Err r) words = words
replaces x (Err r) p words = words

-- back to p, unless q is a refusal
abbrev pub back_to : Parsed → Parsed → Parsed
back_to p (Ok c) = p
back_to p (Err r) = Err r

-- the place of p, before any words
abbrev pub restarted : Parsed → Parsed
restarted (Ok c) = Ok (record { at = c.at; w = 0 })
restarted (Err r) = Err r

-- the place of q with the words of p
abbrev pub joined : Parsed → Parsed → Parsed
joined (Ok c) (Ok b) = Ok (record { at = b.at; w = c.w })
joined (Ok c) (Err r) = Err r
joined (Err r) p = Err r
