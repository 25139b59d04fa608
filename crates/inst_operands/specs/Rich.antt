-- What is read twice writes its words twice: a budget that bears it.
-- Assumes nothing.
use Rattle.std.specs.Prelude.{List, ℕ, ◌+◌, ◌*◌, ◌≤◌, ◌<◌, length}
use Rattle.lexer.specs.Reads.{Budget, Goal}
use Rattle.lexer.specs.Parsed.{Parsed, Ok, Err}

-- Each byte pays for six words, and as many as a text has at three a byte may stand beside those.
pub record Rich (b : Budget) (text : List ℕ) : Type 0 where
  pub rate : 6 ≤ b.rate
  pub room : b.base + b.rate * length text + 50331648 < 4294967296

-- a goal that is reached with such a budget
abbrev pub richly : {A : Type 0} → List ℕ → Goal A → Goal A
richly text g = record { ends = λ b k low r p words. Rich b text → g.ends b k low r p words; outs = λ b k low e q words _. g.outs b k low e q words }

-- the place of q with the words of p; a refusal of q goes first
abbrev pub resumed : Parsed → Parsed → Parsed
resumed (Ok c) (Ok b) = Ok (record { at = b.at; w = c.w })
resumed (Ok c) (Err r) = Err r
resumed (Err r) (Ok b) = Err r
resumed (Err r) (Err r2) = Err r2
