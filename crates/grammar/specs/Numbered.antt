-- M-106: the numbers that an accepted function gives to what has no name, from its records and its text; those who look a value or a block up by its
-- number use these.
-- Assumes nothing.
use Rattle.std.specs.Prelude.{Bool, true, false, ◌&&◌, not, List, [], ◌∷◌, ℕ, zero, suc, ◌+◌, ◌-◌, ◌/◌, ◌^◌, eqb, get_or, drop}
use Rattle.std.proofs.Math.Option.{Option, none, some}
use Rattle.program.specs.Prog.{ok, closed, no_at, run, ◌>>=◌}
use Rattle.records.specs.Words.{header}
use Rattle.records.specs.Kinds.{kind, Void, Call}
use Rattle.records.specs.Limits.{turns}
use Rattle.records.specs.Details.{d_none}
use Rattle.grammar.specs.Lexer.{eat_ws}
use Rattle.grammar.specs.Body.{label, instruction, terminator, in_block, parse_statement}

-- "An unlabelled block" has the number that its directory entry holds as third word, c; l is its label's word, the second word of its node.
unfoldable pub block_number : (c l : ℕ) → Option ℕ
block_number c l = elim (eqb l 0) [ true ↦ some c | false ↦ none ]

-- "a non-void call without a destination": header, destination and type are the first three words of its node
unfoldable pub is_numbered : List ℕ → Bool
is_numbered ws = eqb (get_or ws 0 0 / 2 ^ 56) (kind Call) && eqb (get_or ws 1 0) 0 && not (eqb (get_or ws 2 0) (header (kind Void) d_none 0 1))

-- an instruction's number, where the counter behind it is c
unfoldable pub instruction_number : ℕ → List ℕ → Option ℕ
instruction_number c ws = elim (is_numbered ws) [ true ↦ some (c - 1) | false ↦ none ]

-- A block's instructions in order, and the number of each that takes one. It is read from the text: a label that a later one replaces moves the
-- counter, and the words do not hold it. u turns, the cursor at i, s the text from there.
unfoldable pub numbers_in : (u i c l n : ℕ) → List ℕ → List (Option ℕ)
numbers_in zero i c l n s = []
numbers_in (suc u) i c l n s =
    elim (run (eat_ws >>= λ _. parse_statement (in_block c l n)) i s) [
      | ok a j ↦ elim a [
        | label d m ↦ numbers_in u j d m n (drop (j - i) s)
        | instruction d ws ↦ instruction_number d ws ∷ numbers_in u j d l (n + 1) (drop (j - i) s)
        | terminator d ws ↦ []
      ]
      | closed ws j ↦ []
      | no_at q p ↦ []
    ]

-- of a block's text, and the counter at its start: its entry's third word
unfoldable pub call_numbers : ℕ → List ℕ → List (Option ℕ)
call_numbers c s = numbers_in turns 0 c 0 0 s
