-- M-106: the counter, which numbers what has no name. "A counter starts at 0. Each of these takes the next number: an unnamed parameter, an
-- unlabelled block, a non-void call without a destination."
-- Assumes nothing.
use Rattle.std.specs.Prelude.{Bool, true, false, ◌&&◌, List, [], ◌∷◌, ℕ, ◌+◌, ltb, leb}
use Rattle.program.specs.Class.{is_digit}
use Rattle.program.specs.Prog.{Prog, ret, fail, ◌>>=◌}
use Rattle.records.specs.Limits.{counter_limit}
use Rattle.records.specs.Questions.{q_counter}
use Rattle.grammar.specs.Lexer.{place, Word, plain, quoted, read_word, name_of}
use Rattle.grammar.specs.Numbers.{value_of}

-- what was read, and the counter behind it
pub data Counted (A : Type 0) : Type 0 where
  counted : ℕ → A → Counted A

abbrev pub counter_of : {A : Type 0} → Counted A → ℕ
counter_of (counted c a) = c

abbrev pub item_of : {A : Type 0} → Counted A → A
item_of (counted c a) = a

-- The number v where the counter is c: "below the counter is refused; otherwise the counter becomes that number plus one"; "not below 2^32" is
-- refused too. i is the refusal's place.
unfoldable pub takes : (i c v : ℕ) → Prog ℕ
takes i c v = elim (leb c v && ltb v counter_limit) [ true ↦ ret (v + 1) | false ↦ fail q_counter i ]

-- "takes the next number"; "an automatic 2^32" is refused
unfoldable pub takes_next : (i c : ℕ) → Prog ℕ
takes_next i c = takes i c c

-- "all-digit"
unfoldable pub is_number : List ℕ → Bool
is_number [] = true
is_number (x ∷ r) = is_digit x && is_number r

-- "An unquoted all-digit name of a parameter, destination or label"; any other leaves the counter as it is
unfoldable pub named : (i c : ℕ) → Word → Prog ℕ
named i c (plain w) = elim (is_number w) [ true ↦ takes i c (value_of 0 w) | false ↦ ret c ]
named i c (quoted w) = ret c

-- a name behind its sigil, judged "behind the name": its word, and the counter
unfoldable pub counted_name : ℕ → Prog (Counted ℕ)
counted_name c = do
  i ← place
  w ← read_word
  n ← name_of i w
  j ← place
  d ← named j c w
  ret (counted d n)
