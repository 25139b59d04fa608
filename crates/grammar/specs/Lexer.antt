-- What the lexer reads (lexer.rs, and "small lexical helpers" of parser.rs), as programs. 01: "Text and place".
-- Assumes nothing.
use Rattle.std.specs.Prelude.{Bool, true, false, ◌&&◌, List, [], ◌∷◌, ℕ, zero, suc, ◌+◌, ◌-◌, ◌*◌, ltb, eqb, length}
use Rattle.std.proofs.Math.Option.{Option, none, some}
use Rattle.program.specs.Bytes.{byte}
use Rattle.program.specs.Choice.{pick, test}
use Rattle.program.specs.Class.{class_of, is_space, is_hex, is_name}
use Rattle.program.specs.Prog.{Prog, ret, fail, look, eat, here, lead, scan, ◌>>=◌}
use Rattle.records.specs.Words.{pack}
use Rattle.records.specs.Questions.{q_token, q_closed, q_escape}

-- a refusal at the cursor (`parse_error`): 01's number
unfoldable pub refuse : {A : Type 0} → ℕ → Prog A
refuse e = here (λ i. fail e i)

unfoldable pub place : Prog ℕ
place = here (λ i. ret i)

-- "White space is space, tab, line feed, form feed, carriage return; `;` starts a comment up to line feed." State 1 is inside a comment.
unfoldable pub space_step : ℕ → ℕ → Option ℕ
space_step q x =
    pick (eqb q 0) (pick (eqb x (byte ";")) (some 1) (pick (is_space x) (some 0) none))
    (pick (eqb x (byte "\n")) (some 0) (some 1))

-- `eat_ws`, with `eat_comment`
unfoldable pub eat_ws : Prog (Unit {0})
eat_ws = scan space_step 0 (λ w. ret tt)

-- 256 stands for the text's end, so no byte is it
unfoldable pub is_byte : ℕ → ℕ → Bool
is_byte b x = ltb b 256 && eqb x b

-- `match_char`: behind the byte b, or where it is not there
unfoldable pub byte_if : {A : Type 0} → ℕ → Prog A → Prog A → Prog A
byte_if b p q = look (λ x. elim (is_byte b x) [ true ↦ eat p | false ↦ q ])

-- the same, where the byte stays (`peek_ch`)
unfoldable pub byte_at_if : {A : Type 0} → ℕ → Prog A → Prog A → Prog A
byte_at_if b p q = look (λ x. elim (is_byte b x) [ true ↦ p | false ↦ q ])

unfoldable pub same_word : List ℕ → List ℕ → Bool
same_word [] [] = true
same_word [] (y ∷ ys) = false
same_word (x ∷ xs) [] = false
same_word (x ∷ xs) (y ∷ ys) = eqb x y && same_word xs ys

-- does a list begin with a word? (`match_chars`: no end test)
unfoldable pub starts_with : List ℕ → List ℕ → Bool
starts_with [] ys = true
starts_with (x ∷ xs) [] = false
starts_with (x ∷ xs) (y ∷ ys) = eqb x y && starts_with xs ys

unfoldable pub eat_n : {A : Type 0} → ℕ → Prog A → Prog A
eat_n zero p = p
eat_n (suc n) p = eat (eat_n n p)

-- `match_keyword`, behind white space: "one matches unless a letter, digit or `_` follows"
unfoldable pub word_if : {A : Type 0} → List ℕ → Prog A → Prog A → Prog A
word_if kw p q = lead (λ w. elim (same_word w kw) [ true ↦ eat_n (length kw) p | false ↦ q ])

-- the same, where the word stays
unfoldable pub word_at_if : {A : Type 0} → List ℕ → Prog A → Prog A → Prog A
word_at_if kw p q = lead (λ w. elim (same_word w kw) [ true ↦ p | false ↦ q ])

-- a word's rank in a table, the table's length where it is not in it
unfoldable pub rank : List ℕ → List (List ℕ) → ℕ
rank w [] = 0
rank w (k ∷ ks) = elim (same_word w k) [ true ↦ 0 | false ↦ suc (rank w ks) ]

-- the first keyword of a table that matches, by its rank
unfoldable pub rank_if : {A : Type 0} → List (List ℕ) → (ℕ → Prog A) → Prog A → Prog A
rank_if table p q = lead (λ w. elim (ltb (rank w table) (length table)) [ true ↦ eat_n (length w) (p (rank w table)) | false ↦ q ])

-- `match_token`
unfoldable pub token_if : {A : Type 0} → ℕ → Prog A → Prog A → Prog A
token_if b p q = eat_ws >>= λ _. byte_if b p q

-- `expect_token`
unfoldable pub expect_token : ℕ → Prog (Unit {0})
expect_token b = eat_ws >>= λ _. byte_if b (ret tt) (refuse q_token)

-- `expect_keyword`
unfoldable pub expect_keyword : List ℕ → Prog (Unit {0})
expect_keyword kw = eat_ws >>= λ _. word_if kw (ret tt) (refuse q_token)

-- a keyword that may stand there
unfoldable pub skip_keyword : List ℕ → Prog (Unit {0})
skip_keyword kw = eat_ws >>= λ _. word_if kw (ret tt) (ret tt)

-- one keyword of a table, if any stands there
unfoldable pub skip_one : List (List ℕ) → Prog (Unit {0})
skip_one table = eat_ws >>= λ _. rank_if table (λ r. ret tt) (ret tt)

-- keywords of a table, as many as stand there
unfoldable pub skip_all : ℕ → List (List ℕ) → Prog (Unit {0})
skip_all zero table = ret tt
skip_all (suc u) table = eat_ws >>= λ _. rank_if table (λ r. skip_all u table) (ret tt)

-- `...`, or a refusal with q at the first dot
unfoldable pub three_dots : ℕ → Prog (Unit {0})
three_dots q =
    here (λ i. byte_if (byte ".") (byte_if (byte ".") (byte_if (byte ".") (ret tt) (fail q i)) (fail q i)) (fail q i))

-- `match_token("...")`, behind white space; where it begins and is not whole, what follows would refuse with q at its first byte
unfoldable pub dots_if : {A : Type 0} → ℕ → Prog A → Prog A → Prog A
dots_if q p g = byte_at_if (byte ".") (three_dots q >>= λ _. p) g

-- the state in which an automaton stops
unfoldable pub state_of : (ℕ → ℕ → Option ℕ) → ℕ → List ℕ → ℕ
state_of f q [] = q
state_of f q (x ∷ xs) = elim (f q x) [ some r ↦ state_of f r xs | none ↦ q ]

-- `read_word`: the bytes of an unquoted name
unfoldable pub name_step : ℕ → ℕ → Option ℕ
name_step q x = pick (is_name x) (some 0) none

-- Between the quotes of a name: state 1 is behind `\`, 2 behind its first digit. It stops at the quote, at byte 0, and where an escape is bad.
unfoldable pub quote_step : ℕ → ℕ → Option ℕ
quote_step q x =
    pick (eqb q 0) (pick (eqb x (byte "\"")) none (pick (eqb x 0) none (pick (eqb x (byte "\\")) (some 1) (some 0))))
    (pick (eqb q 1) (pick (eqb x (byte "\\")) (some 0) (pick (is_hex x) (some 2) none))
    (pick (is_hex x) (some 0) none))

-- A word as it stands: the bytes between its quotes, or its bytes.
pub data Word : Type 0 where
  plain : List ℕ → Word
  quoted : List ℕ → Word

-- its bytes in the text, quotes included
unfoldable pub size_of : Word → ℕ
size_of (plain w) = length w
size_of (quoted w) = length w + 2

-- quotes and escapes undone: the state as in `quote_step`, and the value of an escape's first digit
unfoldable pub unescape : ℕ → ℕ → List ℕ → List ℕ
unescape q h [] = []
unescape q h (x ∷ r) =
    test (eqb q 0) (λ u. test (eqb x (byte "\\")) (λ v. unescape 1 0 r) (λ v. x ∷ unescape 0 0 r))
    (λ u. test (eqb q 1) (λ v. test (eqb x (byte "\\")) (λ y. byte "\\" ∷ unescape 0 0 r) (λ y. unescape 2 (class_of x) r))
    (λ v. (h * 16 + class_of x) ∷ unescape 0 0 r))

unfoldable pub spelled : Word → List ℕ
spelled (plain w) = w
spelled (quoted w) = unescape 0 0 w

-- "Two names are the same when their bytes, quotes and escapes undone, are."
unfoldable pub same_name : Word → Word → Bool
same_name a b = same_word (spelled a) (spelled b)

-- where the quoted part stopped: at its quote; else 13 (no quote) or 14 (a bad escape)
unfoldable pub quote_end : List ℕ → Prog Word
quote_end w = elim (eqb (state_of quote_step 0 w) 0) [ true ↦ byte_if (byte "\"") (ret (quoted w)) (refuse q_closed) | false ↦ refuse q_escape ]

-- `read_word`, behind white space; it may be empty
unfoldable pub read_word : Prog Word
read_word = byte_if (byte "\"") (scan quote_step 0 quote_end) (scan name_step 0 (λ w. ret (plain w)))

unfoldable pub is_empty : List ℕ → Bool
is_empty [] = true
is_empty (x ∷ r) = false

-- no bytes, or none between the quotes
unfoldable pub is_empty_word : Word → Bool
is_empty_word (plain w) = is_empty w
is_empty_word (quoted w) = is_empty w

-- "A name word is start 32, length 32": a word that began at i; an empty one is refused behind it
unfoldable pub name_of : ℕ → Word → Prog ℕ
name_of i w = elim (is_empty_word w) [ true ↦ refuse q_token | false ↦ ret (pack i (size_of w)) ]

-- a name behind its sigil
unfoldable pub name_word : Prog ℕ
name_word = place >>= λ i. (read_word >>= λ w. name_of i w)

-- `parse_local_name`
unfoldable pub parse_local_name : Prog ℕ
parse_local_name = eat_ws >>= λ _. byte_if (byte "%") name_word (refuse q_token)

-- `parse_global_name`
unfoldable pub parse_global_name : Prog ℕ
parse_global_name = eat_ws >>= λ _. byte_if (byte "@") name_word (refuse q_token)

-- up to the byte that closes what `open` opens; q more are open
unfoldable pub balance_step : ℕ → ℕ → ℕ → ℕ → Option ℕ
balance_step open' close q x =
    pick (eqb x open') (some (q + 1)) (pick (eqb x close) (pick (eqb q 0) none (some (q - 1))) (some q))

-- behind the opening byte, through the one that closes it (13 where there is none; quotes and comments do not count)
unfoldable pub balanced : ℕ → ℕ → Prog (Unit {0})
balanced open' close = scan (balance_step open' close) 0 (λ w. byte_if close (ret tt) (refuse q_closed))

-- `skip_parens`
unfoldable pub skip_parens : Prog (Unit {0})
skip_parens = eat_ws >>= λ _. byte_if (byte "(") (balanced (byte "(") (byte ")")) (refuse q_token)

-- `skip_metadata_ref`, behind its first `!`
unfoldable pub skip_metadata_ref : Prog (Unit {0})
skip_metadata_ref = do
  _ ← read_word
  _ ← eat_ws
  byte_if (byte "!") (byte_if (byte "{") (balanced (byte "{") (byte "}")) (read_word >>= λ _. ret tt)) (ret tt)

-- Between the quotes of `c".."`: state 1 is behind `\`, 2 behind its first digit. It stops at the quote, and in state 2 at what is no digit.
unfoldable pub cstring_step : ℕ → ℕ → Option ℕ
cstring_step q x =
    pick (eqb q 0) (pick (eqb x (byte "\"")) none (pick (eqb x (byte "\\")) (some 1) (some 0)))
    (pick (eqb q 1) (pick (is_hex x) (some 2) (some 0))
    (pick (is_hex x) (some 0) none))

-- "two escape errors can put it one past the text's length": the byte behind the cursor is taken before 13 or 14 is known
unfoldable pub cstring_end : ℕ → List ℕ → Prog ℕ
cstring_end i w =
    elim (eqb (state_of cstring_step 0 w) 0) [
      | true ↦ byte_if (byte "\"") (ret (pack i (length w + 2))) (refuse q_closed)
      | false ↦ here (λ j. fail (pick (eqb (state_of cstring_step 0 w) 1) q_closed q_escape) (j + 1))
    ]

-- `parse_cstring`, behind the `c` and the quote; i is the quote's place
unfoldable pub cstring_at : ℕ → Prog ℕ
cstring_at i = scan cstring_step 0 (cstring_end i)
