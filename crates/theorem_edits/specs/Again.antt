-- Demand 3 on these definitions: a block takes at least a byte, and its counter stays at most 2^32, so re-reading leaves what a full reading of the
-- newer text leaves, or refuses as it does.
-- Assumes nothing.
use Rattle.std.specs.Prelude.{◌≡◌, refl, Bool, true, false, ◌&&◌, not, List, [], ◌∷◌, ◌++◌, ℕ, zero, suc, ◌+◌, ◌-◌, ◌≤◌, eqb, length, take, drop}
use Rattle.std.proofs.Common.{sym, ◌∙◌, subst, arith}
use Rattle.std.proofs.Math.Option.{some}
use Rattle.program.specs.Class.{is_word}
use Rattle.program.specs.Prog.{Prog, ret, eat, scan, last, Res, ok, closed, no_at, run, ◌>>=◌, byte_at, scan_len}
use Rattle.program.specs.Local.{next, run_bind, mono}
use Rattle.records.specs.Limits.{turns}
use Rattle.records.specs.Pieces.{Old, olds, left_of, left, count}
use Rattle.theorem_refusals.specs.Places.{head_counter, block_counter}
use Rattle.theorem_edits.specs.Law.{Grammar}
use Rattle.theorem_edits.specs.Same.{or_as_lent, same, chained}
use Rattle.theorem_edits.specs.Programs.{grammar}
use Rattle.grammar.specs.Lexer.{eat_ws, refuse, place, name_step, quote_step, quote_end, space_step, is_byte, byte_if, Word, plain, quoted, is_empty, is_empty_word, read_word}
use Rattle.grammar.specs.Body.{Statement, label, instruction, terminator, finish_block, over_at, Where, in_block, statement_of, parse_statement, parse_body, parse_block, parse_head}
use Rattle.grammar.specs.Function.{head_at, block_at, reading_of, rereading_of}

-- a part that moves, then the rest
then_moves : {A B : Type 0} (f : Prog A) (h : A → Prog B) (i j : ℕ) (s : List ℕ) (b : B) → ((a : A) (m : ℕ) → run f i s ≡ ok a m → suc i ≤ m) → run (f >>= h) i s ≡ ok b j → suc i ≤ j
unfolding next
then_moves {A} {B} f h i j s b k e = go (run f i s) refl
  where
    w : next h i s (run f i s) ≡ ok b j
    w = sym (run_bind f h i s) ∙ e

    go : (r : Res A) → run f i s ≡ r → suc i ≤ j
    go (ok a m) t = let w2 : next h i s (ok a m) ≡ ok b j = rw t at w in omega (arith, k a m t, (mono (h a) m j (drop (m - i) s) (rw w2 refl)).0)
    go (closed ws m) t = let w2 : next h i s (closed ws m) ≡ ok b j = rw t at w in let z : ◌≡◌ {A = ℕ} 0 1 = cc in absurd (omega arith)
    go (no_at q p) t = let w2 : next h i s (no_at q p) ≡ ok b j = rw t at w in let z : ◌≡◌ {A = ℕ} 0 1 = cc in absurd (omega arith)

eat_moves : {A : Type 0} (f : Prog A) (i j : ℕ) (s : List ℕ) (a : A) → run (eat f) i s ≡ ok a j → suc i ≤ j
unfolding run
eat_moves f i j [] a e = let z : ◌≡◌ {A = ℕ} 0 1 = cc in absurd (omega arith)
eat_moves f i j (x ∷ s) a e = (mono f (suc i) j s (rw e refl)).0

byte_moves : {A : Type 0} (b : ℕ) (f g : Prog A) (i j : ℕ) (s : List ℕ) (a : A) → ((m : ℕ) → run g i s ≡ ok a m → suc i ≤ m) → run (byte_if b f g) i s ≡ ok a j → suc i ≤ j
unfolding run byte_if
byte_moves {A} b f g i j s a k e = go (is_byte b (byte_at s)) refl
  where
    go : (z : Bool) → is_byte b (byte_at s) ≡ z → suc i ≤ j
    go true t = eat_moves f i j s a (subst (λ (y : Bool). run (elim y [ true ↦ eat f | false ↦ g ]) i s ≡ ok a j) t e)
    go false t = k j (subst (λ (y : Bool). run (elim y [ true ↦ eat f | false ↦ g ]) i s ≡ ok a j) t e)

last_moves : (b : ℕ) (f : Prog (List ℕ)) (i j : ℕ) (s ws : List ℕ) → ((m : ℕ) → run f i s ≡ ok ws m → suc i ≤ m) → run (last b [] f) i s ≡ ok ws j → suc i ≤ j
unfolding run
last_moves b f i j [] ws k e = k j e
last_moves b f i j (x ∷ s) ws k e = go (eqb x b && not (is_word x)) refl
  where
    go : (t : Bool) → (eqb x b && not (is_word x)) ≡ t → suc i ≤ j
    go true t = let w : closed [] (suc i) ≡ ok ws j = rw (run, t) at e in let z : ◌≡◌ {A = ℕ} 0 1 = cc in absurd (omega arith)
    go false t = k j (rw (run, t) at e)

space_moves : (h : Unit {0} → Prog (List ℕ)) (j : ℕ) (s ws : List ℕ) → ((i : ℕ) (r : List ℕ) → run (h tt) i r ≡ ok ws j → suc i ≤ j) → run (eat_ws >>= h) 0 s ≡ ok ws j → 1 ≤ j
unfolding run eat_ws ◌>>=◌
space_moves h j s ws k e = omega (arith, k (0 + scan_len space_step 0 s) (drop (scan_len space_step 0 s) s) e)

some_taken : (c : ℕ) (l : List ℕ) (x : ℕ) (xs : List ℕ) → take c l ≡ x ∷ xs → 1 ≤ c
some_taken zero l x xs e = let z : ◌≡◌ {A = ℕ} 0 1 = cc in absurd (omega arith)
some_taken (suc c) l x xs e = omega arith

-- a word with bytes in it is passed
pub data Some : Word → Type 0 where
  some_plain : {x : ℕ} {w : List ℕ} → Some (plain (x ∷ w))
  some_quoted : {w : List ℕ} → Some (quoted w)

unquoted_moves : (i j : ℕ) (s : List ℕ) (w : Word) → Some w → run (scan name_step 0 (λ w. ret (plain w))) i s ≡ ok w j → suc i ≤ j
unfolding run
unquoted_moves i j s (plain (x ∷ w)) some_plain e =
    let t : take (scan_len name_step 0 s) s ≡ x ∷ w = cc in
    let n : i + scan_len name_step 0 s ≡ j = cc in
    omega (arith, some_taken (scan_len name_step 0 s) s x w t)
unquoted_moves i j s (plain []) x5 e = elim x5 [ ]
unquoted_moves i j s (quoted w) some_quoted e = let z : ◌≡◌ {A = ℕ} 0 1 = cc in absurd (omega arith)

word_moves : (i j : ℕ) (s : List ℕ) (w : Word) → Some w → run read_word i s ≡ ok w j → suc i ≤ j
unfolding read_word
word_moves i j s w n e = byte_moves 34 (scan quote_step 0 quote_end) (scan name_step 0 (λ w. ret (plain w))) i j s w (λ m t. unquoted_moves i m s w n t) e

statement_some : (i : ℕ) (b : Where) (m j : ℕ) (s : List ℕ) (a : Statement) (w : Word) → run (statement_of i b w) m s ≡ ok a j → Some w
unfolding run statement_of refuse is_empty_word is_empty
statement_some i b m j s a (plain []) e = let z : ◌≡◌ {A = ℕ} 0 1 = cc in absurd (omega arith)
statement_some i b m j s a (plain (x ∷ w)) e = some_plain
statement_some i b m j s a (quoted w) e = some_quoted

word_statement_moves : (i0 i j : ℕ) (b : Where) (s : List ℕ) (a : Statement) → run (read_word >>= statement_of i0 b) i s ≡ ok a j → suc i ≤ j
unfolding next
word_statement_moves i0 i j b s a e = go (run read_word i s) refl
  where
    w : next (statement_of i0 b) i s (run read_word i s) ≡ ok a j
    w = sym (run_bind read_word (statement_of i0 b) i s) ∙ e

    go : (r : Res Word) → run read_word i s ≡ r → suc i ≤ j
    go (ok v m) t =
        let w2 : run (statement_of i0 b v) m (drop (m - i) s) ≡ ok a j = rw t at w in
        omega (arith, word_moves i m s v (statement_some i0 b m j (drop (m - i) s) a v w2) t, (mono (statement_of i0 b v) m j (drop (m - i) s) (rw w2 refl)).0)
    go (closed ws m) t = let w2 : next (statement_of i0 b) i s (closed ws m) ≡ ok a j = rw t at w in let z : ◌≡◌ {A = ℕ} 0 1 = cc in absurd (omega arith)
    go (no_at q p) t = let w2 : next (statement_of i0 b) i s (no_at q p) ≡ ok a j = rw t at w in let z : ◌≡◌ {A = ℕ} 0 1 = cc in absurd (omega arith)

-- a statement takes a byte
pub statement_moves : (b : Where) (i j : ℕ) (s : List ℕ) (a : Statement) → run (parse_statement b) i s ≡ ok a j → suc i ≤ j
unfolding parse_statement place run ◌>>=◌
statement_moves b i j s a e = byte_moves 37 _ _ i j s a (λ m t. word_statement_moves i i m b s a t) e

-- what a block's loop does behind a statement
abbrev behind_statement : (u l n over : ℕ) → List ℕ → Statement → Prog (List ℕ)
behind_statement u l n over acc s = do
  j ← place
  elim s [
    | label d m ↦ parse_body u d m n over acc
    | instruction d ws ↦ parse_body u d l (n + 1) (over_at n over j) (acc ++ ws)
    | terminator d ws ↦ finish_block d l n over acc ws
  ]

body_moves : (u c l n over : ℕ) (acc s : List ℕ) (e : ℕ) (ws : List ℕ) → run (parse_body u c l n over acc) 0 s ≡ ok ws e → 1 ≤ e
unfolding parse_body run refuse
body_moves zero c l n over acc s e ws h = let z : ◌≡◌ {A = ℕ} 0 1 = cc in absurd (omega arith)
body_moves (suc u) c l n over acc s e ws h =
    space_moves _ e s ws (λ i r w. last_moves 125 (parse_statement (in_block c l n) >>= behind_statement u l n over acc) i e r ws (λ m x. then_moves (parse_statement (in_block c l n)) (behind_statement u l n over acc) i m r ws (λ a m2 y. statement_moves (in_block c l n) i m2 r a y) x) w) h

pub block_moves : (c : ℕ) (s : List ℕ) (e : ℕ) (ws : List ℕ) → run (parse_block c) 0 s ≡ ok ws e → 1 ≤ e
unfolding parse_block
block_moves c = body_moves turns c 0 0 0 []

-- The readers of one piece have what demand 3 asks of them.
pub laws : Grammar head_at block_at
unfolding head_at block_at
laws = grammar parse_head parse_block block_moves head_counter (λ c s e d ws h. (block_counter c s e d ws h).1)

-- Demand 3: on the records of an accepted full reading of the older text, re-reading leaves what a full reading of the newer text leaves, every word of
-- both arrays and the entry count; where that refuses, it refuses with the same number at the same place, and the arrays are as they were lent.
pub again_same : (W D n : ℕ) (ws ds older newer : List ℕ) → reading_of W D older ≡ left (count n) ws ds
    → left_of (rereading_of ws ds n older newer) ≡ or_as_lent ws ds (reading_of W D newer)
unfolding head_at block_at reading_of rereading_of
again_same = same head_at block_at laws

-- What an accepted full reading leaves is a directory that question 22 says yes to.
pub reading_chained : (W D n : ℕ) (ws ds text : List ℕ) → reading_of W D text ≡ left (count n) ws ds → (os : List Old) × (olds (length text) (length ws) n ds ≡ some os)
unfolding head_at block_at reading_of
reading_chained = chained head_at block_at laws
