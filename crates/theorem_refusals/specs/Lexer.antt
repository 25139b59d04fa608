-- Each program of the lexer refuses inside the text, and a name lies where it was read. `in_eat_ws` is the law of `eat_ws`.
-- Assumes nothing.
use Rattle.std.specs.Prelude.{◌≡◌, refl, Bool, true, false, ◌&&◌, List, [], ◌∷◌, ℕ, zero, suc, ◌+◌, ◌≤◌, ◌<◌, T, ltb, eqb, length}
use Rattle.std.proofs.Common.{arith, ltb-true, ne_eqb}
use Rattle.program.specs.Choice.{pick}
use Rattle.program.specs.Prog.{Prog, ◌>>=◌}
use Rattle.grammar.specs.Lexer.{refuse, place, eat_ws, is_byte, byte_if, byte_at_if, same_word, eat_n, word_if, word_at_if, rank, rank_if, token_if, expect_token, expect_keyword, skip_keyword, skip_one, skip_all, three_dots, dots_if, quote_step, Word, plain, quoted, size_of, is_empty, is_empty_word, quote_end, read_word, name_of, name_word, parse_local_name, parse_global_name, balanced, skip_parens, skip_metadata_ref, state_of, cstring_step, cstring_end, cstring_at}
use Rattle.trees.specs.Forms.{NameIn, name_in}
use Rattle.theorem_refusals.specs.Inside.{Scope, and_right, asked, question, Held, Inside, more, gives, refuses, looks, eats, asks, leads, scans, HeldAt, anywhere, asks_at, gives_at, eats_at, looks_at, scans_at, then_at, either_at, Any, then, done, fails, either, either_with}

pub in_refuse : {A : Type 0} {P : A → Type 0} {n : Scope} (q : ℕ) → T (asked q) → Inside n P (refuse q)
unfolding refuse
in_refuse q t = asks λ i l. fails q i t l

pub in_place : {n : Scope} → Inside n (λ i. i ≤ n.size) place
unfolding place
in_place = asks λ i l. gives l

pub in_eat_ws : {n : Scope} → Inside n Any eat_ws
unfolding eat_ws
in_eat_ws = scans λ w. done

-- no byte is at the text's end
pub end_no_byte : (b : ℕ) → is_byte b 256 ≡ false
unfolding is_byte
end_no_byte b = go (ltb b 256) refl
  where
    go : (t : Bool) → ltb b 256 ≡ t → (t && eqb 256 b) ≡ false
    go true e = ne_eqb 256 b (λ z. omega (arith, ltb-true b 256 e))
    go false e = refl

pub in_byte_if : {A : Type 0} {P : A → Type 0} {n : Scope} {f g : Prog A} (b : ℕ) → Inside n P f → Inside n P g → Inside n P (byte_if b f g)
unfolding byte_if
in_byte_if b h k = looks (is_byte b) (end_no_byte b) (eats h) k

pub in_byte_at_if : {A : Type 0} {P : A → Type 0} {n : Scope} {f g : Prog A} (b : ℕ) → Inside n P f → Inside n P g → Inside n P (byte_at_if b f g)
unfolding byte_at_if
in_byte_at_if b h k = looks (is_byte b) (end_no_byte b) (more (omega arith) h) k

pub in_eat_n : {A : Type 0} {P : A → Type 0} {n : Scope} {f : Prog A} (m : ℕ) → Inside n P f → Held n m P (eat_n m f)
unfolding eat_n
in_eat_n zero h = h
in_eat_n (suc m) h = eats (in_eat_n m h)

-- a word in the text is as long as the keyword that it is
same_length : (v w : List ℕ) → same_word v w ≡ true → length w ≤ length v
unfolding same_word
same_length [] [] e = omega arith
same_length [] (y ∷ w) e = let z : ◌≡◌ {A = ℕ} 0 1 = cc in absurd (omega arith)
same_length (x ∷ v) [] e = omega arith
same_length (x ∷ v) (y ∷ w) e = omega (arith, same_length v w (and_right (eqb x y) (same_word v w) e))

pub in_word_if : {A : Type 0} {P : A → Type 0} {n : Scope} {f g : Prog A} (w : List ℕ) → Inside n P f → Inside n P g → Inside n P (word_if w f g)
unfolding word_if
in_word_if w h k = leads (λ v. same_word v w) (λ v e. more (same_length v w e) (in_eat_n (length w) h)) k

pub in_word_at_if : {A : Type 0} {P : A → Type 0} {n : Scope} {f g : Prog A} (w : List ℕ) → Held n (length w) P f → Inside n P g → Inside n P (word_at_if w f g)
unfolding word_at_if
in_word_at_if w h k = leads (λ v. same_word v w) (λ v e. more (same_length v w e) h) k

pub in_rank_if : {A : Type 0} {P : A → Type 0} {n : Scope} {f : ℕ → Prog A} {g : Prog A} (table : List (List ℕ)) → ((r : ℕ) → r < length table → Inside n P (f r)) → Inside n P g → Inside n P (rank_if table f g)
unfolding rank_if
in_rank_if table h k =
    leads (λ w. ltb (rank w table) (length table)) (λ w e. in_eat_n (length w) (h (rank w table) (ltb-true (rank w table) (length table) e))) k

pub in_token_if : {A : Type 0} {P : A → Type 0} {n : Scope} {f g : Prog A} (b : ℕ) → Inside n P f → Inside n P g → Inside n P (token_if b f g)
unfolding token_if
in_token_if b h k = then in_eat_ws λ _. in_byte_if b h k

pub in_expect_token : {n : Scope} (b : ℕ) → Inside n Any (expect_token b)
unfolding expect_token
in_expect_token b = then in_eat_ws λ _. in_byte_if b done (in_refuse 3 tt)

pub in_expect_keyword : {n : Scope} (w : List ℕ) → Inside n Any (expect_keyword w)
unfolding expect_keyword
in_expect_keyword w = then in_eat_ws λ _. in_word_if w done (in_refuse 3 tt)

pub in_skip_keyword : {n : Scope} (w : List ℕ) → Inside n Any (skip_keyword w)
unfolding skip_keyword
in_skip_keyword w = then in_eat_ws λ _. in_word_if w done done

pub in_skip_one : {n : Scope} (table : List (List ℕ)) → Inside n Any (skip_one table)
unfolding skip_one
in_skip_one table = then in_eat_ws λ _. in_rank_if table (λ r _. done) done

pub in_skip_all : {n : Scope} (u : ℕ) (table : List (List ℕ)) → Inside n Any (skip_all u table)
unfolding skip_all
in_skip_all zero table = done
in_skip_all (suc u) table = then in_eat_ws λ _. in_rank_if table (λ r _. in_skip_all u table) done

in_three_dots : {n : Scope} (q : ℕ) → T (asked q) → Inside n Any (three_dots q)
unfolding three_dots
in_three_dots q t = asks λ i l. in_byte_if _ (in_byte_if _ (in_byte_if _ done (fails q i t l)) (fails q i t l)) (fails q i t l)

pub in_dots_if : {A : Type 0} {P : A → Type 0} {n : Scope} {f g : Prog A} (q : ℕ) → T (asked q) → Inside n P f → Inside n P g → Inside n P (dots_if q f g)
unfolding dots_if
in_dots_if q t h k = in_byte_at_if _ (then (in_three_dots q t) λ _. h) k

in_quote_end : {n : Scope} (w : List ℕ) → Inside n Any (quote_end w)
unfolding quote_end
in_quote_end w = either (eqb (state_of quote_step 0 w) 0) (in_byte_if 34 done (in_refuse 13 tt)) (in_refuse 14 tt)

pub in_read_word : {n : Scope} → Inside n Any read_word
unfolding read_word
in_read_word = in_byte_if 34 (scans in_quote_end) (scans λ w. done)

-- What is read from c on as a word is `size_of` bytes long.
pub word_at_lem : {n : Scope} (c : ℕ) → HeldAt n c 0 (λ w. c + size_of w ≤ n.limit) read_word
unfolding read_word quote_end byte_if size_of
word_at_lem c =
    looks_at (is_byte 34) (end_no_byte 34)
    (eats_at (scans_at λ w. either_at (eqb (state_of quote_step 0 w) 0) (looks_at (is_byte 34) (end_no_byte 34) (eats_at (gives_at λ l. omega arith)) (anywhere (in_refuse 13 tt))) (anywhere (in_refuse 14 tt))))
    (scans_at λ w. gives_at λ l. l)

pub some_bytes : (w : Word) → is_empty_word w ≡ false → 1 ≤ size_of w
unfolding is_empty_word is_empty size_of
some_bytes (plain []) e = let z : ◌≡◌ {A = ℕ} 0 1 = cc in absurd (omega arith)
some_bytes (plain (x ∷ w)) e = omega arith
some_bytes (quoted w) e = omega arith

pub in_name_of : {n : Scope} (i : ℕ) (w : Word) → i + size_of w ≤ n.limit → Inside n (NameIn n.limit) (name_of i w)
unfolding name_of
in_name_of i w l = either_with (is_empty_word w) (λ _. in_refuse 3 tt) (λ e. gives (name_in i (size_of w) refl (some_bytes w e) l))

-- a word from the cursor on, whose place is known
pub word_here : {A : Type 0} {P : A → Type 0} {n : Scope} {k : ℕ → Word → Prog A} → ((i : ℕ) → i ≤ n.size → (w : Word) → i + size_of w ≤ n.limit → Inside n P (k i w))
    → Inside n P (place >>= λ i. (read_word >>= λ w. k i w))
unfolding place ◌>>=◌
word_here h = asks_at λ i l. then_at (word_at_lem i) (h i l)

pub in_name_word : {n : Scope} → Inside n (NameIn n.limit) name_word
unfolding name_word
in_name_word = word_here λ i _ w l. in_name_of i w l

pub in_parse_local_name : {n : Scope} → Inside n (NameIn n.limit) parse_local_name
unfolding parse_local_name
in_parse_local_name = then in_eat_ws λ _. in_byte_if _ in_name_word (in_refuse 3 tt)

pub in_parse_global_name : {n : Scope} → Inside n (NameIn n.limit) parse_global_name
unfolding parse_global_name
in_parse_global_name = then in_eat_ws λ _. in_byte_if _ in_name_word (in_refuse 3 tt)

in_balanced : {n : Scope} (a b : ℕ) → Inside n Any (balanced a b)
unfolding balanced
in_balanced a b = scans λ w. in_byte_if b done (in_refuse 13 tt)

pub in_skip_parens : {n : Scope} → Inside n Any skip_parens
unfolding skip_parens
in_skip_parens = then in_eat_ws λ _. in_byte_if _ (in_balanced _ _) (in_refuse 3 tt)

pub in_skip_metadata_ref : {n : Scope} → Inside n Any skip_metadata_ref
unfolding skip_metadata_ref
in_skip_metadata_ref = then in_read_word λ _. then in_eat_ws λ _. in_byte_if _ (in_byte_if _ (in_balanced _ _) (then in_read_word λ _. done)) done

escape_number : (t : Bool) → T (asked (pick t 13 14))
escape_number true = tt
escape_number false = tt

-- the one refusal past the text; the quote that opens it is at i, and w behind it
cstring_end_lem : {n : Scope} (i : ℕ) (w : List ℕ) → HeldAt n (suc i + length w) 0 (NameIn n.limit) (cstring_end i w)
unfolding cstring_end byte_if
cstring_end_lem {n} i w =
    either_at (eqb (state_of cstring_step 0 w) 0)
    (looks_at (is_byte 34) (end_no_byte 34) (eats_at (gives_at λ l. name_in i (length w + 2) refl (omega arith) (omega arith))) (anywhere (in_refuse 13 tt)))
    (anywhere (asks λ j l. let a : j + 1 ≤ n.size + 1 = omega arith in refuses (question _ (escape_number (eqb (state_of cstring_step 0 w) 1)), a)))

pub cstring_at_lem : {n : Scope} (i : ℕ) → HeldAt n (suc i) 0 (NameIn n.limit) (cstring_at i)
unfolding cstring_at
cstring_at_lem i = scans_at (cstring_end_lem i)
