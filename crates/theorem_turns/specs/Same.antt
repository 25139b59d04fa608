-- Programs that do the same on short texts: what this asks of each step, and how programs are put together. A step that takes a byte leaves a
-- shorter text to what is behind it.
-- Assumes nothing.
use Rattle.std.specs.Prelude.{◌≡◌, refl, Bool, true, false, ◌&&◌, not, List, [], ◌∷◌, ℕ, zero, suc, ◌+◌, ◌-◌, ◌≤◌, ◌<◌, ltb, eqb, length, take, drop}
use Rattle.std.proofs.Common.{sym, ap, ◌∙◌, arith, length-drop}
use Rattle.std.proofs.Math.Option.{Option}
use Rattle.program.specs.Class.{is_word}
use Rattle.program.specs.Prog.{Prog, look, eat, here, lead, scan, last, Res, ok, closed, no_at, run, ◌>>=◌, byte_at, lead_word, scan_len}
use Rattle.program.specs.Local.{next, run_bind, mono}
use Rattle.grammar.specs.Lexer.{eat_ws, is_byte, byte_if, byte_at_if, same_word, eat_n, word_if, rank, rank_if, token_if}

-- f and g do the same on texts of less than n bytes, wherever the cursor is.
pub data Same {A : Type 0} (n : ℕ) (f g : Prog A) : Type 0 where
  same : ((i : ℕ) (s : List ℕ) → length s < n → run f i s ≡ run g i s) → Same n f g

pub runs : {A : Type 0} {n : ℕ} {f g : Prog A} → Same n f g → (i : ℕ) (s : List ℕ) → length s < n → run f i s ≡ run g i s
runs (same h) = h

pub alike : {A : Type 0} {n : ℕ} {f : Prog A} → Same n f f
alike = same λ i s l. refl

pub no_text : {A : Type 0} {f g : Prog A} → Same 0 f g
no_text = same λ i s l. absurd (omega arith)

pub as_well : {A : Type 0} {n : ℕ} {f g h : Prog A} → Same n f g → Same n g h → Same n f h
as_well d e = same λ i s l. runs d i s l ∙ runs e i s l

pub shorter : {A : Type 0} {n : ℕ} {f g : Prog A} → Same (suc n) f g → Same n f g
shorter h = same λ i s l. runs h i s (omega arith)

-- Steps.
pub eats : {A : Type 0} {n : ℕ} {f g : Prog A} → Same n f g → Same (suc n) (eat f) (eat g)
unfolding run
eats {A} {n} {f} {g} h = same go
  where
    go : (i : ℕ) (s : List ℕ) → length s < suc n → run (eat f) i s ≡ run (eat g) i s
    go i [] l = refl
    go i (x ∷ s) l = runs h (suc i) s (omega arith)

pub looks : {A : Type 0} {n : ℕ} {f g : ℕ → Prog A} → ((b : ℕ) → Same n (f b) (g b)) → Same n (look f) (look g)
unfolding run
looks h = same λ i s l. runs (h (byte_at s)) i s l

pub asks : {A : Type 0} {n : ℕ} {f g : ℕ → Prog A} → ((i : ℕ) → Same n (f i) (g i)) → Same n (here f) (here g)
unfolding run
asks h = same λ i s l. runs (h i) i s l

pub leads : {A : Type 0} {n : ℕ} {f g : List ℕ → Prog A} → ((w : List ℕ) → Same n (f w) (g w)) → Same n (lead f) (lead g)
unfolding run
leads h = same λ i s l. runs (h (lead_word s)) i s l

pub scans : {A : Type 0} {n : ℕ} {t : ℕ → ℕ → Option ℕ} {q : ℕ} {f g : List ℕ → Prog A} → ((w : List ℕ) → Same n (f w) (g w)) → Same n (scan t q f) (scan t q g)
unfolding run
scans {A} {n} {t} {q} h =
    same λ i s l. runs (h (take (scan_len t q s) s)) (i + scan_len t q s) (drop (scan_len t q s) s) (omega (arith, length-drop (scan_len t q s) s))

pub ends : {A : Type 0} {n b : ℕ} {ws : List ℕ} {f g : Prog A} → Same n f g → Same n (last b ws f) (last b ws g)
unfolding run
ends {A} {n} {b} {ws} {f} {g} h = same go
  where
    at : (i x : ℕ) (s : List ℕ) (t : Bool) → (eqb x b && not (is_word x)) ≡ t → run f i (x ∷ s) ≡ run g i (x ∷ s) → run (last b ws f) i (x ∷ s) ≡ run (last b ws g) i (x ∷ s)
    at i x s true t e = rw (run, t)
    at i x s false t e = rw (run, t) e

    go : (i : ℕ) (s : List ℕ) → length s < n → run (last b ws f) i s ≡ run (last b ws g) i s
    go i [] l = runs h i [] l
    go i (x ∷ s) l = at i x s (eqb x b && not (is_word x)) refl (runs h i (x ∷ s) l)

pub either : {A : Type 0} {n : ℕ} {f g p q : Prog A} (t : Bool) → Same n f p → Same n g q → Same {A = A} n (elim t [ true ↦ f | false ↦ g ]) (elim t [ true ↦ p | false ↦ q ])
either true h k = h
either false h k = k

-- One program behind another.
pub both : {A B : Type 0} {n : ℕ} {f g : Prog A} {h k : A → Prog B} → Same n f g → ((a : A) → Same n (h a) (k a)) → Same n (f >>= h) (g >>= k)
unfolding next
both {A} {B} {n} {f} {g} {h} {k} d e = same go
  where
    at : (i : ℕ) (s : List ℕ) → length s < n → (r : Res A) → next h i s r ≡ next k i s r
    at i s l (ok a j) = runs (e a) j (drop (j - i) s) (omega (arith, length-drop (j - i) s))
    at i s l (closed ws j) = refl
    at i s l (no_at q p) = refl

    go : (i : ℕ) (s : List ℕ) → length s < n → run (f >>= h) i s ≡ run (g >>= k) i s
    go i s l = run_bind f h i s ∙ (at i s l (run f i s) ∙ (ap (next k i s) (runs d i s l) ∙ sym (run_bind g k i s)))

pub then : {A B : Type 0} {n : ℕ} {h k : A → Prog B} (f : Prog A) → ((a : A) → Same n (h a) (k a)) → Same n (f >>= h) (f >>= k)
then {A} f e = both (alike {f = f}) e

-- f takes a byte wherever it ends with a value.
abbrev pub Moves : {A : Type 0} → Prog A → Type 0
Moves {A} f = (i j : ℕ) (s : List ℕ) (a : A) → run f i s ≡ ok a j → suc i ≤ j

pub then_moved : {A B : Type 0} {n : ℕ} {h k : A → Prog B} (f : Prog A) → Moves f → ((a : A) → Same n (h a) (k a)) → Same (suc n) (f >>= h) (f >>= k)
unfolding next
then_moved {A} {B} {n} {h} {k} f m e = same go
  where
    at : (i : ℕ) (s : List ℕ) → length s < suc n → (r : Res A) → run f i s ≡ r → next h i s r ≡ next k i s r
    at i s l (ok a j) t =
        let b : (i ≤ j) × (j ≤ i + length s) = mono f i j s (rw t refl) in
        runs (e a) j (drop (j - i) s) (omega (arith, length-drop (j - i) s, m i j s a t))
    at i s l (closed ws j) t = refl
    at i s l (no_at q p) t = refl

    go : (i : ℕ) (s : List ℕ) → length s < suc n → run (f >>= h) i s ≡ run (f >>= k) i s
    go i s l = run_bind f h i s ∙ (at i s l (run f i s) refl ∙ sym (run_bind f k i s))

-- What the lexer asks, and takes where the answer is yes.
pub by_byte : {A : Type 0} {n : ℕ} {f g p q : Prog A} (b : ℕ) → Same n f p → Same n g q → Same n (byte_if b f g) (byte_if b p q)
unfolding byte_if
by_byte b h k = looks λ x. either (is_byte b x) (shorter (eats h)) k

pub by_byte_at : {A : Type 0} {n : ℕ} {f g p q : Prog A} (b : ℕ) → Same n f p → Same n g q → Same n (byte_at_if b f g) (byte_at_if b p q)
unfolding byte_at_if
by_byte_at b h k = looks λ x. either (is_byte b x) h k

eats_n : {A : Type 0} {n : ℕ} {f g : Prog A} (m : ℕ) → Same n f g → Same n (eat_n m f) (eat_n m g)
unfolding eat_n
eats_n zero h = h
eats_n (suc m) h = shorter (eats (eats_n m h))

pub by_word : {A : Type 0} {n : ℕ} {f g p q : Prog A} (w : List ℕ) → Same n f p → Same n g q → Same n (word_if w f g) (word_if w p q)
unfolding word_if
by_word w h k = leads λ v. either (same_word v w) (eats_n (length w) h) k

-- The same, where what is behind has a byte less.
pub byte_taken : {A : Type 0} {n : ℕ} {f g p q : Prog A} (b : ℕ) → Same n f p → Same (suc n) g q → Same (suc n) (byte_if b f g) (byte_if b p q)
unfolding byte_if
byte_taken b h k = looks λ x. either (is_byte b x) (eats h) k

pub token_taken : {A : Type 0} {n : ℕ} {f g p q : Prog A} (b : ℕ) → Same n f p → Same (suc n) g q → Same (suc n) (token_if b f g) (token_if b p q)
unfolding token_if
token_taken b h k = then eat_ws λ _. byte_taken b h k

-- a word with a byte in it
pub word_taken : {A : Type 0} {n : ℕ} {f g p q : Prog A} (x : ℕ) (w : List ℕ) → Same n f p → Same (suc n) g q → Same (suc n) (word_if (x ∷ w) f g) (word_if (x ∷ w) p q)
unfolding word_if eat_n
word_taken x w h k = leads λ v. either (same_word v (x ∷ w)) (eats (eats_n (length w) h)) k

-- The empty word is not in a table: it stands where no word stands, and is passed without a byte.
abbrev pub Full : List (List ℕ) → Type 0
Full table = ltb (rank [] table) (length table) ≡ false

pub rank_taken : {A : Type 0} {n : ℕ} {f p : ℕ → Prog A} {g q : Prog A} (table : List (List ℕ)) → Full table → ((r : ℕ) → Same n (f r) (p r)) → Same (suc n) g q
    → Same (suc n) (rank_if table f g) (rank_if table p q)
unfolding rank_if eat_n
rank_taken {A} {n} {f} {p} {g} {q} table e h k = leads at
  where
    at : (w : List ℕ)
        → Same {A = A} (suc n)
        (elim (ltb (rank w table) (length table)) [ true ↦ eat_n (length w) (f (rank w table)) | false ↦ g ])
        (elim (ltb (rank w table) (length table)) [ true ↦ eat_n (length w) (p (rank w table)) | false ↦ q ])
    at [] = rw e k
    at (x ∷ w) = either (ltb (rank (x ∷ w) table) (length table)) (eats (eats_n (length w) (h (rank (x ∷ w) table)))) k
