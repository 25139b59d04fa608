-- Programs whose refusals lie in the text or one past its end, with a number of 01's or 26, and of which it is known what they give: a counter in its
-- bounds, words of trees, names that lie in the piece. What this asks of each step, and how programs are put together.
-- Assumes nothing.
use Rattle.std.specs.Prelude.{◌≡◌, refl, Bool, true, false, ◌&&◌, ◌||◌, not, List, [], ◌∷◌, ◌⊎◌, ℕ, suc, ◌+◌, ◌-◌, ◌≤◌, T, leb, eqb, length, take, drop}
use Rattle.std.proofs.Common.{sym, subst, inl, inr, arith, leb→le, eqb→eq, length-drop, length-take-le}
use Rattle.std.proofs.Math.Option.{Option}
use Rattle.program.specs.Class.{is_word}
use Rattle.program.specs.Prog.{Prog, ret, fail, look, eat, here, lead, scan, last, Res, ok, closed, no_at, run, ◌>>=◌, byte_at, lead_word, scan_len}
use Rattle.program.specs.Local.{scan_len_le, mono, closed_range, next, run_bind}

pub and_right : (a b : Bool) → (a && b) ≡ true → b ≡ true
and_right true b h = h
and_right false b h = let z : ◌≡◌ {A = ℕ} 0 1 = cc in absurd (omega arith)

-- The questions are 1 to 22 (01) and 26 (02: M-106); 0 is no refusal.
abbrev pub Question : ℕ → Type 0
Question q = (1 ≤ q) × ((q ≤ 22) ⊎ (q ≡ 26))

-- the same as a test, which a numeral passes by computation
abbrev pub asked : ℕ → Bool
asked q = leb 1 q && (leb q 22 || eqb q 26)

pub question : (q : ℕ) → T (asked q) → Question q
question q t = go (leb 1 q) (leb q 22) (eqb q 26) (leb→le 1 q) (leb→le q 22) (eqb→eq q 26) t
  where
    go : (a b c : Bool) → (T a → 1 ≤ q) → (T b → q ≤ 22) → (T c → q ≡ 26) → T (a && (b || c)) → Question q
    go true true c l u e t = (l tt, inl (u tt))
    go true false c l u e t = (l tt, inr (e t))
    go false b c l u e t = absurd t

-- A refusal's number and place, where the text has n bytes. "two escape errors can put it one past the text's length"
abbrev pub Near : ℕ → ℕ → ℕ → Type 0
Near n q p = Question q × (p ≤ n + 1)

-- Where programs run: so many bytes the text has; runs that end behind `limit` say nothing of what they give; what a piece gives that ends at its
-- closing byte is so. With the text's end as the limit this is about every run, with a piece's end it tells what lies in the piece.
pub record Scope : Type 1 where
  pub size : ℕ
  pub limit : ℕ
  pub Closes : List ℕ → Type 0

-- How a run may end there: what it gives has P, what it ends a piece with is as the scope says, what it refuses is near.
abbrev pub Sound : {A : Type 0} → Scope → (A → Type 0) → Res A → Type 0
Sound n P (ok a j) = j ≤ n.limit → P a
Sound n P (closed l j) = j ≤ n.limit → n.Closes l
Sound n P (no_at q p) = n.size ≤ n.limit → Near n.size q p

-- Every run of a program ends so, where the text has n bytes and at least m of them are left. A step past the text's end would refuse with 0,
-- so a program that takes bytes is held only where they are known to be left.
pub data Held {A : Type 0} (n : Scope) (m : ℕ) (P : A → Type 0) (f : Prog A) : Type 0 where
  held : ((i : ℕ) (s : List ℕ) → i + length s ≤ n.size → m ≤ length s → Sound n P (run f i s)) → Held n m P f

-- wherever the cursor is
abbrev pub Inside : {A : Type 0} → Scope → (A → Type 0) → Prog A → Type 0
Inside n P f = Held n 0 P f

abbrev pub Any : {A : Type 0} → A → Type 0
Any a = Unit {0}

pub sound : {A : Type 0} {P : A → Type 0} {n : Scope} {m : ℕ} {f : Prog A} → Held n m P f → (i : ℕ) (s : List ℕ) → i + length s ≤ n.size → m ≤ length s → Sound n P (run f i s)
sound (held h) = h

-- where more is left
pub more : {A : Type 0} {P : A → Type 0} {n : Scope} {m k : ℕ} {f : Prog A} → m ≤ k → Held n m P f → Held n k P f
more l h = held λ i s a b. sound h i s a (omega arith)

-- what has P has Q
pub weaker : {A : Type 0} {P Q : A → Type 0} {n : Scope} {m : ℕ} {f : Prog A} → ((a : A) → P a → Q a) → Held n m P f → Held n m Q f
weaker {A} {P} {Q} {n} {m} {f} g h = held λ i s l r. go (run f i s) (sound h i s l r)
  where
    go : (r : Res A) → Sound n P r → Sound n Q r
    go (ok a j) x = λ b. g a (x b)
    go (closed ws j) x = x
    go (no_at q p) x = x

-- The steps.

pub gives : {A : Type 0} {P : A → Type 0} {n : Scope} {m : ℕ} {a : A} → P a → Held n m P (ret a)
unfolding run
gives h = held λ i s l r b. h

pub refuses : {A : Type 0} {P : A → Type 0} {n : Scope} {m : ℕ} {q p : ℕ} → Near n.size q p → Held n m P (fail q p)
unfolding run
refuses h = held λ i s l r b. h

pub eats : {A : Type 0} {P : A → Type 0} {n : Scope} {m : ℕ} {f : Prog A} → Held n m P f → Held n (suc m) P (eat f)
unfolding run
eats {P = P} {n = n} {m = m} {f = f} h = held go
  where
    go : (i : ℕ) (s : List ℕ) → i + length s ≤ n.size → suc m ≤ length s → Sound n P (run (eat f) i s)
    go i [] l r = absurd (omega arith)
    go i (x ∷ s) l r = sound h (suc i) s (omega arith) (omega arith)

pub asks : {A : Type 0} {P : A → Type 0} {n : Scope} {m : ℕ} {k : ℕ → Prog A} → ((i : ℕ) → i ≤ n.size → Held n m P (k i)) → Held n m P (here k)
unfolding run
asks h = held λ i s l r. sound (h i (omega arith)) i s l r

-- a test of the byte at the cursor that the text's end does not pass
pub looks : {A : Type 0} {P : A → Type 0} {n : Scope} {f g : Prog A} (t : ℕ → Bool) → t 256 ≡ false → Held n 1 P f → Inside n P g → Inside n P (look (λ x. elim (t x) [ true ↦ f | false ↦ g ]))
unfolding run byte_at
looks {P = P} {n = n} {f = f} {g = g} t e h k = held go
  where
    at : (b : Bool) (i : ℕ) (s : List ℕ) → i + length s ≤ n.size → 1 ≤ length s → Sound n P (run (elim b [ true ↦ f | false ↦ g ]) i s)
    at true i s l r = sound h i s l r
    at false i s l r = sound k i s l (omega arith)

    go : (i : ℕ) (s : List ℕ) → i + length s ≤ n.size → 0 ≤ length s → Sound n P (run (look (λ x. elim (t x) [ true ↦ f | false ↦ g ])) i s)
    go i [] l r = rw e (sound k i [] l r)
    go i (x ∷ s) l r = at (t x) i (x ∷ s) l (omega arith)

lead_le : (s : List ℕ) → length (lead_word s) ≤ length s
unfolding lead_word
lead_le [] = omega arith
lead_le (x ∷ s) = go (is_word x) (lead_le s)
  where
    go : (b : Bool) → length (lead_word s) ≤ length s → length {A = ℕ} (elim b [ true ↦ x ∷ lead_word s | false ↦ [] ]) ≤ suc (length s)
    go true h = omega arith
    go false h = omega arith

-- a test of the word at the cursor, whose bytes are left
pub leads : {A : Type 0} {P : A → Type 0} {n : Scope} {f : List ℕ → Prog A} {g : Prog A} (t : List ℕ → Bool) → ((w : List ℕ) → t w ≡ true → Held n (length w) P (f w)) → Inside n P g
    → Inside n P (lead (λ w. elim (t w) [ true ↦ f w | false ↦ g ]))
unfolding run
leads {P = P} {n = n} {f = f} {g = g} t h k = held λ i s l r. at (t (lead_word s)) (h (lead_word s)) i s l (lead_le s)
  where
    at : {w : List ℕ} (b : Bool) → (b ≡ true → Held n (length w) P (f w)) → (i : ℕ) (s : List ℕ) → i + length s ≤ n.size → length w ≤ length s → Sound n P (run (elim b [ true ↦ f w | false ↦ g ]) i s)
    at true h i s l r = sound (h refl) i s l r
    at false h i s l r = sound k i s l (omega arith)

pub scans : {A : Type 0} {P : A → Type 0} {n : Scope} {m : ℕ} {f : ℕ → ℕ → Option ℕ} {q : ℕ} {k : List ℕ → Prog A} → ((w : List ℕ) → Inside n P (k w)) → Held n m P (scan f q k)
unfolding run
scans {f = f} {q = q} h =
    held λ i s l r.
    sound (h (take (scan_len f q s) s)) (i + scan_len f q s) (drop (scan_len f q s) s) (omega (arith, length-drop (scan_len f q s) s, scan_len_le f q s)) (omega arith)

pub ends : {A : Type 0} {P : A → Type 0} {n : Scope} {m : ℕ} {b : ℕ} {ws : List ℕ} {f : Prog A} → n.Closes ws → Held n m P f → Held n m P (last b ws f)
unfolding run
ends {P = P} {n = n} {m = m} {b = b} {ws = ws} {f = f} low h = held go
  where
    at : (t : Bool) (i : ℕ) (s : List ℕ) → Sound n P (run f i s) → Sound n P (elim t [ true ↦ closed ws (suc i) | false ↦ run f i s ])
    at true i s a = λ b. low
    at false i s a = a

    go : (i : ℕ) (s : List ℕ) → i + length s ≤ n.size → m ≤ length s → Sound n P (run (last b ws f) i s)
    go i [] l r = sound h i [] l r
    go i (x ∷ s) l r = at (eqb x b && not (is_word x)) i (x ∷ s) (sound h i (x ∷ s) l r)

-- One program behind another: the first ended no later than both did, and no later than the text.
second : {A B : Type 0} (P : A → Type 0) {Q : B → Type 0} {n : Scope} (k : A → Prog B) (a : A) → (P a → Inside n Q (k a)) → (j : ℕ) (t : List ℕ) → (j ≤ n.limit → P a) → j + length t ≤ n.size
    → (r : Res B) → run (k a) j t ≡ r → Sound n Q r
second P {Q} {n} k a g j t x m (ok b z) e = λ l. subst (Sound n Q) e (sound (g (x (omega (arith, (mono (k a) j z t (rw e refl)).0)))) j t m (omega arith)) l
second P {Q} {n} k a g j t x m (closed ws z) e = λ l. subst (Sound n Q) e (sound (g (x (omega (arith, (closed_range (k a) j z t ws e).0)))) j t m (omega arith)) l
second P {Q} {n} k a g j t x m (no_at q p) e = λ l. subst (Sound n Q) e (sound (g (x (omega arith))) j t m (omega arith)) l

both : {A B : Type 0} {P : A → Type 0} {Q : B → Type 0} {n : Scope} (f : Prog A) {k : A → Prog B} → ((a : A) → P a → Inside n Q (k a)) → (i : ℕ) (s : List ℕ) → i + length s ≤ n.size → Sound n P (run f i s)
    → Sound n Q (run (f >>= k) i s)
unfolding next
both {A} {B} {P} {Q} {n} f {k} g i s l h = subst (Sound n Q) (sym (run_bind f k i s)) (go (run f i s) refl h)
  where
    go : (r : Res A) → run f i s ≡ r → Sound n P r → Sound n Q (next k i s r)
    go (ok a j) e x =
        let o : (i ≤ j) × (j ≤ i + length s) = mono f i j s (rw e refl) in
        let t : List ℕ = drop (j - i) s in
        second P k a (g a) j t x (omega (arith, length-drop (j - i) s)) (run (k a) j t) refl
    go (closed ws j) e x = x
    go (no_at q p) e x = x

pub then_with : {A B : Type 0} {P : A → Type 0} {Q : B → Type 0} {n : Scope} {m : ℕ} {f : Prog A} {k : A → Prog B} → Held n m P f → ((a : A) → P a → Inside n Q (k a)) → Held n m Q (f >>= k)
then_with {f = f} h g = held λ i s l r. both f g i s l (sound h i s l r)

pub then : {A B : Type 0} {P : A → Type 0} {Q : B → Type 0} {n : Scope} {m : ℕ} {f : Prog A} {k : A → Prog B} → Held n m P f → ((a : A) → Inside n Q (k a)) → Held n m Q (f >>= k)
then h g = then_with h (λ a x. g a)

pub done : {A : Type 0} {n : Scope} {m : ℕ} {a : A} → Held n m Any (ret a)
done = gives tt

pub fails : {A : Type 0} {P : A → Type 0} {n : Scope} {m : ℕ} (q p : ℕ) → T (asked q) → p ≤ n.size → Held n m P (fail q p)
fails {n = n} q p t l = let a : p ≤ n.size + 1 = omega arith in refuses (question q t, a)

-- the test's answer is known on either side
pub either_with : {A : Type 0} {P : A → Type 0} {n : Scope} {m : ℕ} {f g : Prog A} (t : Bool) → (t ≡ true → Held n m P f) → (t ≡ false → Held n m P g) → Held n m P (elim t [ true ↦ f | false ↦ g ])
either_with true h k = h refl
either_with false h k = k refl

pub either : {A : Type 0} {P : A → Type 0} {n : Scope} {m : ℕ} {f g : Prog A} (t : Bool) → Held n m P f → Held n m P g → Held n m P (elim t [ true ↦ f | false ↦ g ])
either true h k = h
either false h k = k

-- The same from a known place on: for what a name says of the place where it was read.
pub data HeldAt {A : Type 0} (n : Scope) (c m : ℕ) (P : A → Type 0) (f : Prog A) : Type 0 where
  held_at : ((s : List ℕ) → c + length s ≤ n.size → m ≤ length s → Sound n P (run f c s)) → HeldAt n c m P f

sound_at : {A : Type 0} {P : A → Type 0} {n : Scope} {c m : ℕ} {f : Prog A} → HeldAt n c m P f → (s : List ℕ) → c + length s ≤ n.size → m ≤ length s → Sound n P (run f c s)
sound_at (held_at h) = h

pub anywhere : {A : Type 0} {P : A → Type 0} {n : Scope} {c m : ℕ} {f : Prog A} → Held n m P f → HeldAt n c m P f
anywhere {c = c} h = held_at λ s l r. sound h c s l r

pub asks_at : {A : Type 0} {P : A → Type 0} {n : Scope} {m : ℕ} {k : ℕ → Prog A} → ((i : ℕ) → i ≤ n.size → HeldAt n i m P (k i)) → Held n m P (here k)
unfolding run
asks_at h = held λ i s l r. sound_at (h i (omega arith)) s l r

pub gives_at : {A : Type 0} {P : A → Type 0} {n : Scope} {c m : ℕ} {a : A} → (c ≤ n.limit → P a) → HeldAt n c m P (ret a)
unfolding run
gives_at h = held_at λ s l r. h

pub eats_at : {A : Type 0} {P : A → Type 0} {n : Scope} {c m : ℕ} {f : Prog A} → HeldAt n (suc c) m P f → HeldAt n c (suc m) P (eat f)
unfolding run
eats_at {P = P} {n = n} {c = c} {m = m} {f = f} h = held_at go
  where
    go : (s : List ℕ) → c + length s ≤ n.size → suc m ≤ length s → Sound n P (run (eat f) c s)
    go [] l r = absurd (omega arith)
    go (x ∷ s) l r = sound_at h s (omega arith) (omega arith)

pub looks_at : {A : Type 0} {P : A → Type 0} {n : Scope} {c : ℕ} {f g : Prog A} (t : ℕ → Bool) → t 256 ≡ false → HeldAt n c 1 P f → HeldAt n c 0 P g
    → HeldAt n c 0 P (look (λ x. elim (t x) [ true ↦ f | false ↦ g ]))
unfolding run byte_at
looks_at {P = P} {n = n} {c = c} {f = f} {g = g} t e h k = held_at go
  where
    at : (b : Bool) (s : List ℕ) → c + length s ≤ n.size → 1 ≤ length s → Sound n P (run (elim b [ true ↦ f | false ↦ g ]) c s)
    at true s l r = sound_at h s l r
    at false s l r = sound_at k s l (omega arith)

    go : (s : List ℕ) → c + length s ≤ n.size → 0 ≤ length s → Sound n P (run (look (λ x. elim (t x) [ true ↦ f | false ↦ g ])) c s)
    go [] l r = rw e (sound_at k [] l r)
    go (x ∷ s) l r = at (t x) (x ∷ s) l (omega arith)

pub scans_at : {A : Type 0} {P : A → Type 0} {n : Scope} {c m : ℕ} {f : ℕ → ℕ → Option ℕ} {q : ℕ} {k : List ℕ → Prog A} → ((w : List ℕ) → HeldAt n (c + length w) 0 P (k w)) → HeldAt n c m P (scan f q k)
unfolding run
scans_at {P = P} {n = n} {c = c} {f = f} {q = q} {k = k} h =
    held_at λ s l r.
    let z : ℕ = scan_len f q s in
    let t : length (take z s) ≡ z = length-take-le z s (scan_len_le f q s) in
    subst (λ (j : ℕ). Sound n P (run (k (take z s)) (c + j) (drop z s))) t
    (sound_at (h (take z s)) (drop z s) (omega (arith, length-drop z s, scan_len_le f q s)) (omega arith))

pub then_at : {A B : Type 0} {P : A → Type 0} {Q : B → Type 0} {n : Scope} {c m : ℕ} {f : Prog A} {k : A → Prog B} → HeldAt n c m P f → ((a : A) → P a → Inside n Q (k a)) → HeldAt n c m Q (f >>= k)
then_at {c = c} {f = f} h g = held_at λ s l r. both f g c s l (sound_at h s l r)

pub either_at : {A : Type 0} {P : A → Type 0} {n : Scope} {c m : ℕ} {f g : Prog A} (t : Bool) → HeldAt n c m P f → HeldAt n c m P g → HeldAt n c m P (elim t [ true ↦ f | false ↦ g ])
either_at true h k = h
either_at false h k = k
