-- Where no attribute begins, by the first two bytes or by the word: every attribute's word begins with two small letters, and no
-- word of the small table is in a long one; antt computes both.
-- Assumes nothing.
use mathlib.Core.Path.{◌≡◌, refl, sym, ap, ◌∙◌, subst}
use mathlib.Core.Bool.{Bool, true, false, ◌&&◌, not}
use mathlib.Core.List.{List, [], ◌∷◌}
use Prim.Native.Nat.{ℕ, zero, suc, ◌+◌, ◌-◌, ◌≤◌, ◌<◌}
use native.Mathlib.Omega.{arith}
use lib.Dec.{ltb, leb, eqb}
use lib.ListN.{length, get_or, drop}
use borrow.Author.Tests.{le-leb, lt-leb, le-ltb, eqb-true}
use Rattle.program.specs.Class.{is_word}
use Rattle.program.specs.Prog.{Prog, Res, run, lead_word}
use Rattle.grammar.specs.Lexer.{same_word, eat_n, word_if, rank, rank_if}
use Rattle.lexer.specs.Step.{word_p, rank_p}
use Rattle.lexer.specs.Reads.{Aim, Finds}
use Rattle.lexer.specs.Parsed.{Parsed}
use Rattle.attributes.specs.Step.{is_small, letters, letters_p}

-- ---- what stands at the cursor is in no table of words that begin with two letters
-- the words of a table do
unfoldable pub lettered : List (List ℕ) → Bool
lettered [] = true
lettered (k ∷ ks) = letters k && lettered ks

and_false : (b : Bool) → (b && false) ≡ false
and_false true = refl
and_false false = refl

no_bool : {A : Type 0} → ◌≡◌ {A = Bool} true false → A
no_bool e = absurd (let z : ◌≡◌ {A = ℕ} 0 1 = cc in omega arith)

and_left : (a b : Bool) → (a && b) ≡ true → a ≡ true
and_left true b e = refl
and_left false b e = no_bool (sym e)

and_right : (a b : Bool) → (a && b) ≡ true → b ≡ true
and_right true b e = e
and_right false b e = no_bool (sym e)

-- two bytes that are not both small, beside two that are
two_other : (x y k l : ℕ) (b : Bool) → (is_small x && is_small y) ≡ false → (is_small k && is_small l) ≡ true → (eqb x k && (eqb y l && b)) ≡ false
two_other x y k l b h e = go (eqb x k) refl (eqb y l) refl
  where
    go : (p : Bool) → eqb x k ≡ p → (q : Bool) → eqb y l ≡ q → (p && (q && b)) ≡ false
    go false i q j = refl
    go true i false j = refl
    go true i true j =
        let a : x ≡ k = eqb-true x k i in
        let c : y ≡ l = eqb-true y l j in
        no_bool (sym e ∙ ap (λ (z : ℕ). is_small z && is_small l) (sym a) ∙ ap (λ (z : ℕ). is_small x && is_small z) (sym c) ∙ h)

other : (s k : List ℕ) → letters s ≡ false → letters k ≡ true → same_word (lead_word s) k ≡ false
unfolding letters lead_word same_word
other s [] h e = no_bool (sym e)
other s (a ∷ []) h e = no_bool (sym e)
other [] (a ∷ b ∷ k) h e = refl
other (x ∷ []) (a ∷ b ∷ k) h e = go (is_word x) refl
  where
    go : (z : Bool) → is_word x ≡ z → same_word (lead_word (x ∷ [])) (a ∷ b ∷ k) ≡ false
    go true t = rw (lead_word, t) (and_false (eqb x a))
    go false t = rw (lead_word, t)
other (x ∷ y ∷ s) (a ∷ b ∷ k) h e = go (is_word x) refl (is_word y) refl
  where
    go : (z : Bool) → is_word x ≡ z → (v : Bool) → is_word y ≡ v → same_word (lead_word (x ∷ y ∷ s)) (a ∷ b ∷ k) ≡ false
    go false t v u = rw (lead_word, t)
    go true t false u = rw (lead_word, t, lead_word, u) (and_false (eqb x a))
    go true t true u = rw (lead_word, t, lead_word, u) (two_other x y a b (same_word (lead_word s) k) h e)

none_in : (table : List (List ℕ)) (s : List ℕ) → letters s ≡ false → lettered table ≡ true → rank (lead_word s) table ≡ length table
unfolding rank lettered
none_in [] s h e = refl
none_in (k ∷ ks) s h e = rw (rank, other s k h (and_left (letters k) (lettered ks) e)) (ap suc (none_in ks s h (and_right (letters k) (lettered ks) e)))

-- ---- so the program goes on behind the table
rank_run : {A : Type 0} (table : List (List ℕ)) (f : ℕ → Prog A) (g : Prog A) (i : ℕ) (s : List ℕ) → rank (lead_word s) table ≡ length table → run (rank_if table f g) i s ≡ run g i s
unfolding run rank_if
rank_run table f g i s e = ap (λ (b : Bool). run (elim b [ true ↦ eat_n (length (lead_word s)) (f (rank (lead_word s) table)) | false ↦ g ]) i s) (le-ltb (rank (lead_word s) table) (length table) (let h : length table ≤ rank (lead_word s) table = omega (arith, e) in h))

word_run : {A : Type 0} (kw : List ℕ) (f g : Prog A) (i : ℕ) (s : List ℕ) → same_word (lead_word s) kw ≡ false → run (word_if kw f g) i s ≡ run g i s
unfolding run word_if
word_run kw f g i s e = ap (λ (b : Bool). run (elim b [ true ↦ eat_n (length kw) f | false ↦ g ]) i s) e

same_is : (w k : List ℕ) → same_word w k ≡ true → w ≡ k
unfolding same_word
same_is [] [] e = refl
same_is [] (y ∷ k) e = no_bool (sym e)
same_is (x ∷ w) [] e = no_bool (sym e)
same_is (x ∷ w) (y ∷ k) e =
    let a : x ≡ y = eqb-true x y (and_left (eqb x y) (same_word w k) e) in
    rw (a, same_is w k (and_right (eqb x y) (same_word w k) e))

-- ---- two tables that have no word in common
unfoldable pub apart : List (List ℕ) → List (List ℕ) → Bool
apart [] table = true
apart (k ∷ ks) table = eqb (rank k table) (length table) && apart ks table

-- a word of the first is not in the second
apart_none : (small table : List (List ℕ)) (w : List ℕ) → apart small table ≡ true → rank w small < length small → rank w table ≡ length table
unfolding apart rank
apart_none [] table w t h = absurd (omega arith)
apart_none (k ∷ ks) table w t h = go (apart_none ks table w (and_right (eqb (rank k table) (length table)) (apart ks table) t)) (same_word w k) refl
  where
    go : (rank w ks < length ks → rank w table ≡ length table) → (b : Bool) → same_word w k ≡ b → rank w table ≡ length table
    go rest true e = ap (λ (z : List ℕ). rank z table) (same_is w k e) ∙ eqb-true (rank k table) (length table) (and_left (eqb (rank k table) (length table)) (apart ks table) t)
    go rest false e = let z : rank w (k ∷ ks) ≡ suc (rank w ks) = rw (rank, e) in rest (omega (arith, z, h))

-- nor is it the second's one word
apart_other : (small : List (List ℕ)) (k w : List ℕ) → apart small (k ∷ []) ≡ true → rank w small < length small → same_word w k ≡ false
unfolding rank
apart_other small k w t h = go (same_word w k) refl
  where
    go : (b : Bool) → same_word w k ≡ b → b ≡ false
    go false e = refl
    go true e =
        let z : rank w (k ∷ []) ≡ 0 = rw (rank, e) in
        let o : rank w (k ∷ []) ≡ 1 = apart_none small (k ∷ []) w t h in
        absurd (omega (arith, z, o))

in_run : {A : Type 0} (kw : List ℕ) (table : List (List ℕ)) (f : ℕ → Prog A) (g : Prog A) (i : ℕ) (s : List ℕ) → ltb (rank kw table) (length table) ≡ true → same_word (lead_word s) kw ≡ true → run (rank_if table f g) i s ≡ run (word_if kw (f (rank kw table)) g) i s
unfolding run rank_if word_if
in_run kw table f g i s t e =
    ap (λ (w : List ℕ). run (elim (ltb (rank w table) (length table)) [ true ↦ eat_n (length w) (f (rank w table)) | false ↦ g ]) i s) (same_is (lead_word s) kw e) ∙ ap (λ (b : Bool). run (elim b [ true ↦ eat_n (length kw) (f (rank kw table)) | false ↦ g ]) i s) t ∙ sym (ap (λ (b : Bool). run (elim b [ true ↦ eat_n (length kw) (f (rank kw table)) | false ↦ g ]) i s) e)

module _ {A : Type 0} {E : Aim A} {text : List ℕ} {p p' : Parsed} where
  pub letters_rank : {g : Prog A} (table : List (List ℕ)) (f : ℕ → Prog A) {r : Bool} → lettered table ≡ true → r ≡ letters_p text p → r ≡ false → Finds g E text p p' → Finds (rank_if table f g) E text p p'
  letters_rank {g} table f {r} t l y s = record {
    runs = λ cur e i. subst (λ (z : Res A). E.ends cur.at cur.w z p') (sym (rank_run table f g cur.at (drop cur.at text) (none_in table (drop cur.at text) (ap (letters_p text) (sym e) ∙ sym l ∙ y) t))) (s.runs cur e i);
    hands = s.hands;
  }

  pub letters_word : {g : Prog A} (kw : List ℕ) (f : Prog A) {r : Bool} → letters kw ≡ true → r ≡ letters_p text p → r ≡ false → Finds g E text p p' → Finds (word_if kw f g) E text p p'
  letters_word {g} kw f {r} t l y s = record {
    runs = λ cur e i. subst (λ (z : Res A). E.ends cur.at cur.w z p') (sym (word_run kw f g cur.at (drop cur.at text) (other (drop cur.at text) kw (ap (letters_p text) (sym e) ∙ sym l ∙ y) t))) (s.runs cur e i);
    hands = s.hands;
  }

  -- behind a word that is in no table
  pub known_rank : {g : Prog A} (kw : List ℕ) (table : List (List ℕ)) (f : ℕ → Prog A) {r : Bool} → rank kw table ≡ length table → r ≡ word_p text p kw → r ≡ true → Finds g E text p p' → Finds (rank_if table f g) E text p p'
  known_rank {g} kw table f {r} t l y s = record {
    runs = λ cur e i. subst (λ (z : Res A). E.ends cur.at cur.w z p') (sym (rank_run table f g cur.at (drop cur.at text) (ap (λ (w : List ℕ). rank w table) (same_is (lead_word (drop cur.at text)) kw (ap (λ (z : Parsed). word_p text z kw) (sym e) ∙ sym l ∙ y)) ∙ t))) (s.runs cur e i);
    hands = s.hands;
  }

  pub known_word : {g : Prog A} (kw : List ℕ) (k : List ℕ) (f : Prog A) {r : Bool} → same_word kw k ≡ false → r ≡ word_p text p kw → r ≡ true → Finds g E text p p' → Finds (word_if k f g) E text p p'
  known_word {g} kw k f {r} t l y s = record {
    runs = λ cur e i. subst (λ (z : Res A). E.ends cur.at cur.w z p') (sym (word_run k f g cur.at (drop cur.at text) (ap (λ (w : List ℕ). same_word w k) (same_is (lead_word (drop cur.at text)) kw (ap (λ (z : Parsed). word_p text z kw) (sym e) ∙ sym l ∙ y)) ∙ t))) (s.runs cur e i);
    hands = s.hands;
  }

  -- behind a word of a table that has no word of the other
  pub apart_rank : {g : Prog A} (small table : List (List ℕ)) (f : ℕ → Prog A) {n : ℕ} → apart small table ≡ true → n ≡ rank_p small text p → n < length small → Finds g E text p p' → Finds (rank_if table f g) E text p p'
  apart_rank {g} small table f {n} t l y s = record {
    runs = λ cur e i. subst (λ (z : Res A). E.ends cur.at cur.w z p') (sym (rank_run table f g cur.at (drop cur.at text) (apart_none small table (lead_word (drop cur.at text)) t (subst (λ (m : ℕ). m < length small) (l ∙ ap (rank_p small text) e) y)))) (s.runs cur e i);
    hands = s.hands;
  }

  pub apart_word : {g : Prog A} (small : List (List ℕ)) (k : List ℕ) (f : Prog A) {n : ℕ} → apart small (k ∷ []) ≡ true → n ≡ rank_p small text p → n < length small → Finds g E text p p' → Finds (word_if k f g) E text p p'
  apart_word {g} small k f {n} t l y s = record {
    runs = λ cur e i. subst (λ (z : Res A). E.ends cur.at cur.w z p') (sym (word_run k f g cur.at (drop cur.at text) (apart_other small k (lead_word (drop cur.at text)) t (subst (λ (m : ℕ). m < length small) (l ∙ ap (rank_p small text) e) y)))) (s.runs cur e i);
    hands = s.hands;
  }

  -- a word that is in the table
  pub known_in : (kw : List ℕ) (table : List (List ℕ)) (f : ℕ → Prog A) (g : Prog A) {r : Bool} → ltb (rank kw table) (length table) ≡ true → r ≡ word_p text p kw → r ≡ true → Finds (word_if kw (f (rank kw table)) g) E text p p' → Finds (rank_if table f g) E text p p'
  known_in kw table f g {r} t l y s = record {
    runs = λ cur e i. subst (λ (z : Res A). E.ends cur.at cur.w z p') (sym (in_run kw table f g cur.at (drop cur.at text) t (ap (λ (z : Parsed). word_p text z kw) (sym e) ∙ sym l ∙ y))) (s.runs cur e i);
    hands = s.hands;
  }

-- ---- two letters, as the code tests them
pub short_none : (s : List ℕ) (i : ℕ) → length s ≤ i → false ≡ letters (drop i s)
unfolding letters
short_none [] i h = none_drop i
  where
    none_drop : (i : ℕ) → false ≡ letters (drop i [])
    none_drop zero = refl
    none_drop (suc i) = refl
short_none (x ∷ s) zero h = absurd (omega arith)
short_none (x ∷ s) (suc i) h = short_none s i (omega arith)

pub short_one : (s : List ℕ) (i : ℕ) → i < length s → length s - i ≤ 1 → false ≡ letters (drop i s)
unfolding letters
short_one [] i h l = absurd (omega arith)
short_one (x ∷ []) zero h l = refl
short_one (x ∷ y ∷ s) zero h l = absurd (omega arith)
short_one (x ∷ s) (suc i) h l = short_one s i (omega arith) (omega arith)

pub letters_are : (s : List ℕ) (i : ℕ) → 1 < length s - i → letters (drop i s) ≡ (is_small (get_or s i 0) && is_small (get_or s (i + 1) 0))
unfolding letters
letters_are [] i h = absurd (omega arith)
letters_are (x ∷ []) zero h = absurd (omega arith)
letters_are (x ∷ y ∷ s) zero h = refl
letters_are (x ∷ s) (suc i) h = let e : suc i + 1 ≡ suc (i + 1) = omega arith in rw e (letters_are s i (omega arith))

pub small_yes : (x : ℕ) → 97 ≤ x → x ≤ 122 → is_small x ≡ true
unfolding is_small
small_yes x h l = rw (le-leb _ _ h, le-leb _ _ l)

pub small_low : (x : ℕ) → x < 97 → is_small x ≡ false
unfolding is_small
small_low x h = rw (lt-leb _ _ h)

pub small_high : (x : ℕ) → 122 < x → is_small x ≡ false
unfolding is_small
small_high x h = rw (lt-leb _ _ h) (and_false (leb 97 x))

pub first_not : (s : List ℕ) (i : ℕ) → 1 < length s - i → is_small (get_or s i 0) ≡ false → false ≡ letters (drop i s)
first_not s i h e = sym (letters_are s i h ∙ ap (λ (b : Bool). b && is_small (get_or s (i + 1) 0)) e)

pub second_not : (s : List ℕ) (i : ℕ) → 1 < length s - i → is_small (get_or s (i + 1) 0) ≡ false → false ≡ letters (drop i s)
second_not s i h e = sym (letters_are s i h ∙ ap (λ (b : Bool). is_small (get_or s i 0) && b) e ∙ and_false (is_small (get_or s i 0)))

pub both_are : (s : List ℕ) (i : ℕ) → 1 < length s - i → is_small (get_or s i 0) ≡ true → is_small (get_or s (i + 1) 0) ≡ true → true ≡ letters (drop i s)
both_are s i h e f = sym (letters_are s i h ∙ ap (λ (b : Bool). b && is_small (get_or s (i + 1) 0)) e ∙ f)

pub not_yes : (b : Bool) → not b ≡ true → b ≡ false
not_yes true e = sym e
not_yes false e = refl
