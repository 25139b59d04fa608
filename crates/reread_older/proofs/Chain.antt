-- Question 22, entry by entry.
-- `chain` makes five tests of each entry, and the loop makes the same five.
-- Assumes nothing.
use mathlib.Core.Path.{◌≡◌, refl, sym, ◌∙◌}
use mathlib.Core.Bool.{Bool, true, false, ◌&&◌}
use mathlib.Core.Option.{Option, none, some}
use mathlib.Core.List.{List, [], ◌∷◌}
use Prim.Native.Nat.{ℕ, zero, suc, ◌+◌, ◌-◌, ◌*◌, ◌≤◌, ◌<◌}
use native.Mathlib.Omega.{arith}
use native.Mathlib.Nat.{sub-zero}
use lib.Dec.{leb, eqb}
use lib.ListN.{length, drop, get_or}
use borrow.Author.Tests.{eq-eqb, ne_eqb, le-leb, lt-leb}
use Rattle.records.specs.Limits.{counter_limit, entry_words}
use Rattle.records.specs.Words.{hi, lo}
use Rattle.records.specs.Pieces.{Old, old, chain, cons_old, olds}
use Rattle.piece_directory.specs.Olds.{answers}
use Rattle.piece_directory.proofs.Links.{drop_entry}

answers_cons : (o : Old) (r : Option (List Old)) → answers (cons_old o r) ≡ answers r
unfolding answers cons_old
answers_cons o none = refl
answers_cons o (some os) = refl

-- the five tests at an entry
tests : (text words pos at x y z : ℕ) → Bool
tests text words pos at x y z = eqb (hi x) pos && eqb (hi y) at && leb (pos + lo x) text && leb (at + lo y) words && leb z counter_limit

turn : (text words n pos at x y z : ℕ) (dir : List ℕ) (b : Bool) → tests text words pos at x y z ≡ b
    → answers (chain text words (suc n) pos at (x ∷ y ∷ z ∷ dir)) ≡ elim b [ true ↦ answers (chain text words n (pos + lo x) (at + lo y) dir) | false ↦ false ]
unfolding chain tests answers
turn text words n pos at x y z dir true t = rw (chain, t) (answers_cons (old (lo x) at (lo y) z) (chain text words n (pos + lo x) (at + lo y) dir))
turn text words n pos at x y z dir false t = rw (chain, t)

module _ (text words n : ℕ) (dir : List ℕ) where
  -- the loop's state: asking from entry i on is what was asked for
  pub record Asks (i pos at : ℕ) : Type 0 where
    pub count : i ≤ n
    pub inside : n * entry_words ≤ length dir
    pub in_text : pos ≤ text
    pub in_words : at ≤ words
    pub same : answers (olds text words n dir) ≡ answers (chain text words (n - i) pos at (drop (i * entry_words) dir))

  pub asks_none : n < 2 → false ≡ answers (olds text words n dir)
  unfolding olds answers
  asks_none h = let t : leb 2 n ≡ false = lt-leb 2 n h in rw (olds, t)

  pub asks_first : 2 ≤ n → n * entry_words ≤ length dir → Asks 0 0 0
  unfolding olds
  asks_first h k = let t : leb 2 n ≡ true = le-leb 2 n h in
      record { count = omega arith; inside = k; in_text = omega arith; in_words = omega arith; same = rw (olds, t, sub-zero n) }

  pub asks_done : (i pos at : ℕ) → n ≤ i → Asks i pos at → true ≡ answers (olds text words n dir)
  unfolding answers chain
  asks_done i pos at h a = let z : n - i ≡ 0 = omega arith in sym (a.same ∙ rw z)

  module _ (i pos at : ℕ) (asks : Asks i pos at) (h : i < n) where
    x : ℕ
    x = get_or dir (i * entry_words) 0

    y : ℕ
    y = get_or dir (i * entry_words + 1) 0

    z : ℕ
    z = get_or dir (i * entry_words + 2) 0

    one : (b : Bool) → tests text words pos at x y z ≡ b
        → answers (olds text words n dir) ≡ elim b [ true ↦ answers (chain text words (n - suc i) (pos + lo x) (at + lo y) (drop (suc i * entry_words) dir)) | false ↦ false ]
    unfolding x y z
    one b t =
        let k : i * entry_words + 2 < length dir = omega (arith, asks.inside) in
        let m : n - i ≡ suc (n - suc i) = omega arith in
        asks.same ∙ rw (m, drop_entry dir i k) (turn text words (n - suc i) pos at (get_or dir (i * entry_words) 0) (get_or dir (i * entry_words + 1) 0) (get_or dir (i * entry_words + 2) 0) (drop (suc i * entry_words) dir) b t)

    pub asks_next : hi (get_or dir (i * entry_words) 0) ≡ pos → hi (get_or dir (i * entry_words + 1) 0) ≡ at → pos + lo (get_or dir (i * entry_words) 0) ≤ text → at + lo (get_or dir (i * entry_words + 1) 0) ≤ words → get_or dir (i * entry_words + 2) 0 ≤ counter_limit
        → Asks (i + 1) (pos + lo (get_or dir (i * entry_words) 0)) (at + lo (get_or dir (i * entry_words + 1) 0))
    unfolding tests x y z
    asks_next a b c d w =
        let e : i + 1 ≡ suc i = omega arith in
        record { count = omega arith; inside = asks.inside; in_text = c; in_words = d; same = rw e (one true (rw (eq-eqb _ _ a, eq-eqb _ _ b, le-leb _ _ c, le-leb _ _ d, le-leb _ _ w))) }

    refuses : tests text words pos at x y z ≡ false → false ≡ answers (olds text words n dir)
    refuses t = sym (one false t)

    and_false : (a : Bool) → (a && false) ≡ false
    and_false true = refl
    and_false false = refl

    pub start_differs : (hi (get_or dir (i * entry_words) 0) ≡ pos → ⊥) → false ≡ answers (olds text words n dir)
    unfolding tests x y z
    start_differs a = refuses (rw (ne_eqb _ _ a))

    pub first_differs : (hi (get_or dir (i * entry_words + 1) 0) ≡ at → ⊥) → false ≡ answers (olds text words n dir)
    unfolding tests x y z
    first_differs a = refuses (rw (ne_eqb _ _ a, and_false (eqb (hi (get_or dir (i * entry_words) 0)) pos)))

    pub text_ends : text < pos + lo (get_or dir (i * entry_words) 0) → false ≡ answers (olds text words n dir)
    unfolding tests x y z
    text_ends a = refuses (rw (lt-leb _ _ a, and_false (eqb (hi (get_or dir (i * entry_words) 0)) pos && eqb (hi (get_or dir (i * entry_words + 1) 0)) at)))

    pub counter_high : counter_limit < get_or dir (i * entry_words + 2) 0 → false ≡ answers (olds text words n dir)
    unfolding tests x y z
    counter_high a =
        refuses
        (rw (lt-leb _ _ a, and_false (eqb (hi (get_or dir (i * entry_words) 0)) pos && eqb (hi (get_or dir (i * entry_words + 1) 0)) at && leb (pos + lo (get_or dir (i * entry_words) 0)) text && leb (at + lo (get_or dir (i * entry_words + 1) 0)) words)))

    pub words_end_lem : words < at + lo (get_or dir (i * entry_words + 1) 0) → false ≡ answers (olds text words n dir)
    unfolding tests x y z
    words_end_lem a = refuses (rw (lt-leb _ _ a, and_false (eqb (hi (get_or dir (i * entry_words) 0)) pos && eqb (hi (get_or dir (i * entry_words + 1) 0)) at && leb (pos + lo (get_or dir (i * entry_words) 0)) text)))

-- a directory that is too short
short : (text words n pos at : ℕ) (dir : List ℕ) → length dir < n * entry_words → answers (chain text words n pos at dir) ≡ false
unfolding chain answers
short text words zero pos at dir h = absurd (omega arith)
short text words (suc n) pos at [] h = refl
short text words (suc n) pos at (x ∷ []) h = refl
short text words (suc n) pos at (x ∷ y ∷ []) h = refl
short text words (suc n) pos at (x ∷ y ∷ z ∷ dir) h = go (tests text words pos at x y z) refl (short text words n (pos + lo x) (at + lo y) dir (omega arith))
  where
    go : (b : Bool) → tests text words pos at x y z ≡ b → answers (chain text words n (pos + lo x) (at + lo y) dir) ≡ false → answers (chain text words (suc n) pos at (x ∷ y ∷ z ∷ dir)) ≡ false
    go true t ih = turn text words n pos at x y z dir true t ∙ ih
    go false t ih = turn text words n pos at x y z dir false t

pub asks_short : (text words n : ℕ) (dir : List ℕ) → 2 ≤ n → length dir < n * entry_words → false ≡ answers (olds text words n dir)
unfolding olds
asks_short text words n dir h k = let t : leb 2 n ≡ true = le-leb 2 n h in rw (olds, t) (sym (short text words n 0 0 dir k))
