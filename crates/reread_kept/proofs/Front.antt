-- The pieces kept in front, one by one.
-- `kept_front` takes one piece at a time; where the word behind a block ends decides whether its end is settled.
-- Assumes nothing.
use mathlib.Core.Path.{◌≡◌, refl, sym, ap, ◌∙◌}
use mathlib.Core.Bool.{Bool, true, false, ◌&&◌, not}
use mathlib.Core.List.{List, [], ◌∷◌}
use Prim.Native.Nat.{ℕ, zero, suc, ◌+◌, ◌-◌, ◌*◌, ◌≤◌, ◌<◌, max}
use native.Mathlib.Nat.{add-zero, add-suc, suc-add}
use native.Mathlib.Numerals.{add-one}
use native.Mathlib.Omega.{arith}
use lib.Dec.{leb, ltb, eqb}
use lib.ListN.{length, take, drop, get_or, length-drop, drop_of_length-le}
use lib.Seq.{drop-drop}
use borrow.Author.Tests.{lt-ltb, le-ltb, eqb-true, eqb-false, leb-true, leb-false, ltb-true, ltb-false}
use lib.Pointwise.{pointwise}
use Rattle.std.proofs.Common.{nat_cmp}
use Rattle.std.proofs.lemmas.Bool.Decides.{nat_tests}
use Rattle.std.specs.Ordering.{ord_max}
use Rattle.program.specs.Class.{is_word}
use Rattle.program.specs.Prog.{ends}
use Rattle.records.specs.Limits.{counter_limit, entry_words}
use Rattle.records.specs.Words.{hi, lo}
use Rattle.records.specs.Pieces.{Old, old, old_sizes, old_words, first_counter, leads, addrspace, closes, kept_rest, kept_front}
use Rattle.piece_directory.specs.Olds.{olds_of, begins, Joined, Chained, WordEnd, FrontIs}
use Rattle.program.specs.Lists.{drop_next}
use Rattle.piece_directory.proofs.Links.{size_at, first_at, count_at, counter_at, olds_next, olds_length, sizes_step, words_step}

-- ---- where the first pieces end
module _ (n c : ℕ) (dir : List ℕ) (j : Joined n dir) where
  module _ (h : c < n) where
    here : drop c (olds_of n dir) ≡ old (size_at dir c) (first_at dir c) (count_at dir c) (counter_at dir c) ∷ drop (suc c) (olds_of n dir)
    here = olds_next n c dir j.inside h

    last_size : hi (get_or dir (c * entry_words) 0) + lo (get_or dir (c * entry_words) 0) ≡ old_sizes (take (suc c) (olds_of n dir))
    last_size = rw (j.start c h) (sym (sizes_step c (olds_of n dir) (size_at dir c) (first_at dir c) (count_at dir c) (counter_at dir c) (drop (suc c) (olds_of n dir)) here))

    last_words : hi (get_or dir (c * entry_words + 1) 0) + lo (get_or dir (c * entry_words + 1) 0) ≡ old_words (take (suc c) (olds_of n dir))
    last_words = rw (j.first c h) (sym (words_step c (olds_of n dir) (size_at dir c) (first_at dir c) (count_at dir c) (counter_at dir c) (drop (suc c) (olds_of n dir)) here))

module _ (n c : ℕ) (dir : List ℕ) (h : 0 < c) (k : c ≤ n) (j : Joined n dir) where
  before : suc (c - 1) ≡ c
  before = omega arith

  pub end_size : hi (get_or dir ((c - 1) * entry_words) 0) + lo (get_or dir ((c - 1) * entry_words) 0) ≡ old_sizes (take c (olds_of n dir))
  end_size = last_size n (c - 1) dir j (omega arith) ∙ ap (λ (m : ℕ). old_sizes (take m (olds_of n dir))) before

  pub end_words : hi (get_or dir ((c - 1) * entry_words + 1) 0) + lo (get_or dir ((c - 1) * entry_words + 1) 0) ≡ old_words (take c (olds_of n dir))
  end_words = last_words n (c - 1) dir j (omega arith) ∙ ap (λ (m : ℕ). old_words (take m (olds_of n dir))) before

pub no_size : (os : List Old) → 0 ≡ old_sizes (take 0 os)
unfolding old_sizes
no_size os = refl

pub no_words : (os : List Old) → 0 ≡ old_words (take 0 os)
unfolding old_words
no_words os = refl

-- the counter with which reading begins there: at the head, behind the last piece, and between
pub begins_head : (os : List Old) → 0 ≡ begins 0 os
unfolding begins
begins_head os = refl

pub begins_end : (n c : ℕ) (dir : List ℕ) → Joined n dir → n ≤ c → 0 ≡ begins c (olds_of n dir)
unfolding begins first_counter
begins_end n zero dir j h = refl
begins_end n (suc c) dir j h = sym (rw (drop_of_length-le (olds_of n dir) {i = suc c} (omega (arith, olds_length n dir j.inside))))

pub begins_at : (n c : ℕ) (dir : List ℕ) → Joined n dir → (c ≡ 0 → ⊥) → c < n → get_or dir (c * entry_words + 2) 0 ≡ begins c (olds_of n dir)
unfolding begins
begins_at n zero dir j h k = absurd (h refl)
begins_at n (suc c) dir j h k = j.counter (suc c) k

-- question 22 asks that it is at most 2^32
pub begins_low : (T W n c : ℕ) (dir : List ℕ) → Chained T W n dir → begins c (olds_of n dir) ≤ counter_limit
begins_low T W n c dir g = go (eqb c 0) refl (ltb c n) refl
  where
    go : (a : Bool) → eqb c 0 ≡ a → (b : Bool) → ltb c n ≡ b → begins c (olds_of n dir) ≤ counter_limit
    go true p b q = rw (eqb-true c 0 p, ← begins_head (olds_of n dir)) (omega arith)
    go false p true q = rw (← begins_at n c dir g.joined (eqb-false c 0 p) (ltb-true c n q)) (g.low c (ltb-true c n q))
    go false p false q = rw (← begins_end n c dir g.joined (ltb-false c n q)) (omega arith)

-- ---- words
ends_next : (s : List ℕ) (p : ℕ) → p < length s → is_word (get_or s p 0) ≡ true → ends (drop p s) ≡ ends (drop (p + 1) s)
unfolding ends
ends_next s p h t = rw (drop_next s p h, ends, t)

ends_along : (m : ℕ) (s : List ℕ) (p : ℕ) → p + m ≤ length s → ((k : ℕ) → p ≤ k → k < p + m → is_word (get_or s k 0) ≡ true) → ends (drop p s) ≡ ends (drop (p + m) s)
ends_along zero s p h w = rw (add-zero p)
ends_along (suc m) s p h w =
    let q : p + suc m ≡ p + m + 1 = omega arith in
    ends_along m s p (omega arith) (λ k a b. w k a (omega arith)) ∙ ends_next s (p + m) (omega arith) (w (p + m) (omega arith) (omega arith)) ∙ ap (λ (k : ℕ). ends (drop k s)) (sym q)

module _ (s : List ℕ) (p r : ℕ) (e : WordEnd s p r) where
  along : ends (drop p s) ≡ ends (drop r s)
  along = let q : p + (r - p) ≡ r = omega (arith, e.behind) in
      ends_along (r - p) s p (omega (arith, e.inside)) (λ k a b. e.wordy k a (omega arith)) ∙ ap (λ (k : ℕ). ends (drop k s)) q

  pub word_out : length s ≤ r → ends (drop p s) ≡ false
  unfolding ends
  word_out h = along ∙ rw (drop_of_length-le s h)

  pub word_in : r < length s → ends (drop p s) ≡ true
  unfolding ends
  word_in h = let t : is_word (get_or s r 0) ≡ false = e.stops h in along ∙ rw (drop_next s r h, ends, t)

-- the later of two places
pub max_is : (a b : ℕ) → ord_max nat_cmp a b ≡ max a b
max_is a b = grind (arith, nat_tests)

-- what a search from a later place finds is the end of the word here too
pub word_before : (s : List ℕ) (pos p w r : ℕ) → pos ≤ p → ((k : ℕ) → pos ≤ k → k < w → is_word (get_or s k 0) ≡ true) → WordEnd s (max w p) r → WordEnd s p r
word_before s pos p w r h wordy e =
    record { behind = omega (arith, e.behind); inside = e.inside; wordy = λ k a b. go k a b (ltb k w) refl; stops = e.stops }
  where
    go : (k : ℕ) → p ≤ k → k < r → (q : Bool) → ltb k w ≡ q → is_word (get_or s k 0) ≡ true
    go k a b true t = wordy k (omega arith) (ltb-true k w t)
    go k a b false t = e.wordy k (omega (arith, ltb-false k w t)) b

-- a search for the end, and where it stops
module _ (s : List ℕ) where
  pub record Searching (from i : ℕ) : Type 0 where
    pub behind : from ≤ i
    pub inside : i ≤ length s
    pub wordy : (k : ℕ) → from ≤ k → k < i → is_word (get_or s k 0) ≡ true

  pub searching_first : (from : ℕ) → from ≤ length s → Searching from from
  searching_first from l = record { behind = omega arith; inside = l; wordy = λ k x y. absurd (omega arith) }

  module _ (from i : ℕ) (g : Searching from i) where
    pub searching_more : i < length s → is_word (get_or s i 0) ≡ true → Searching from (i + 1)
    searching_more l t =
        record { behind = omega (arith, g.behind); inside = omega arith; wordy = λ k x y. go k x y (eqb k i) refl }
      where
        go : (k : ℕ) → from ≤ k → k < i + 1 → (b : Bool) → eqb k i ≡ b → is_word (get_or s k 0) ≡ true
        go k x y true q = rw (eqb-true k i q) t
        go k x y false q = g.wordy k x (omega (arith, eqb-false k i q))

    pub found : is_word (get_or s i 0) ≡ false → WordEnd s from i
    found t = record { behind = g.behind; inside = g.inside; wordy = g.wordy; stops = λ m. t }

    pub found_end : length s ≤ i → WordEnd s from i
    found_end l = record { behind = g.behind; inside = g.inside; wordy = g.wordy; stops = λ m. absurd (omega arith) }

-- ---- `addrspace`
-- a word that stands in front, and one that does not
pub leads_front : (ws xs : List ℕ) → pointwise eqb ws (take (length ws) xs) ≡ true → leads ws xs ≡ leads [] (drop (length ws) xs)
unfolding leads
leads_front [] xs h = refl
leads_front (w ∷ ws) [] h = let z : ◌≡◌ {A = ℕ} 0 1 = cc in absurd (omega arith)
leads_front (w ∷ ws) (x ∷ xs) h = go (eqb w x) h (leads_front ws xs)
  where
    go : (b : Bool) → (b && pointwise eqb ws (take (length ws) xs)) ≡ true → (pointwise eqb ws (take (length ws) xs) ≡ true → leads ws xs ≡ leads [] (drop (length ws) xs)) → (b && leads ws xs) ≡ leads [] (drop (length ws) xs)
    go true k ih = ih k
    go false k ih = let z : ◌≡◌ {A = ℕ} 0 1 = cc in absurd (omega arith)

pub leads_other : (ws xs : List ℕ) → pointwise eqb ws (take (length ws) xs) ≡ false → leads ws xs ≡ false
unfolding leads
leads_other [] xs h = let z : ◌≡◌ {A = ℕ} 0 1 = cc in absurd (omega arith)
leads_other (w ∷ ws) [] h = refl
leads_other (w ∷ ws) (x ∷ xs) h = go (eqb w x) h (leads_other ws xs)
  where
    go : (b : Bool) → (b && pointwise eqb ws (take (length ws) xs)) ≡ false → (pointwise eqb ws (take (length ws) xs) ≡ false → leads ws xs ≡ false) → (b && leads ws xs) ≡ false
    go true k ih = ih k
    go false k ih = refl

pub leads_end : (xs : List ℕ) → 0 < length xs → leads [] xs ≡ not (is_word (get_or xs 0 0))
unfolding leads
leads_end [] h = absurd (omega arith)
leads_end (x ∷ xs) h = refl

pub leads_none : (xs : List ℕ) → length xs < 1 → leads [] xs ≡ false
unfolding leads
leads_none [] h = refl
leads_none (x ∷ xs) h = absurd (omega arith)

-- ---- blocks
pub closes_out : (s : List ℕ) (p : ℕ) → ends (drop p s) ≡ false → closes (drop p s) ≡ false
unfolding closes
closes_out s p h = rw (closes, h)

pub closes_addrspace : (s : List ℕ) (p : ℕ) → leads addrspace (drop p s) ≡ true → closes (drop p s) ≡ false
unfolding closes
closes_addrspace s p h = rw (closes, h) (go (ends (drop p s)))
  where
    go : (b : Bool) → (b && false) ≡ false
    go true = refl
    go false = refl

pub closes_in : (s : List ℕ) (p : ℕ) → ends (drop p s) ≡ true → leads addrspace (drop p s) ≡ false → closes (drop p s) ≡ true
unfolding closes
closes_in s p h k = rw (closes, h, k)

pub far : (s : List ℕ) (p : ℕ) → length s ≤ p → ends (drop p s) ≡ false
unfolding ends
far s p h = rw (drop_of_length-le s h)

-- ---- the rule, piece by piece
front_head : (s : List ℕ) (os : List Old) (e f n d : ℕ) (ps : List Old) → os ≡ old e f n d ∷ ps → e < length s → kept_front s os ≡ 1 + kept_rest (drop e s) ps
unfolding kept_front
front_head s os e f n d ps h l = let t : ltb e (length s) ≡ true = lt-ltb _ _ l in rw (h, kept_front, t, native.Mathlib.Numerals.one-add (kept_rest (drop e s) ps))

front_no_head : (s : List ℕ) (os : List Old) (e f n d : ℕ) (ps : List Old) → os ≡ old e f n d ∷ ps → length s ≤ e → kept_front s os ≡ 0
unfolding kept_front
front_no_head s os e f n d ps h l = let t : ltb e (length s) ≡ false = le-ltb _ _ l in rw (h, kept_front, t)

block_yes : (s : List ℕ) (e f n d : ℕ) (o : Old) (ps : List Old) → closes (drop e s) ≡ true → kept_rest s (old e f n d ∷ o ∷ ps) ≡ suc (kept_rest (drop e s) (o ∷ ps))
unfolding kept_rest
block_yes s e f n d o ps t = rw (kept_rest, t)

rest_block : (s : List ℕ) (pos : ℕ) (qs : List Old) (e f n d : ℕ) (o : Old) (ps : List Old) → qs ≡ old e f n d ∷ o ∷ ps → closes (drop (pos + e) s) ≡ true → kept_rest (drop pos s) qs ≡ suc (kept_rest (drop (pos + e) s) (o ∷ ps))
rest_block s pos qs e f n d o ps h t = rw (h, block_yes (drop pos s) e f n d o ps (rw (drop-drop e pos s) t), drop-drop e pos s)

rest_no_block : (s : List ℕ) (pos : ℕ) (qs : List Old) (e f n d : ℕ) (o : Old) (ps : List Old) → qs ≡ old e f n d ∷ o ∷ ps → closes (drop (pos + e) s) ≡ false → kept_rest (drop pos s) qs ≡ 0
unfolding kept_rest
rest_no_block s pos qs e f n d o ps h t = rw (h, kept_rest, drop-drop e pos s, t)

rest_tail : (s : List ℕ) (pos : ℕ) (qs : List Old) (e f n d : ℕ) → qs ≡ old e f n d ∷ [] → pos + e < length s → kept_rest (drop pos s) qs ≡ 1
unfolding kept_rest
rest_tail s pos qs e f n d h l =
    let k : e < length (drop pos s) = omega (arith, length-drop pos s) in
    let t : ltb e (length (drop pos s)) ≡ true = lt-ltb e (length (drop pos s)) k in rw (h, kept_rest, t)

rest_no_tail : (s : List ℕ) (pos : ℕ) (qs : List Old) (e f n d : ℕ) → qs ≡ old e f n d ∷ [] → pos ≤ length s → length s ≤ pos + e → kept_rest (drop pos s) qs ≡ 0
unfolding kept_rest
rest_no_tail s pos qs e f n d h b l =
    let k : length (drop pos s) ≤ e = omega (arith, length-drop pos s) in
    let t : ltb e (length (drop pos s)) ≡ false = le-ltb e (length (drop pos s)) k in rw (h, kept_rest, t)

module _ (s : List ℕ) (n : ℕ) (dir : List ℕ) where
  -- i pieces are kept, which end at pos; from there up to w are letters, digits or `_`
  pub record Going (i pos w : ℕ) : Type 0 where
    pub low : 1 ≤ i
    pub high : i < n
    pub below : pos ≤ length s
    pub w_in : w ≤ length s
    pub wordy : (k : ℕ) → pos ≤ k → k < w → is_word (get_or s k 0) ≡ true
    pub rest : kept_front s (olds_of n dir) ≡ i + kept_rest (drop pos s) (drop i (olds_of n dir))

  module _ (two : 2 ≤ n) (inside : n * entry_words ≤ length dir) where
    piece : (i : ℕ) → i < n → drop i (olds_of n dir) ≡ old (size_at dir i) (first_at dir i) (count_at dir i) (counter_at dir i) ∷ drop (suc i) (olds_of n dir)
    piece i h = olds_next n i dir inside h

    pieces : (i : ℕ) → suc i < n → drop i (olds_of n dir) ≡ old (size_at dir i) (first_at dir i) (count_at dir i) (counter_at dir i) ∷ old (size_at dir (suc i)) (first_at dir (suc i)) (count_at dir (suc i)) (counter_at dir (suc i)) ∷ drop (suc (suc i)) (olds_of n dir)
    pieces i h = piece i (omega arith) ∙ ap {B = List Old} (λ t. old (size_at dir i) (first_at dir i) (count_at dir i) (counter_at dir i) ∷ t) (piece (suc i) h)

    pub none_kept : length s ≤ lo (get_or dir 0 0) → 0 ≡ kept_front s (olds_of n dir)
    none_kept h = sym (front_no_head s (olds_of n dir) (size_at dir 0) (first_at dir 0) (count_at dir 0) (counter_at dir 0) (drop 1 (olds_of n dir)) (piece 0 (omega arith)) h)

    pub head_kept : lo (get_or dir 0 0) < length s → Going 1 (lo (get_or dir 0 0)) 0
    head_kept h =
        record {
          low = omega arith;
          high = omega arith;
          below = omega arith;
          w_in = omega arith;
          wordy = λ k a b. absurd (omega arith);
          rest = front_head s (olds_of n dir) (size_at dir 0) (first_at dir 0) (count_at dir 0) (counter_at dir 0) (drop 1 (olds_of n dir)) (piece 0 (omega arith)) h;
        }

    module _ (i pos w : ℕ) (g : Going i pos w) where
      stops : kept_rest (drop pos s) (drop i (olds_of n dir)) ≡ 0 → i ≡ kept_front s (olds_of n dir)
      stops z = sym (g.rest ∙ rw z (add-zero i))

      -- a block is not kept: its end is not below, or the word there is not, or is `addrspace`
      pub block_out : i + 1 < n → length s ≤ pos + lo (get_or dir (i * entry_words) 0) → i ≡ kept_front s (olds_of n dir)
      block_out h l = stops (rest_no_block s pos (drop i (olds_of n dir)) (size_at dir i) (first_at dir i) (count_at dir i) (counter_at dir i) (old (size_at dir (suc i)) (first_at dir (suc i)) (count_at dir (suc i)) (counter_at dir (suc i))) (drop (suc (suc i)) (olds_of n dir)) (pieces i (omega arith))
          (closes_out s (pos + lo (get_or dir (i * entry_words) 0)) (far s (pos + lo (get_or dir (i * entry_words) 0)) l)))

      pub block_word : i + 1 < n → (r : ℕ) → WordEnd s (pos + lo (get_or dir (i * entry_words) 0)) r → length s ≤ r → i ≡ kept_front s (olds_of n dir)
      block_word h r e l = stops (rest_no_block s pos (drop i (olds_of n dir)) (size_at dir i) (first_at dir i) (count_at dir i) (counter_at dir i) (old (size_at dir (suc i)) (first_at dir (suc i)) (count_at dir (suc i)) (counter_at dir (suc i))) (drop (suc (suc i)) (olds_of n dir)) (pieces i (omega arith))
          (closes_out s (pos + lo (get_or dir (i * entry_words) 0)) (word_out s (pos + lo (get_or dir (i * entry_words) 0)) r e l)))

      pub block_addrspace : i + 1 < n → leads addrspace (drop (pos + lo (get_or dir (i * entry_words) 0)) s) ≡ true → i ≡ kept_front s (olds_of n dir)
      block_addrspace h l = stops (rest_no_block s pos (drop i (olds_of n dir)) (size_at dir i) (first_at dir i) (count_at dir i) (counter_at dir i) (old (size_at dir (suc i)) (first_at dir (suc i)) (count_at dir (suc i)) (counter_at dir (suc i))) (drop (suc (suc i)) (olds_of n dir)) (pieces i (omega arith))
          (closes_addrspace s (pos + lo (get_or dir (i * entry_words) 0)) l))

      pub block_kept : i + 1 < n → (r : ℕ) → WordEnd s (pos + lo (get_or dir (i * entry_words) 0)) r → r < length s → leads addrspace (drop (pos + lo (get_or dir (i * entry_words) 0)) s) ≡ false
          → Going (i + 1) (pos + lo (get_or dir (i * entry_words) 0)) r
      block_kept h r e l a =
          let p : ℕ = pos + lo (get_or dir (i * entry_words) 0) in
          let q : i + 1 ≡ suc i = add-one i in
          let c : closes (drop p s) ≡ true = closes_in s p (word_in s p r e l) a in
          let k : kept_rest (drop pos s) (drop i (olds_of n dir)) ≡ suc (kept_rest (drop p s) (drop (suc i) (olds_of n dir))) =
          rest_block s pos (drop i (olds_of n dir)) (size_at dir i) (first_at dir i) (count_at dir i) (counter_at dir i) (old (size_at dir (suc i)) (first_at dir (suc i)) (count_at dir (suc i)) (counter_at dir (suc i))) (drop (suc (suc i)) (olds_of n dir)) (pieces i (omega arith)) c
          ∙ ap {B = ℕ} (λ t. suc (kept_rest (drop p s) t)) (sym (piece (suc i) (omega arith))) in
          record {
            low = omega arith;
            high = omega arith;
            below = omega (arith, e.behind);
            w_in = omega arith;
            wordy = e.wordy;
            rest = rw q (g.rest ∙ rw k (add-suc i (kept_rest (drop p s) (drop (suc i) (olds_of n dir))) ∙ sym (suc-add i (kept_rest (drop p s) (drop (suc i) (olds_of n dir))))));
          }

      -- the tail
      last : n ≤ i + 1 → drop i (olds_of n dir) ≡ old (size_at dir i) (first_at dir i) (count_at dir i) (counter_at dir i) ∷ []
      last h = piece i g.high ∙ ap {B = List Old} (λ t. old (size_at dir i) (first_at dir i) (count_at dir i) (counter_at dir i) ∷ t) (drop_of_length-le (olds_of n dir) {i = suc i} (omega (arith, olds_length n dir inside)))

      pub tail_out : n ≤ i + 1 → length s ≤ pos + lo (get_or dir (i * entry_words) 0) → i ≡ kept_front s (olds_of n dir)
      tail_out h l = stops (rest_no_tail s pos (drop i (olds_of n dir)) (size_at dir i) (first_at dir i) (count_at dir i) (counter_at dir i) (last h) g.below l)

      pub tail_kept : n ≤ i + 1 → pos + lo (get_or dir (i * entry_words) 0) < length s → i + 1 ≡ kept_front s (olds_of n dir)
      tail_kept h l = sym (g.rest ∙ rw (rest_tail s pos (drop i (olds_of n dir)) (size_at dir i) (first_at dir i) (count_at dir i) (counter_at dir i) (last h) l))

  -- where `behind` answers for the pieces that are kept
  pub front_is : (i c pos at d : ℕ) → i ≡ kept_front s (olds_of n dir)
      → (c ≡ i) × (pos ≡ old_sizes (take i (olds_of n dir))) × (at ≡ old_words (take i (olds_of n dir))) × (d ≡ begins i (olds_of n dir)) → FrontIs s (olds_of n dir) c pos at d
  front_is i c pos at d k r =
      record {
        kept = r.0 ∙ k;
        size = r.1 ∙ ap (λ (m : ℕ). old_sizes (take m (olds_of n dir))) (sym r.0);
        words = r.2 ∙ ap (λ (m : ℕ). old_words (take m (olds_of n dir))) (sym r.0);
        begin = r.3 ∙ ap (λ (m : ℕ). begins m (olds_of n dir)) (sym r.0);
      }

-- ---- what is kept in front lies inside
closes_inside : (s : List ℕ) (e : ℕ) → closes (drop e s) ≡ true → e < length s
closes_inside s e h = go (leb (length s) e) refl
  where
    go : (b : Bool) → leb (length s) e ≡ b → e < length s
    go true t = let w : closes (drop e s) ≡ false = closes_out s e (far s e (leb-true (length s) e t)) in let z : ◌≡◌ {A = ℕ} 0 1 = cc in absurd (omega arith)
    go false t = leb-false (length s) e t

-- so many of the pieces, and so much of the text
Inside : List ℕ → List Old → ℕ → Type 0
Inside s os k = (k ≤ length os) × (old_sizes (take k os) ≤ length s)

rest_inside : (s : List ℕ) (os : List Old) → Inside s os (kept_rest s os)
unfolding Inside kept_rest old_sizes
rest_inside s [] = (omega arith, omega arith)
rest_inside s (old e f n d ∷ []) = go (ltb e (length s)) refl
  where
    go : (b : Bool) → ltb e (length s) ≡ b → Inside s (old e f n d ∷ []) (kept_rest s (old e f n d ∷ []))
    go true t = rw (kept_rest, t) (omega arith, omega (arith, ltb-true e (length s) t))
    go false t = rw (kept_rest, t) (omega arith, omega arith)
rest_inside s (old e f n d ∷ o ∷ os) = go (closes (drop e s)) refl (rest_inside (drop e s) (o ∷ os))
  where
    go : (b : Bool) → closes (drop e s) ≡ b → Inside (drop e s) (o ∷ os) (kept_rest (drop e s) (o ∷ os)) → Inside s (old e f n d ∷ o ∷ os) (kept_rest s (old e f n d ∷ o ∷ os))
    go true t ih = rw (block_yes s e f n d o os t) (omega (arith, ih.0), omega (arith, ih.1, closes_inside s e t, length-drop e s))
    go false t ih = rw (kept_rest, t) (omega arith, omega arith)

front_in : (s : List ℕ) (os : List Old) → Inside s os (kept_front s os)
unfolding Inside kept_front old_sizes
front_in s [] = (omega arith, omega arith)
front_in s (old e f n d ∷ os) = go (ltb e (length s)) refl (rest_inside (drop e s) os)
  where
    go : (b : Bool) → ltb e (length s) ≡ b → Inside (drop e s) os (kept_rest (drop e s) os) → Inside s (old e f n d ∷ os) (kept_front s (old e f n d ∷ os))
    go true t ih = rw (kept_front, t) (omega (arith, ih.0), omega (arith, ih.1, ltb-true e (length s) t, length-drop e s))
    go false t ih = rw (kept_front, t) (omega arith, omega arith)

pub front_count : (s : List ℕ) (os : List Old) → kept_front s os ≤ length os
unfolding Inside
front_count s os = (front_in s os).0

pub front_size : (s : List ℕ) (os : List Old) → old_sizes (take (kept_front s os) os) ≤ length s
unfolding Inside
front_size s os = (front_in s os).1
