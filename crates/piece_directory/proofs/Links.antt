-- What question 22 grants, and the pieces that a directory names, one by one.
-- By induction on the entries, as `chain` takes them apart.
-- Assumes nothing.
use mathlib.Core.Path.{◌≡◌, refl, sym, ap, ◌∙◌}
use mathlib.Core.Bool.{Bool, true, false}
use mathlib.Core.Option.{Option, none, some}
use mathlib.Core.List.{List, [], ◌∷◌}
use Prim.Native.Nat.{ℕ, zero, suc, ◌+◌, ◌-◌, ◌*◌, ◌/◌, ◌≤◌, ◌<◌}
use native.Mathlib.Nat.{add-zero, zero-add, add_assoc}
use native.Mathlib.Omega.{arith}
use lib.Dec.{leb}
use lib.ListN.{length, take, drop, get_or, drop_of_length-le}
use lib.Seq.{drop-cons}
use borrow.Author.Tests.{leb-true}
use Rattle.records.specs.Limits.{half_limit, counter_limit, entry_words}
use Rattle.records.specs.Words.{hi, lo}
use Rattle.records.specs.Pieces.{Old, old, chain, olds, old_sizes, old_words, first_counter}
use Rattle.theorem_edits.specs.Chain.{Step, step}
use Rattle.piece_directory.specs.Olds.{answers, olds_of, Chained}

-- one word of the directory, and what is behind it
drop_word : (dir : List ℕ) (j m : ℕ) → j < length dir → suc j ≡ m → drop j dir ≡ get_or dir j 0 ∷ drop m dir
drop_word dir j m h e = drop-cons dir j 0 h ∙ ap {B = List ℕ} (λ t. get_or dir j 0 ∷ drop t dir) e

-- the words of an entry, and what is behind them
pub drop_entry : (dir : List ℕ) (i : ℕ) → i * entry_words + 2 < length dir
    → drop (i * entry_words) dir ≡ get_or dir (i * entry_words) 0 ∷ get_or dir (i * entry_words + 1) 0 ∷ get_or dir (i * entry_words + 2) 0 ∷ drop (suc i * entry_words) dir
drop_entry dir i h =
    drop_word dir (i * entry_words) (i * entry_words + 1) (omega arith) (omega arith)
    ∙ ap {B = List ℕ} (λ t. get_or dir (i * entry_words) 0 ∷ t)
    (drop_word dir (i * entry_words + 1) (i * entry_words + 2) (omega arith) (omega arith)
    ∙ ap {B = List ℕ} (λ t. get_or dir (i * entry_words + 1) 0 ∷ t) (drop_word dir (i * entry_words + 2) (suc i * entry_words) h (omega arith)))

-- ---- sums over pieces
pub sizes_split : (j : ℕ) (os : List Old) → old_sizes os ≡ old_sizes (take j os) + old_sizes (drop j os)
unfolding old_sizes
sizes_split zero os = sym (zero-add (old_sizes os))
sizes_split (suc j) [] = refl
sizes_split (suc j) (old e f n d ∷ os) = omega (arith, sizes_split j os)

pub words_split : (j : ℕ) (os : List Old) → old_words os ≡ old_words (take j os) + old_words (drop j os)
unfolding old_words
words_split zero os = sym (zero-add (old_words os))
words_split (suc j) [] = refl
words_split (suc j) (old e f n d ∷ os) = omega (arith, words_split j os)

pub sizes_step : (j : ℕ) (os : List Old) (e f n d : ℕ) (ps : List Old) → drop j os ≡ old e f n d ∷ ps → old_sizes (take (suc j) os) ≡ old_sizes (take j os) + e
unfolding old_sizes
sizes_step zero os e f n d ps h = rw h (add-zero e ∙ sym (zero-add e))
sizes_step (suc j) [] e f n d ps h = let z : ◌≡◌ {A = ℕ} 0 1 = cc in absurd (omega arith)
sizes_step (suc j) (old a b c w ∷ os) e f n d ps h = omega (arith, sizes_step j os e f n d ps h)

pub words_step : (j : ℕ) (os : List Old) (e f n d : ℕ) (ps : List Old) → drop j os ≡ old e f n d ∷ ps → old_words (take (suc j) os) ≡ old_words (take j os) + n
unfolding old_words
words_step zero os e f n d ps h = rw h (add-zero n ∙ sym (zero-add n))
words_step (suc j) [] e f n d ps h = let z : ◌≡◌ {A = ℕ} 0 1 = cc in absurd (omega arith)
words_step (suc j) (old a b c w ∷ os) e f n d ps h = omega (arith, words_step j os e f n d ps h)

-- ---- the pieces that n entries name
pub thrice : (j : ℕ) → suc j * entry_words ≡ suc (suc (suc (j * entry_words)))
thrice j = omega arith

-- and a word of the entry behind it
pub thrice_on : (j i : ℕ) → suc j * entry_words + i ≡ suc (suc (suc (j * entry_words + i)))
thrice_on j i = omega arith

-- piece j of n
module _ (dir : List ℕ) (j : ℕ) where
  -- its length, first word, number of words and counter
  abbrev pub size_at : ℕ
  size_at = lo (get_or dir (j * entry_words) 0)

  abbrev pub first_at : ℕ
  first_at = hi (get_or dir (j * entry_words + 1) 0)

  abbrev pub count_at : ℕ
  count_at = lo (get_or dir (j * entry_words + 1) 0)

  abbrev pub counter_at : ℕ
  counter_at = get_or dir (j * entry_words + 2) 0

pub olds_length : (n : ℕ) (dir : List ℕ) → n * entry_words ≤ length dir → length (olds_of n dir) ≡ n
unfolding olds_of
olds_length zero dir h = refl
olds_length (suc n) [] h = absurd (omega arith)
olds_length (suc n) (x ∷ []) h = absurd (omega arith)
olds_length (suc n) (x ∷ y ∷ []) h = absurd (omega arith)
olds_length (suc n) (x ∷ y ∷ z ∷ dir) h = ap suc (olds_length n dir (omega arith))

pub olds_next : (n j : ℕ) (dir : List ℕ) → n * entry_words ≤ length dir → j < n → drop j (olds_of n dir) ≡ old (size_at dir j) (first_at dir j) (count_at dir j) (counter_at dir j) ∷ drop (suc j) (olds_of n dir)
unfolding olds_of
olds_next zero j dir h k = absurd (omega arith)
olds_next (suc n) j [] h k = absurd (omega arith)
olds_next (suc n) j (x ∷ []) h k = absurd (omega arith)
olds_next (suc n) j (x ∷ y ∷ []) h k = absurd (omega arith)
olds_next (suc n) zero (x ∷ y ∷ z ∷ dir) h k = refl
olds_next (suc n) (suc j) (x ∷ y ∷ z ∷ dir) h k =
    rw (thrice_on j 1, thrice_on j 2, thrice j) (olds_next n j dir (omega arith) (omega arith))

pub olds_take : (n j : ℕ) (dir : List ℕ) → j ≤ n → take j (olds_of n dir) ≡ olds_of j dir
unfolding olds_of
olds_take n zero dir h = refl
olds_take zero (suc j) dir h = absurd (omega arith)
olds_take (suc n) (suc j) [] h = refl
olds_take (suc n) (suc j) (x ∷ []) h = refl
olds_take (suc n) (suc j) (x ∷ y ∷ []) h = refl
olds_take (suc n) (suc j) (x ∷ y ∷ z ∷ dir) h = ap {B = List Old} (λ t. old (lo x) (hi y) (lo y) z ∷ t) (olds_take n j dir (omega arith))

none_named : (b : ℕ) → ◌≡◌ {A = List Old} [] (olds_of b [])
unfolding olds_of
none_named zero = refl
none_named (suc b) = refl

pub olds_drop : (n j : ℕ) (dir : List ℕ) → drop j (olds_of n dir) ≡ olds_of (n - j) (drop (j * entry_words) dir)
unfolding olds_of
olds_drop n zero dir = rw (native.Mathlib.Nat.sub-zero n)
olds_drop zero (suc j) dir = let e : zero - suc j ≡ 0 = omega arith in rw e
olds_drop (suc n) (suc j) [] = rw (thrice j) (none_named (suc n - suc j))
olds_drop (suc n) (suc j) (x ∷ []) = rw (thrice j) (none_named (suc n - suc j))
olds_drop (suc n) (suc j) (x ∷ y ∷ []) = rw (thrice j) (none_named (suc n - suc j))
olds_drop (suc n) (suc j) (x ∷ y ∷ z ∷ dir) =
    let e : suc n - suc j ≡ n - j = omega arith in
    rw (e, thrice j) (olds_drop n j dir)

-- the words of all, where the words of the first n end
pub all_words_lem : (n : ℕ) (dir : List ℕ) → old_words (take n (olds_of n dir)) ≡ old_words (olds_of n dir)
all_words_lem n dir = ap old_words (olds_take n n dir (omega arith))

-- none are left from number n on
pub no_more : (n : ℕ) (dir : List ℕ) → n * entry_words ≤ length dir → drop n (olds_of n dir) ≡ []
no_more n dir h = drop_of_length-le (olds_of n dir) {i = n} (omega (arith, olds_length n dir h))

-- the counter of the first from number m on
pub counter_at_lem : (n : ℕ) (dir : List ℕ) → n * entry_words ≤ length dir → (m : ℕ) → m < n → get_or dir (m * entry_words + 2) 0 ≡ first_counter (drop m (olds_of n dir))
unfolding first_counter
counter_at_lem n dir h m k = sym (rw (olds_next n m dir h k))

-- ---- a chain
record Links (T W n pos at : ℕ) (dir : List ℕ) (os : List Old) : Type 0 where
  same : os ≡ olds_of n dir
  inside : n * entry_words ≤ length dir
  start : (m : ℕ) → m < n → hi (get_or dir (m * entry_words) 0) ≡ pos + old_sizes (take m os)
  first : (m : ℕ) → m < n → hi (get_or dir (m * entry_words + 1) 0) ≡ at + old_words (take m os)
  in_text : pos ≤ T → pos + old_sizes os ≤ T
  in_words : at ≤ W → at + old_words os ≤ W
  low : (m : ℕ) → m < n → get_or dir (m * entry_words + 2) 0 ≤ counter_limit

starts : (T W n pos at x y z : ℕ) (dir : List ℕ) (os others : List Old) → hi x ≡ pos → Links T W n (pos + lo x) (at + lo y) dir others
    → (k : ℕ) → k < suc n → get_or (x ∷ y ∷ z ∷ dir) (k * entry_words) 0 / half_limit ≡ pos + old_sizes (take k (old (lo x) at (lo y) z ∷ others))
unfolding old_sizes
starts T W n pos at x y z dir os others h ih zero l = h ∙ sym (add-zero pos)
starts T W n pos at x y z dir os others h ih (suc k) l = rw (thrice k) (ih.start k (omega arith) ∙ add_assoc pos (lo x) (old_sizes (take k others)))

firsts : (T W n pos at x y z : ℕ) (dir : List ℕ) (os others : List Old) → hi y ≡ at → Links T W n (pos + lo x) (at + lo y) dir others
    → (k : ℕ) → k < suc n → get_or (x ∷ y ∷ z ∷ dir) (k * entry_words + 1) 0 / half_limit ≡ at + old_words (take k (old (lo x) at (lo y) z ∷ others))
unfolding old_words
firsts T W n pos at x y z dir os others h ih zero l = h ∙ sym (add-zero at)
firsts T W n pos at x y z dir os others h ih (suc k) l =
    rw (thrice_on k 1) (ih.first k (omega arith) ∙ add_assoc at (lo y) (old_words (take k others)))

lows : (T W n pos at x y z : ℕ) (dir : List ℕ) (others : List Old) → z ≤ counter_limit → Links T W n pos at dir others
    → (k : ℕ) → k < suc n → get_or (x ∷ y ∷ z ∷ dir) (k * entry_words + 2) 0 ≤ counter_limit
lows T W n pos at x y z dir others h ih zero l = h
lows T W n pos at x y z dir others h ih (suc k) l = rw (thrice_on k 2) (ih.low k (omega arith))

links : (T W n pos at : ℕ) (dir : List ℕ) (os : List Old) → chain T W n pos at dir ≡ some os → Links T W n pos at dir os
unfolding chain olds_of old_sizes old_words
links T W zero pos at dir os h =
    let w : [] ≡ os = cc in
    rw (← w)
    (record {
      same = refl;
      inside = omega arith;
      start = λ m l. absurd (omega arith);
      first = λ m l. absurd (omega arith);
      in_text = λ l. rw (add-zero pos) l;
      in_words = λ l. rw (add-zero at) l;
      low = λ m l. absurd (omega arith);
    })
links T W (suc n) pos at [] os h = let z : ◌≡◌ {A = ℕ} 0 1 = cc in absurd (omega arith)
links T W (suc n) pos at (x ∷ []) os h = let z : ◌≡◌ {A = ℕ} 0 1 = cc in absurd (omega arith)
links T W (suc n) pos at (x ∷ y ∷ []) os h = let z : ◌≡◌ {A = ℕ} 0 1 = cc in absurd (omega arith)
links T W (suc n) pos at (x ∷ y ∷ z ∷ dir) os h =
    let c : Step T W n pos at x y z dir os = step T W n pos at x y z dir os h in
    let e : ℕ = lo x in
    let m : ℕ = lo y in
    let ih : Links T W n (pos + e) (at + m) dir c.others = links T W n (pos + e) (at + m) dir c.others c.rest_is in
    rw c.is
    (record {
      same = rw (c.first, ← ih.same);
      inside = omega (arith, ih.inside);
      start = starts T W n pos at x y z dir os c.others c.start ih;
      first = firsts T W n pos at x y z dir os c.others c.first ih;
      in_text = λ l. omega (arith, ih.in_text c.in_text);
      in_words = λ l. omega (arith, ih.in_words c.in_words);
      low = lows T W n (pos + e) (at + m) x y z dir c.others c.low ih;
    })

-- ---- question 22
pub not_chained : (o : Option (List Old)) → answers o ≡ false → o ≡ none
unfolding answers
not_chained none h = refl
not_chained (some os) h = let z : ◌≡◌ {A = ℕ} 0 1 = cc in absurd (omega arith)

is_some : (o : Option (List Old)) → answers o ≡ true → (os : List Old) × (o ≡ some os)
unfolding answers
is_some none h = let z : ◌≡◌ {A = ℕ} 0 1 = cc in absurd (omega arith)
is_some (some os) h = (os, refl)

-- Where it does not refuse, the directory is as `Chained` says.
pub chained_is : (T W n : ℕ) (dir : List ℕ) → answers (olds T W n dir) ≡ true → Chained T W n dir
unfolding olds answers
chained_is T W n dir h = go (leb 2 n) refl
  where
    go : (b : Bool) → leb 2 n ≡ b → Chained T W n dir
    go false t = let w : false ≡ true = rw (olds, t) at h in let z : ◌≡◌ {A = ℕ} 0 1 = cc in absurd (omega arith)
    go true t =
        let w : answers (chain T W n 0 0 dir) ≡ true = rw (olds, t) at h in
        let s : (os : List Old) × (chain T W n 0 0 dir ≡ some os) = is_some (chain T W n 0 0 dir) w in
        let k : Links T W n 0 0 dir s.0 = links T W n 0 0 dir s.0 s.1 in
        record {
          is = rw (olds, t) (s.1 ∙ ap some k.same);
          two = leb-true 2 n t;
          joined = record {
            inside = k.inside;
            start = λ m l. k.start m l ∙ rw (zero-add (old_sizes (take m s.0)), k.same);
            first = λ m l. k.first m l ∙ rw (zero-add (old_words (take m s.0)), k.same);
            counter = counter_at_lem n dir k.inside;
          };
          in_text = rw (← k.same) (omega (arith, k.in_text (omega arith)));
          in_words = rw (← k.same) (omega (arith, k.in_words (omega arith)));
          low = k.low;
        }
