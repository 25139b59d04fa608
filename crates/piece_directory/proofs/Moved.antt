-- Entries that get new starts and first words, one by one.
-- By induction on the entries: a move changes starts and never lengths, so the sums stay.
-- Assumes nothing.
use mathlib.Core.Path.{◌≡◌, refl, sym, ap, ◌∙◌}
use mathlib.Core.List.{List, [], ◌∷◌, ◌++◌, append_assoc}
use Prim.Native.Nat.{ℕ, zero, suc, ◌+◌, ◌-◌, ◌*◌, ◌≤◌, ◌<◌}
use native.Mathlib.Nat.{add-zero, add_assoc}
use native.Mathlib.Numerals.{add-one}
use native.Mathlib.Omega.{arith}
use lib.ListN.{length, take, drop, get_or, set, length-set, length-append, length-drop, take-append-drop}
use lib.Seq.{length-take-le, sets-eq, get_or-drop, get_or-append-add, paste, take_at, drop_at, drop-drop, length-paste, drop-paste}
use Rattle.records.specs.Words.{pack, hi, lo}
use Rattle.records.specs.Limits.{half_limit, entry_words}
use Rattle.records.specs.Pieces.{Old, old, old_sizes, old_words}
use Rattle.piece_directory.specs.Olds.{olds_of, moved}
use Rattle.piece_directory.proofs.Links.{thrice, thrice_on, size_at, first_at, count_at, counter_at, olds_next, olds_take, olds_drop, sizes_step, words_step, sizes_split, words_split}

pub moved_length : (n pos at : ℕ) (dir : List ℕ) → n * entry_words ≤ length dir → length (moved n pos at dir) ≡ n * entry_words
unfolding moved
moved_length zero pos at dir h = refl
moved_length (suc n) pos at [] h = absurd (omega arith)
moved_length (suc n) pos at (x ∷ []) h = absurd (omega arith)
moved_length (suc n) pos at (x ∷ y ∷ []) h = absurd (omega arith)
moved_length (suc n) pos at (x ∷ y ∷ z ∷ dir) h = omega (arith, moved_length n (pos + lo x) (at + lo y) dir (omega arith))

-- one more
pub moved_more : (n pos at : ℕ) (dir : List ℕ) → suc n * entry_words ≤ length dir
    → moved (suc n) pos at dir ≡ moved n pos at dir ++ (pack (pos + old_sizes (olds_of n dir)) (size_at dir n) ∷ pack (at + old_words (olds_of n dir)) (count_at dir n) ∷ counter_at dir n ∷ [])
unfolding moved olds_of old_sizes old_words
moved_more n pos at [] h = absurd (omega arith)
moved_more n pos at (x ∷ []) h = absurd (omega arith)
moved_more n pos at (x ∷ y ∷ []) h = absurd (omega arith)
moved_more zero pos at (x ∷ y ∷ z ∷ dir) h = rw (add-zero pos, add-zero at)
moved_more (suc n) pos at (x ∷ y ∷ z ∷ dir) h =
    rw (thrice_on n 1, thrice_on n 2, thrice n, ← add_assoc pos (lo x) (old_sizes (olds_of n dir)), ← add_assoc at (lo y) (old_words (olds_of n dir)))
    (ap {B = List ℕ} (λ t. pack pos (lo x) ∷ pack at (lo y) ∷ z ∷ t) (moved_more n (pos + lo x) (at + lo y) dir (omega arith)))

-- only the first n entries matter
pub moved_front : (n pos at : ℕ) (dir rest : List ℕ) → n * entry_words ≤ length dir → moved n pos at (take (n * entry_words) dir ++ rest) ≡ moved n pos at dir
unfolding moved
moved_front zero pos at dir rest h = refl
moved_front (suc n) pos at [] rest h = absurd (omega arith)
moved_front (suc n) pos at (x ∷ []) rest h = absurd (omega arith)
moved_front (suc n) pos at (x ∷ y ∷ []) rest h = absurd (omega arith)
moved_front (suc n) pos at (x ∷ y ∷ z ∷ dir) rest h =
    rw (thrice n) (ap {B = List ℕ} (λ t. pack pos (lo x) ∷ pack at (lo y) ∷ z ∷ t) (moved_front n (pos + lo x) (at + lo y) dir rest (omega arith)))

pub olds_front : (n : ℕ) (dir rest : List ℕ) → n * entry_words ≤ length dir → olds_of n (take (n * entry_words) dir ++ rest) ≡ olds_of n dir
unfolding olds_of
olds_front zero dir rest h = refl
olds_front (suc n) [] rest h = absurd (omega arith)
olds_front (suc n) (x ∷ []) rest h = absurd (omega arith)
olds_front (suc n) (x ∷ y ∷ []) rest h = absurd (omega arith)
olds_front (suc n) (x ∷ y ∷ z ∷ dir) rest h = rw (thrice n) (ap {B = List Old} (λ t. old (lo x) (hi y) (lo y) z ∷ t) (olds_front n dir rest (omega arith)))

-- ---- one entry is put
pub entry_put : (l : List ℕ) (j x y z : ℕ) → j + entry_words ≤ length l
    → set (set (set l j x) (j + 1) y) (j + 2) z ≡ take j l ++ ((x ∷ y ∷ z ∷ []) ++ drop (j + entry_words) l)
entry_put l j x y z h =
    let e : j + 2 ≡ suc (suc j) = omega arith in
    rw (e, add-one j) (sets-eq (x ∷ y ∷ z ∷ []) l j h ∙ append_assoc (take j l) (x ∷ y ∷ z ∷ []) (drop (j + entry_words) l))

-- ---- entries from number i on, of which k are done
abbrev pub after : (d : List ℕ) (i pos at k : ℕ) → List ℕ
after d i pos at k = take (i * entry_words) d ++ (moved k pos at (drop (i * entry_words) d) ++ drop ((i + k) * entry_words) d)

pub record Renumbering (d : List ℕ) (i n pos at k place first : ℕ) (cur : List ℕ) : Type 0 where
  pub count : k ≤ n
  pub list : cur ≡ after d i pos at k
  pub long : length cur ≡ length d
  pub place_is : place ≡ pos + old_sizes (olds_of k (drop (i * entry_words) d))
  pub first_is : first ≡ at + old_words (olds_of k (drop (i * entry_words) d))

pub renumber_first : (d : List ℕ) (i n pos at : ℕ) → Renumbering d i n pos at 0 pos at d
unfolding moved olds_of old_sizes old_words
renumber_first d i n pos at =
    record {
      count = omega arith;
      list = rw (add-zero i) (sym (take-append-drop (i * entry_words) d));
      long = refl;
      place_is = sym (add-zero pos);
      first_is = sym (add-zero at);
    }

module _ (d : List ℕ) (i n pos at : ℕ) (room : (i + n) * entry_words ≤ length d) where
  behind : n * entry_words ≤ length (drop (i * entry_words) d)
  behind = omega (arith, length-drop (i * entry_words) d)

  front : (k : ℕ) → k ≤ n → length (take (i * entry_words) d ++ moved k pos at (drop (i * entry_words) d)) ≡ (i + k) * entry_words
  front k h =
      omega (arith, length-append (take (i * entry_words) d) (moved k pos at (drop (i * entry_words) d)), length-take-le (i * entry_words) d (omega arith), moved_length k pos at (drop (i * entry_words) d) (omega (arith, behind)))

  module _ (k place first : ℕ) (cur : List ℕ) (g : Renumbering d i n pos at k place first cur) (h : k < n) where
    p : List ℕ
    p = take (i * entry_words) d ++ moved k pos at (drop (i * entry_words) d)

    split : cur ≡ p ++ drop ((i + k) * entry_words) d
    unfolding p
    split = g.list ∙ sym (append_assoc (take (i * entry_words) d) (moved k pos at (drop (i * entry_words) d)) (drop ((i + k) * entry_words) d))

    lp : length p ≡ (i + k) * entry_words
    unfolding p
    lp = front k (omega arith)

    -- what the loop reads is as it was
    read : (m : ℕ) → get_or cur ((i + k) * entry_words + m) 0 ≡ get_or (drop (i * entry_words) d) (k * entry_words + m) 0
    read m =
        let q : i * entry_words + (k * entry_words + m) ≡ (i + k) * entry_words + m = omega arith in
        ap (λ (l : List ℕ). get_or l ((i + k) * entry_words + m) 0) split
        ∙ ap (λ (c : ℕ). get_or (p ++ drop ((i + k) * entry_words) d) (c + m) 0) (sym lp)
        ∙ get_or-append-add p (drop ((i + k) * entry_words) d) m 0
        ∙ get_or-drop ((i + k) * entry_words) d m 0
        ∙ ap (λ (c : ℕ). get_or d c 0) (sym q)
        ∙ sym (get_or-drop (i * entry_words) d (k * entry_words + m) 0)

    pub read_size_lem : lo (get_or cur ((i + k) * entry_words) 0) ≡ size_at (drop (i * entry_words) d) k
    read_size_lem = ap (λ (x : ℕ). lo x) (rw (add-zero ((i + k) * entry_words), add-zero (k * entry_words)) at (read 0))

    pub read_count : lo (get_or cur ((i + k) * entry_words + 1) 0) ≡ count_at (drop (i * entry_words) d) k
    read_count = ap (λ (x : ℕ). lo x) (read 1)

    piece : drop k (olds_of n (drop (i * entry_words) d)) ≡ old (size_at (drop (i * entry_words) d) k) (first_at (drop (i * entry_words) d) k) (count_at (drop (i * entry_words) d) k) (counter_at (drop (i * entry_words) d) k) ∷ drop (suc k) (olds_of n (drop (i * entry_words) d))
    piece = olds_next n k (drop (i * entry_words) d) behind h

    sizes : old_sizes (olds_of (suc k) (drop (i * entry_words) d)) ≡ old_sizes (olds_of k (drop (i * entry_words) d)) + size_at (drop (i * entry_words) d) k
    sizes =
        ap old_sizes (sym (olds_take n (suc k) (drop (i * entry_words) d) h))
        ∙ sizes_step k (olds_of n (drop (i * entry_words) d)) (size_at (drop (i * entry_words) d) k) (first_at (drop (i * entry_words) d) k) (count_at (drop (i * entry_words) d) k) (counter_at (drop (i * entry_words) d) k) (drop (suc k) (olds_of n (drop (i * entry_words) d))) piece
        ∙ ap (λ (os : List Old). old_sizes os + size_at (drop (i * entry_words) d) k) (olds_take n k (drop (i * entry_words) d) (omega arith))

    words : old_words (olds_of (suc k) (drop (i * entry_words) d)) ≡ old_words (olds_of k (drop (i * entry_words) d)) + count_at (drop (i * entry_words) d) k
    words =
        ap old_words (sym (olds_take n (suc k) (drop (i * entry_words) d) h))
        ∙ words_step k (olds_of n (drop (i * entry_words) d)) (size_at (drop (i * entry_words) d) k) (first_at (drop (i * entry_words) d) k) (count_at (drop (i * entry_words) d) k) (counter_at (drop (i * entry_words) d) k) (drop (suc k) (olds_of n (drop (i * entry_words) d))) piece
        ∙ ap (λ (os : List Old). old_words os + count_at (drop (i * entry_words) d) k) (olds_take n k (drop (i * entry_words) d) (omega arith))

    whole_sizes : old_sizes (olds_of (suc k) (drop (i * entry_words) d)) ≤ old_sizes (olds_of n (drop (i * entry_words) d))
    whole_sizes = omega (arith, sizes_split (suc k) (olds_of n (drop (i * entry_words) d)), ap old_sizes (olds_take n (suc k) (drop (i * entry_words) d) h))

    whole_words : old_words (olds_of (suc k) (drop (i * entry_words) d)) ≤ old_words (olds_of n (drop (i * entry_words) d))
    whole_words = omega (arith, words_split (suc k) (olds_of n (drop (i * entry_words) d)), ap old_words (olds_take n (suc k) (drop (i * entry_words) d) h))

    pub place_ends : place + lo (get_or cur ((i + k) * entry_words) 0) ≤ pos + old_sizes (olds_of n (drop (i * entry_words) d))
    place_ends = omega (arith, g.place_is, read_size_lem, sizes, whole_sizes)

    pub first_ends : first + lo (get_or cur ((i + k) * entry_words + 1) 0) ≤ at + old_words (olds_of n (drop (i * entry_words) d))
    first_ends = omega (arith, g.first_is, read_count, words, whole_words)

    pub renumber_next : (next : List ℕ)
        → next
        ≡ set (set (set cur ((i + k) * entry_words) (pack place (lo (get_or cur ((i + k) * entry_words) 0)))) ((i + k) * entry_words + 1) (pack first (lo (get_or cur ((i + k) * entry_words + 1) 0)))) ((i + k) * entry_words + 2) (get_or cur ((i + k) * entry_words + 2) 0)
        → Renumbering d i n pos at (k + 1) (place + lo (get_or cur ((i + k) * entry_words) 0)) (first + lo (get_or cur ((i + k) * entry_words + 1) 0)) next
    unfolding p
    renumber_next next e =
        let L : List ℕ = drop (i * entry_words) d in
        let X : ℕ = pack place (lo (get_or cur ((i + k) * entry_words) 0)) in
        let Y : ℕ = pack first (lo (get_or cur ((i + k) * entry_words + 1) 0)) in
        let Z : ℕ = get_or cur ((i + k) * entry_words + 2) 0 in
        let j : ℕ = (i + k) * entry_words in
        let q : (i + suc k) * entry_words ≡ j + entry_words = omega arith in
        let tk : take j cur ≡ p = ap (take j) split ∙ take_at p (drop j d) j lp in
        let dr : drop (j + entry_words) cur ≡ drop (j + entry_words) d =
        sym (drop-drop entry_words j cur) ∙ ap (drop entry_words) (ap (drop j) split ∙ drop_at p (drop j d) j lp) ∙ drop-drop entry_words j d in
        let ex : X ≡ pack (pos + old_sizes (olds_of k L)) (size_at L k) = rw (g.place_is, read_size_lem) in
        let ey : Y ≡ pack (at + old_words (olds_of k L)) (count_at L k) = rw (g.first_is, read_count) in
        let ez : Z ≡ counter_at L k = read 2 in
        let new : next ≡ after d i pos at (suc k) =
        e ∙ entry_put cur j X Y Z (omega (arith, g.long)) ∙ rw (tk, dr, ex, ey, ez)
        (append_assoc (take (i * entry_words) d) (moved k pos at L) ((pack (pos + old_sizes (olds_of k L)) (size_at L k) ∷ pack (at + old_words (olds_of k L)) (count_at L k) ∷ counter_at L k ∷ []) ++ drop (j + entry_words) d)
        ∙ ap {B = List ℕ} (λ t. take (i * entry_words) d ++ t)
        (sym (append_assoc (moved k pos at L) (pack (pos + old_sizes (olds_of k L)) (size_at L k) ∷ pack (at + old_words (olds_of k L)) (count_at L k) ∷ counter_at L k ∷ []) (drop (j + entry_words) d))
        ∙ ap {B = List ℕ} (λ t. t ++ drop (j + entry_words) d) (sym (moved_more k pos at L (omega (arith, behind))))
        ∙ ap {B = List ℕ} (λ t. moved (suc k) pos at L ++ drop t d) (sym q))) in
        rw (add-one k)
        (record {
          count = h;
          list = new;
          long = ap length e ∙ length-set (set (set cur j X) (j + 1) Y) (j + 2) Z ∙ length-set (set cur j X) (j + 1) Y ∙ length-set cur j X ∙ g.long;
          place_is = omega (arith, g.place_is, read_size_lem, sizes);
          first_is = omega (arith, g.first_is, read_count, words);
        })

-- ---- entries from number f on come to stand from number t on
module _ (d : List ℕ) (n f t : ℕ) (hf : (f + n) * entry_words ≤ length d) (ht : (t + n) * entry_words ≤ length d) where
  front_t : length (take (t * entry_words) d) ≡ t * entry_words
  front_t = length-take-le (t * entry_words) d (omega arith)

  behind_f : n * entry_words ≤ length (drop (f * entry_words) d)
  behind_f = omega (arith, length-drop (f * entry_words) d)

  assoc : paste d (t * entry_words) (drop (f * entry_words) d) (n * entry_words) ≡ take (t * entry_words) d ++ (take (n * entry_words) (drop (f * entry_words) d) ++ drop (t * entry_words + n * entry_words) d)
  assoc = append_assoc (take (t * entry_words) d) (take (n * entry_words) (drop (f * entry_words) d)) (drop (t * entry_words + n * entry_words) d)

  pub pasted_long : length (paste d (t * entry_words) (drop (f * entry_words) d) (n * entry_words)) ≡ length d
  pasted_long = length-paste d (t * entry_words) (drop (f * entry_words) d) (n * entry_words) (omega arith) behind_f

  pasted_behind : drop (t * entry_words) (paste d (t * entry_words) (drop (f * entry_words) d) (n * entry_words)) ≡ take (n * entry_words) (drop (f * entry_words) d) ++ drop (t * entry_words + n * entry_words) d
  pasted_behind = ap (drop (t * entry_words)) assoc ∙ drop_at (take (t * entry_words) d) (take (n * entry_words) (drop (f * entry_words) d) ++ drop (t * entry_words + n * entry_words) d) (t * entry_words) front_t

  pub pasted_olds : olds_of n (drop (t * entry_words) (paste d (t * entry_words) (drop (f * entry_words) d) (n * entry_words))) ≡ olds_of n (drop (f * entry_words) d)
  pasted_olds = ap (olds_of n) pasted_behind ∙ olds_front n (drop (f * entry_words) d) (drop (t * entry_words + n * entry_words) d) behind_f

  pub pasted_moved : (pos at : ℕ) → after (paste d (t * entry_words) (drop (f * entry_words) d) (n * entry_words)) t pos at n ≡ take (t * entry_words) d ++ (moved n pos at (drop (f * entry_words) d) ++ drop ((t + n) * entry_words) d)
  pasted_moved pos at =
      let q : (t + n) * entry_words ≡ t * entry_words + n * entry_words = omega arith in
      let a : take (t * entry_words) (paste d (t * entry_words) (drop (f * entry_words) d) (n * entry_words)) ≡ take (t * entry_words) d =
      ap (take (t * entry_words)) assoc ∙ take_at (take (t * entry_words) d) (take (n * entry_words) (drop (f * entry_words) d) ++ drop (t * entry_words + n * entry_words) d) (t * entry_words) front_t in
      let b : moved n pos at (drop (t * entry_words) (paste d (t * entry_words) (drop (f * entry_words) d) (n * entry_words))) ≡ moved n pos at (drop (f * entry_words) d) =
      ap (moved n pos at) pasted_behind ∙ moved_front n pos at (drop (f * entry_words) d) (drop (t * entry_words + n * entry_words) d) behind_f in
      let c : drop ((t + n) * entry_words) (paste d (t * entry_words) (drop (f * entry_words) d) (n * entry_words)) ≡ drop ((t + n) * entry_words) d =
      ap (λ (k : ℕ). drop k (paste d (t * entry_words) (drop (f * entry_words) d) (n * entry_words))) q
      ∙ drop-paste d (t * entry_words) (drop (f * entry_words) d) (n * entry_words) (omega arith) behind_f
      ∙ ap (λ (k : ℕ). drop k d) (sym q) in
      rw (a, b, c)

-- the old pieces from number f on, as the entries from there on name them
pub olds_from : (n f : ℕ) (dir : List ℕ) → olds_of (n - f) (drop (f * entry_words) dir) ≡ drop f (olds_of n dir)
olds_from n f dir = sym (olds_drop n f dir)

-- what `move_entries` shows between and behind its two steps
module _ (d : List ℕ) (n f t pos at : ℕ) (hf : f ≤ n) (hn : n * entry_words ≤ length d) (ht : (t + (n - f)) * entry_words ≤ length d) (d1 : List ℕ) (is : d1 ≡ paste d (t * entry_words) (drop (f * entry_words) d) ((n - f) * entry_words)) where
  room_f : (f + (n - f)) * entry_words ≤ length d
  room_f = omega arith

  pub moved_room : (t + (n - f)) * entry_words ≤ length d1
  moved_room = rw (is, pasted_long d (n - f) f t room_f ht) ht

  moved_olds : olds_of (n - f) (drop (t * entry_words) d1) ≡ drop f (olds_of n d)
  moved_olds = ap (λ (l : List ℕ). olds_of (n - f) (drop (t * entry_words) l)) is ∙ pasted_olds d (n - f) f t room_f ht ∙ olds_from n f d

  pub moved_sizes : pos + old_sizes (drop f (olds_of n d)) < half_limit → pos + old_sizes (olds_of (n - f) (drop (t * entry_words) d1)) < half_limit
  moved_sizes h = rw moved_olds h

  pub moved_words : at + old_words (drop f (olds_of n d)) < half_limit → at + old_words (olds_of (n - f) (drop (t * entry_words) d1)) < half_limit
  moved_words h = rw moved_olds h

  pub moved_is : (d2 : List ℕ) → d2 ≡ after d1 t pos at (n - f) → d2 ≡ take (t * entry_words) d ++ (moved (n - f) pos at (drop (f * entry_words) d) ++ drop ((t + (n - f)) * entry_words) d)
  moved_is d2 e = e ∙ ap (λ (l : List ℕ). after l t pos at (n - f)) is ∙ pasted_moved d (n - f) f t room_f ht pos at
