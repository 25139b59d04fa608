-- What a reading leaves, told for code that works in place: what is kept in front stays where it is, what was read stands behind it, and
-- what is kept behind has moved as one stretch.
-- By induction on the pieces, with the parts cut at their seams.
-- Assumes nothing.
use mathlib.Core.Path.{◌≡◌, refl, sym, ap, ◌∙◌}
use mathlib.Core.List.{List, [], ◌∷◌, ◌++◌, append-nil, append_assoc}
use Prim.Native.Nat.{ℕ, zero, suc, ◌+◌, ◌-◌, ◌*◌, ◌≤◌, ◌<◌}
use native.Mathlib.Nat.{add-zero, zero-add, add_assoc, div-add-mod'}
use native.Mathlib.Omega.{arith}
use lib.ListN.{length, get_or, take, drop, length-append, length-drop, drop_of_length-le}
use lib.Seq.{drop-drop, take-add, length-take-le}
use Rattle.records.specs.Words.{pack, hi, lo}
use Rattle.records.specs.Limits.{half_limit, entry_words}
use Rattle.records.specs.Pieces.{Run, done, item, map_run, Source, fresh, source_words, is_fresh, sum_run, before, Old, old, old_sizes, old_words, all_words, entries, count_run, pad, fine, refused, refused_at, count, left, leave, again_left, leave_again}
use Rattle.piece_directory.specs.Olds.{olds_of, moved, Joined, Chained}
use Rattle.reread_kept.specs.Place.{Taken, full_then, read_then, read_size, read_words, read_entries, rest_left, words_left, entries_left}
use Rattle.piece_directory.proofs.Moved.{moved_more}
use Rattle.piece_directory.proofs.Links.{drop_entry, size_at, first_at, count_at, counter_at, olds_next, olds_take, olds_length, olds_drop, words_step, words_split}

-- ---- pieces that were read
pub full_map : (ws : List ℕ) (fs : List Taken) (r : Run Source) → map_run (source_words ws) (read_then fs r) ≡ full_then fs (map_run (source_words ws) r)
unfolding map_run source_words read_then full_then
full_map ws [] r = refl
full_map ws (x ∷ fs) r = ap (item x.0 x.1 x.2) (full_map ws fs r)

-- one more piece
pub full_snoc : (fs : List Taken) (e d : ℕ) (ws : List ℕ) (r : Run (List ℕ)) → full_then fs (item e d ws r) ≡ full_then (fs ++ ((e, d, ws) ∷ [])) r
unfolding full_then
full_snoc [] e d ws r = refl
full_snoc (x ∷ fs) e d ws r = ap (item x.0 x.1 x.2) (full_snoc fs e d ws r)

pub read_snoc : (fs : List Taken) (e d : ℕ) (ws : List ℕ) (r : Run Source) → read_then fs (item e d (fresh ws) r) ≡ read_then (fs ++ ((e, d, ws) ∷ [])) r
unfolding read_then
read_snoc [] e d ws r = refl
read_snoc (x ∷ fs) e d ws r = ap (item x.0 x.1 (fresh x.2)) (read_snoc fs e d ws r)

pub size_snoc : (fs : List Taken) (e d : ℕ) (ws : List ℕ) → read_size (fs ++ ((e, d, ws) ∷ [])) ≡ read_size fs + e
unfolding read_size
size_snoc [] e d ws = add-zero e ∙ sym (zero-add e)
size_snoc (x ∷ fs) e d ws = omega (arith, size_snoc fs e d ws)

pub words_snoc : (fs : List Taken) (e d : ℕ) (ws : List ℕ) → read_words (fs ++ ((e, d, ws) ∷ [])) ≡ read_words fs ++ ws
unfolding read_words
words_snoc [] e d ws = append-nil ws
words_snoc (x ∷ fs) e d ws = ap {B = List ℕ} (λ t. x.2 ++ t) (words_snoc fs e d ws) ∙ sym (append_assoc x.2 (read_words fs) ws)

pub entries_snoc : (pos at : ℕ) (fs : List Taken) (e d : ℕ) (ws : List ℕ)
    → read_entries pos at (fs ++ ((e, d, ws) ∷ [])) ≡ read_entries pos at fs ++ (pack (pos + read_size fs) e ∷ pack (at + length (read_words fs)) (length ws) ∷ d ∷ [])
unfolding read_entries read_size read_words
entries_snoc pos at [] e d ws = rw (add-zero pos, add-zero at)
entries_snoc pos at (x ∷ fs) e d ws =
    rw (length-append x.2 (read_words fs), ← add_assoc pos x.0 (read_size fs), ← add_assoc at (length x.2) (length (read_words fs)))
    (ap {B = List ℕ} (λ t. pack pos x.0 ∷ pack at (length x.2) ∷ x.1 ∷ t) (entries_snoc (pos + x.0) (at + length x.2) fs e d ws))

pub entries_length : (pos at : ℕ) (fs : List Taken) → length (read_entries pos at fs) ≡ length fs * entry_words
unfolding read_entries
entries_length pos at [] = refl
entries_length pos at (x ∷ fs) = omega (arith, entries_length (pos + x.0) (at + length x.2) fs)

-- what they leave
pub full_words : (fs : List Taken) (r : Run (List ℕ)) → all_words (full_then fs r) ≡ read_words fs ++ all_words r
unfolding all_words full_then read_words
full_words [] r = refl
full_words (x ∷ fs) r = ap {B = List ℕ} (λ t. x.2 ++ t) (full_words fs r) ∙ sym (append_assoc x.2 (read_words fs) (all_words r))

pub full_entries : (pos at : ℕ) (fs : List Taken) (r : Run (List ℕ)) → entries pos at (full_then fs r) ≡ read_entries pos at fs ++ entries (pos + read_size fs) (at + length (read_words fs)) r
unfolding entries full_then read_entries read_size read_words
full_entries pos at [] r = rw (add-zero pos, add-zero at)
full_entries pos at (x ∷ fs) r =
    rw (length-append x.2 (read_words fs), ← add_assoc pos x.0 (read_size fs), ← add_assoc at (length x.2) (length (read_words fs)))
    (ap {B = List ℕ} (λ t. pack pos x.0 ∷ pack at (length x.2) ∷ x.1 ∷ t) (full_entries (pos + x.0) (at + length x.2) fs r))

pub full_count : (fs : List Taken) (r : Run (List ℕ)) → count_run (full_then fs r) ≡ length fs + count_run r
unfolding count_run full_then
full_count [] r = sym (zero-add (count_run r))
full_count (x ∷ fs) r = omega (arith, full_count fs r)

-- ---- old pieces
-- The old pieces lie without gaps from word `at` on, inside the array.
abbrev pub Lies : (words at : ℕ) → List Old → Type 0
Lies words at [] = Unit {0}
Lies words at (old e f n d ∷ os) = (f ≡ at) × (at + n ≤ words) × Lies words (at + n) os

-- Those that n entries name, from number j on.
lies_from : (W n : ℕ) (dir : List ℕ) → Joined n dir → old_words (olds_of n dir) ≤ W → (d j : ℕ) → j + d ≡ n → Lies W (old_words (take j (olds_of n dir))) (drop j (olds_of n dir))
lies_from W n dir g h zero j e = rw (drop_of_length-le (olds_of n dir) {i = j} (omega (arith, olds_length n dir g.inside))) tt
lies_from W n dir g h (suc d) j e =
    let l : j < n = omega arith in
    let os : List Old = olds_of n dir in
    let p : drop j os ≡ old (size_at dir j) (first_at dir j) (count_at dir j) (counter_at dir j) ∷ drop (suc j) os = olds_next n j dir g.inside l in
    let s : old_words (take (suc j) os) ≡ old_words (take j os) + count_at dir j = words_step j os (size_at dir j) (first_at dir j) (count_at dir j) (counter_at dir j) (drop (suc j) os) p in
    let w : old_words os ≡ old_words (take (suc j) os) + old_words (drop (suc j) os) = words_split (suc j) os in
    rw p (g.first j l, omega arith, rw (← s) (lies_from W n dir g h d (suc j) (omega arith)))

pub lies : (W n : ℕ) (dir : List ℕ) (T : ℕ) → Chained T W n dir → (j : ℕ) → j ≤ n → Lies W (old_words (take j (olds_of n dir))) (drop j (olds_of n dir))
lies W n dir T c j h = lies_from W n dir c.joined c.in_words (n - j) j (omega arith)

lies_take : (W at : ℕ) (k : ℕ) (os : List Old) → Lies W at os → Lies W at (take k os)
lies_take W at zero os l = tt
lies_take W at (suc k) [] l = tt
lies_take W at (suc k) (old e f n d ∷ os) l = (l.0, l.1, lies_take W (at + n) k os l.2)

-- Kept pieces are one stretch of the older words.
pub stretch : (ws : List ℕ) (at : ℕ) (os : List Old) (r : Run Source) → Lies (length ws) at os
    → all_words (map_run (source_words ws) (before os r)) ≡ take (old_words os) (drop at ws) ++ all_words (map_run (source_words ws) r)
unfolding all_words map_run source_words before old_words
stretch ws at [] r l = refl
stretch ws at (old e f n d ∷ os) r l =
    let ih : all_words (map_run (source_words ws) (before os r)) ≡ take (old_words os) (drop (at + n) ws) ++ all_words (map_run (source_words ws) r) = stretch ws (at + n) os r l.2 in
    rw (l.0, take-add n (old_words os) (drop at ws), drop-drop n at ws, append_assoc (take n (drop at ws)) (take (old_words os) (drop (at + n) ws)) (all_words (map_run (source_words ws) r)))
    (ap {B = List ℕ} (λ t. take n (drop at ws) ++ t) ih)

-- Their entries, wherever they come to stand, are those that the directory has, moved.
pub old_entries : (ws : List ℕ) (n pos at w : ℕ) (dir : List ℕ) (r : Run Source) → n * entry_words ≤ length dir → Lies (length ws) w (olds_of n dir)
    → entries pos at (map_run (source_words ws) (before (olds_of n dir) r)) ≡ moved n pos at dir ++ entries (pos + old_sizes (olds_of n dir)) (at + old_words (olds_of n dir)) (map_run (source_words ws) r)
unfolding entries map_run source_words before olds_of old_sizes old_words moved
old_entries ws zero pos at w dir r h l = rw (add-zero pos, add-zero at)
old_entries ws (suc n) pos at w [] r h l = absurd (omega arith)
old_entries ws (suc n) pos at w (x ∷ []) r h l = absurd (omega arith)
old_entries ws (suc n) pos at w (x ∷ y ∷ []) r h l = absurd (omega arith)
old_entries ws (suc n) pos at w (x ∷ y ∷ z ∷ dir) r h l =
    let e : ℕ = lo x in
    let m : ℕ = lo y in
    let f : ℕ = hi y in
    let lf : f ≡ w = l.0 in
    let lw : w + m ≤ length ws = l.1 in
    let lm : length (take m (drop f ws)) ≡ m = length-take-le m (drop f ws) (omega (arith, length-drop f ws)) in
    rw (lm, ← add_assoc pos e (old_sizes (olds_of n dir)), ← add_assoc at m (old_words (olds_of n dir)))
    (ap {B = List ℕ} (λ t. pack pos e ∷ pack at m ∷ z ∷ t) (old_entries ws n (pos + e) (at + m) (w + m) dir r (omega arith) l.2))

old_count : {A : Type 0} (f : Source → A) (os : List Old) (r : Run Source) → count_run (map_run f (before os r)) ≡ length os + count_run (map_run f r)
unfolding count_run map_run before
old_count f [] r = sym (zero-add (count_run (map_run f r)))
old_count f (old e a n d ∷ os) r = omega (arith, old_count f os r)

fresh_count : (fs : List Taken) (r : Run Source) → sum_run (map_run is_fresh (read_then fs r)) ≡ length fs + sum_run (map_run is_fresh r)
unfolding sum_run map_run is_fresh read_then
fresh_count [] r = sym (zero-add (sum_run (map_run is_fresh r)))
fresh_count (x ∷ fs) r = omega (arith, fresh_count fs r)

old_fresh : (os : List Old) → sum_run (map_run is_fresh (before os done)) ≡ 0
unfolding sum_run map_run is_fresh before
old_fresh [] = refl
old_fresh (old e f n d ∷ os) = omega (arith, old_fresh os)

-- Where they stand already, nothing moves.
whole_word : (x : ℕ) → pack (hi x) (lo x) ≡ x
unfolding pack
whole_word x = div-add-mod' x half_limit

take_entry : (dir : List ℕ) (k : ℕ) → suc k * entry_words ≤ length dir → take (suc k * entry_words) dir ≡ take (k * entry_words) dir ++ (get_or dir (k * entry_words) 0 ∷ get_or dir (k * entry_words + 1) 0 ∷ get_or dir (k * entry_words + 2) 0 ∷ [])
take_entry dir k h =
    let q : suc k * entry_words ≡ k * entry_words + entry_words = omega arith in
    ap (λ (m : ℕ). take m dir) q ∙ take-add (k * entry_words) entry_words dir ∙ ap {B = List ℕ} (λ t. take (k * entry_words) dir ++ take entry_words t) (drop_entry dir k (omega arith))

moved_none : (n : ℕ) (dir : List ℕ) → Joined n dir → (k : ℕ) → k ≤ n → moved k 0 0 dir ≡ take (k * entry_words) dir
unfolding moved
moved_none n dir g zero h = refl
moved_none n dir g (suc k) h =
    let sx : old_sizes (olds_of k dir) ≡ hi (get_or dir (k * entry_words) 0) = ap old_sizes (sym (olds_take n k dir (omega arith))) ∙ sym (g.start k h) in
    let sy : old_words (olds_of k dir) ≡ hi (get_or dir (k * entry_words + 1) 0) = ap old_words (sym (olds_take n k dir (omega arith))) ∙ sym (g.first k h) in
    moved_more k 0 0 dir (omega (arith, g.inside))
    ∙ rw (zero-add (old_sizes (olds_of k dir)), zero-add (old_words (olds_of k dir)), sx, sy, whole_word (get_or dir (k * entry_words) 0), whole_word (get_or dir (k * entry_words + 1) 0), moved_none n dir g k (omega arith))
    (sym (take_entry dir k (omega (arith, g.inside))))

-- ---- what re-reading leaves, where question 22 does not refuse
module _ (T : ℕ) (ws : List ℕ) (n : ℕ) (dir : List ℕ) (c : Chained T (length ws) n dir) where
  pub front_words : (k : ℕ) (r : Run Source) → all_words (map_run (source_words ws) (before (take k (olds_of n dir)) r)) ≡ take (old_words (take k (olds_of n dir))) ws ++ all_words (map_run (source_words ws) r)
  unfolding old_words
  front_words k r = stretch ws 0 (take k (olds_of n dir)) r (lies_take (length ws) 0 k (olds_of n dir) (lies (length ws) n dir T c 0 (omega arith)))

  pub front_entries : (k : ℕ) (r : Run Source) → k ≤ n
      → entries 0 0 (map_run (source_words ws) (before (take k (olds_of n dir)) r)) ≡ take (k * entry_words) dir ++ entries (old_sizes (take k (olds_of n dir))) (old_words (take k (olds_of n dir))) (map_run (source_words ws) r)
  unfolding old_words
  front_entries k r h =
      let t : take k (olds_of n dir) ≡ olds_of k dir = olds_take n k dir h in
      let l : Lies (length ws) 0 (olds_of k dir) = rw (← t) (lies_take (length ws) 0 k (olds_of n dir) (lies (length ws) n dir T c 0 (omega arith))) in
      rw t
      (old_entries ws k 0 0 0 dir r (omega (arith, c.joined.inside)) l
      ∙ rw (zero-add (old_sizes (olds_of k dir)), zero-add (old_words (olds_of k dir)), moved_none n dir c.joined k h))

  pub behind_words : (j : ℕ) → j ≤ n → all_words (map_run (source_words ws) (before (drop j (olds_of n dir)) done)) ≡ take (old_words (drop j (olds_of n dir))) (drop (old_words (take j (olds_of n dir))) ws)
  unfolding all_words map_run
  behind_words j h =
      stretch ws (old_words (take j (olds_of n dir))) (drop j (olds_of n dir)) done (lies (length ws) n dir T c j h)
      ∙ append-nil (take (old_words (drop j (olds_of n dir))) (drop (old_words (take j (olds_of n dir))) ws))

  pub behind_entries : (j pos at : ℕ) → j ≤ n → entries pos at (map_run (source_words ws) (before (drop j (olds_of n dir)) done)) ≡ moved (n - j) pos at (drop (j * entry_words) dir)
  unfolding entries map_run
  behind_entries j pos at h =
      let d : drop j (olds_of n dir) ≡ olds_of (n - j) (drop (j * entry_words) dir) = olds_drop n j dir in
      let l : Lies (length ws) (old_words (take j (olds_of n dir))) (olds_of (n - j) (drop (j * entry_words) dir)) = rw (← d) (lies (length ws) n dir T c j h) in
      rw d
      (old_entries ws (n - j) pos at (old_words (take j (olds_of n dir))) (drop (j * entry_words) dir) done (omega (arith, c.joined.inside, length-drop (j * entry_words) dir)) l
      ∙ append-nil (moved (n - j) pos at (drop (j * entry_words) dir)))

  module _ (k j : ℕ) (hk : k ≤ n) (hj : j ≤ n) (fs : List Taken) where
    pub words_left_lem : all_words (map_run (source_words ws) (before (take k (olds_of n dir)) (rest_left n dir j fs))) ≡ words_left ws n dir k j fs
    unfolding rest_left words_left
    words_left_lem =
        front_words k (read_then fs (before (drop j (olds_of n dir)) done))
        ∙ ap {B = List ℕ} (λ t. take (old_words (take k (olds_of n dir))) ws ++ t)
        (ap all_words (full_map ws fs (before (drop j (olds_of n dir)) done))
        ∙ full_words fs (map_run (source_words ws) (before (drop j (olds_of n dir)) done))
        ∙ ap {B = List ℕ} (λ t. read_words fs ++ t) (behind_words j hj))

    pub entries_left_lem : entries 0 0 (map_run (source_words ws) (before (take k (olds_of n dir)) (rest_left n dir j fs))) ≡ entries_left n dir k j fs
    unfolding rest_left entries_left
    entries_left_lem =
        let pos : ℕ = old_sizes (take k (olds_of n dir)) in
        let at : ℕ = old_words (take k (olds_of n dir)) in
        front_entries k (read_then fs (before (drop j (olds_of n dir)) done)) hk
        ∙ ap {B = List ℕ} (λ t. take (k * entry_words) dir ++ t)
        (ap (entries pos at) (full_map ws fs (before (drop j (olds_of n dir)) done))
        ∙ full_entries pos at fs (map_run (source_words ws) (before (drop j (olds_of n dir)) done))
        ∙ ap {B = List ℕ} (λ t. read_entries pos at fs ++ t) (behind_entries j (pos + read_size fs) (at + length (read_words fs)) hj))

    pub count_left : count_run (map_run (source_words ws) (before (take k (olds_of n dir)) (rest_left n dir j fs))) ≡ k + length fs + (n - j)
    unfolding rest_left count_run map_run
    count_left =
        let l : length (olds_of n dir) ≡ n = olds_length n dir c.joined.inside in
        let lk : length (take k (olds_of n dir)) ≡ k = length-take-le k (olds_of n dir) (omega arith) in
        let lj : length (drop j (olds_of n dir)) ≡ n - j = rw (length-drop j (olds_of n dir), l) in
        old_count (source_words ws) (take k (olds_of n dir)) (read_then fs (before (drop j (olds_of n dir)) done))
        ∙ rw (lk, full_map ws fs (before (drop j (olds_of n dir)) done), full_count fs (map_run (source_words ws) (before (drop j (olds_of n dir)) done)), old_count (source_words ws) (drop j (olds_of n dir)) done, lj, add-zero (n - j)) (sym (add_assoc k (length fs) (n - j)))

    -- what is reported as read
    pub read_left : sum_run (map_run is_fresh (rest_left n dir j fs)) ≡ length fs
    unfolding rest_left
    read_left = fresh_count fs (before (drop j (olds_of n dir)) done) ∙ rw (old_fresh (drop j (olds_of n dir))) (add-zero (length fs))

    -- an accepted re-reading
    pub left_fine : (rest : Run Source) → rest ≡ rest_left n dir j fs
        → leave_again ws dir fine k rest (before (take k (olds_of n dir)) rest)
        ≡ again_left (left (count (k + length fs + (n - j))) (pad (length ws) (words_left ws n dir k j fs)) (pad (length dir) (entries_left n dir k j fs))) k (length fs)
    unfolding leave_again leave
    left_fine rest e = rw (e, words_left_lem, entries_left_lem, count_left, read_left)

-- a refused one
pub left_refused : (ws dir : List ℕ) (q p k : ℕ) (r all : Run Source) → leave_again ws dir (refused q p) k r all ≡ again_left (left (refused_at q p) ws dir) 0 0
unfolding leave_again
left_refused ws dir q p k r all = refl

-- ---- what a full reading leaves
pub full_fine : (W D : ℕ) (fs : List Taken) (r : Run (List ℕ)) → r ≡ full_then fs done → leave W D fine r ≡ left (count (length fs)) (pad W (read_words fs)) (pad D (read_entries 0 0 fs))
unfolding leave all_words entries count_run
full_fine W D fs r e = rw (e, full_count fs done, full_words fs done, full_entries 0 0 fs done, append-nil (read_words fs), append-nil (read_entries 0 0 fs), add-zero (length fs))

pub full_refused : (W D q p : ℕ) (r : Run (List ℕ)) → leave W D (refused q p) r ≡ left (refused_at q p) (pad W []) (pad D [])
unfolding leave
full_refused W D q p r = refl
