-- The arrays, as the stores of a reading or re-reading in place leave them, and `clear` behind.
-- Both sides are cut at the same seams, and agree in each part.
-- Assumes nothing.
use mathlib.Core.Path.{◌≡◌, refl, sym, ap, ◌∙◌}
use mathlib.Core.Bool.{false}
use mathlib.Core.Option.{Option, none, some}
use mathlib.Core.List.{List, [], ◌∷◌, ◌++◌, append_assoc}
use Prim.Native.Nat.{ℕ, ◌+◌, ◌-◌, ◌*◌, ◌≤◌}
use native.Mathlib.Nat.{add-zero}
use native.Mathlib.Omega.{arith}
use lib.ListN.{length, take, drop, set, replicate, length-append, length-drop, length-set, take-append-drop}
use lib.Seq.{take-add, take_at, drop_at, drop-drop, length-take-le, take-append-le, take-take, paste, paste-zero}
use Rattle.records.specs.Limits.{entry_words}
use Rattle.records.specs.Pieces.{HeadRead, BlockRead, Run, done, Source, before, Old, Verdict, fine, refused, text_asked, judge, map_run, and_then, pad, old_sizes, old_words, olds, count, refused_at, left, leave, again_left, leave_again, reading, full, full_verdict, keeps, rest, judge_again, reread_of, reread}
use Rattle.piece_directory.specs.Olds.{answers, olds_of, moved, Chained, RoomFor, KeptBehind}
use Rattle.reread_kept.specs.Place.{Taken, full_then, read_size, read_words, read_entries, rest_left, words_left, entries_left, Settled}
use Rattle.piece_directory.proofs.Links.{olds_length, words_split, no_more, not_chained}
use Rattle.piece_directory.proofs.Moved.{moved_length, entry_put}
use Rattle.reread_kept.proofs.Place.{full_fine, left_fine, left_refused}

-- ---- `clear`
-- behind what has been written
pub cleared_behind : (l xs : List ℕ) (m n : ℕ) → length l ≡ n → length xs ≡ m → take m l ≡ xs → take m l ++ replicate (length l - m) 0 ≡ pad n xs
unfolding pad
cleared_behind l xs m n e h t = rw (t, e, ← h)

-- ---- `put_entry`, one entry behind the other: of `cur` the first i entries are those of `front`, and all behind is still as in `old`
pub record Put (front old : List ℕ) (i : ℕ) (cur : List ℕ) : Type 0 where
  pub list : cur ≡ front ++ drop (i * entry_words) old
  pub many : length front ≡ i * entry_words
  pub long : length cur ≡ length old

pub put_first : (old : List ℕ) (k : ℕ) → k * entry_words ≤ length old → Put (take (k * entry_words) old) old k old
put_first old k h = record { list = sym (take-append-drop (k * entry_words) old); many = length-take-le (k * entry_words) old h; long = refl }

pub put_next : (front old : List ℕ) (i x y z : ℕ) (cur next : List ℕ) → Put front old i cur → i * entry_words + entry_words ≤ length cur → next ≡ set (set (set cur (i * entry_words) x) (i * entry_words + 1) y) (i * entry_words + 2) z
    → Put (front ++ (x ∷ y ∷ z ∷ [])) old (i + 1) next
put_next front old i x y z cur next g h e =
    let q : (i + 1) * entry_words ≡ i * entry_words + entry_words = omega arith in
    let t : take (i * entry_words) cur ≡ front = ap (take (i * entry_words)) g.list ∙ take_at front (drop (i * entry_words) old) (i * entry_words) g.many in
    let d : drop (i * entry_words + entry_words) cur ≡ drop (i * entry_words + entry_words) old = sym (drop-drop entry_words (i * entry_words) cur) ∙ ap (drop entry_words) (ap (drop (i * entry_words)) g.list ∙ drop_at front (drop (i * entry_words) old) (i * entry_words) g.many) ∙ drop-drop entry_words (i * entry_words) old in
    record {
      list = e ∙ entry_put cur (i * entry_words) x y z h ∙ rw (t, d, q) (sym (append_assoc front (x ∷ y ∷ z ∷ []) (drop (i * entry_words + entry_words) old)));
      many = omega (arith, length-append front (x ∷ y ∷ z ∷ []), g.many);
      long = ap length e ∙ length-set (set (set cur (i * entry_words) x) (i * entry_words + 1) y) (i * entry_words + 2) z ∙ length-set (set cur (i * entry_words) x) (i * entry_words + 1) y ∙ length-set cur (i * entry_words) x ∙ g.long;
    }

pub put_taken : (front old : List ℕ) (i : ℕ) (cur : List ℕ) → Put front old i cur → take (i * entry_words) cur ≡ front
put_taken front old i cur g = ap (take (i * entry_words)) g.list ∙ take_at front (drop (i * entry_words) old) (i * entry_words) g.many

-- ---- the words of a re-reading: a words stay, `new` is read behind them, m words from f on have moved behind these
module _ (ws new w2 : List ℕ) (a f m : ℕ) (ha : a ≤ length ws) (hm : a + length new + m ≤ length ws) (hf : f + m ≤ length ws) where
  stretch_long : m ≤ length (drop f ws)
  stretch_long = omega (arith, length-drop f ws)

  moved_behind : drop (a + length new) (paste ws (a + length new) (drop f ws) m) ≡ take m (drop f ws) ++ drop (a + length new + m) ws
  moved_behind =
      ap (drop (a + length new)) (append_assoc (take (a + length new) ws) (take m (drop f ws)) (drop (a + length new + m) ws))
      ∙ drop_at (take (a + length new) ws) (take m (drop f ws) ++ drop (a + length new + m) ws) (a + length new) (length-take-le (a + length new) ws (omega arith))

  -- w2: after the move, with `new` stored at a
  pub words_final : take (a + length new) w2 ≡ take a ws ++ new → drop (a + length new) w2 ≡ drop (a + length new) (paste ws (a + length new) (drop f ws) m)
      → take (a + length new + m) w2 ≡ take a ws ++ (new ++ take m (drop f ws))
  words_final e d =
      take-add (a + length new) m w2
      ∙ rw (e, d, moved_behind, take_at (take m (drop f ws)) (drop (a + length new + m) ws) m (length-take-le m (drop f ws) stretch_long)) (append_assoc (take a ws) new (take m (drop f ws)))

-- nothing is kept behind
pub kept_none : (ws dir : List ℕ) (n t pos at : ℕ) → n * entry_words ≤ length dir → KeptBehind ws dir n n t pos at at ws dir
unfolding old_words moved
kept_none ws dir n t pos at h =
    let z : n - n ≡ 0 = omega arith in
    record {
      end = rw (no_more n dir h) (sym (add-zero at));
      words = rw (no_more n dir h) (paste-zero ws at (drop (old_words (take n (olds_of n dir))) ws));
      entries = rw (z, add-zero t) (sym (take-append-drop (t * entry_words) dir));
    }

-- ---- the directory of a re-reading
-- d1: the old entries from number j on have moved to number i; `cur`: then the entries in front of them were put
pub entries_final : (d front mv d1 cur : List ℕ) (i m : ℕ) → (i + m) * entry_words ≤ length d → length mv ≡ m * entry_words → d1 ≡ take (i * entry_words) d ++ (mv ++ drop ((i + m) * entry_words) d) → Put front d1 i cur
    → take ((i + m) * entry_words) cur ≡ front ++ mv
entries_final d front mv d1 cur i m h lm e g =
    let lt : length (take (i * entry_words) d) ≡ i * entry_words = length-take-le (i * entry_words) d (omega arith) in
    let b : drop (i * entry_words) d1 ≡ mv ++ drop ((i + m) * entry_words) d = ap (drop (i * entry_words)) e ∙ drop_at (take (i * entry_words) d) (mv ++ drop ((i + m) * entry_words) d) (i * entry_words) lt in
    let s : cur ≡ (front ++ mv) ++ drop ((i + m) * entry_words) d = g.list ∙ ap {B = List ℕ} (λ t. front ++ t) b ∙ sym (append_assoc front mv (drop ((i + m) * entry_words) d)) in
    let l : length (front ++ mv) ≡ (i + m) * entry_words = omega (arith, length-append front mv, g.many) in
    ap (take ((i + m) * entry_words)) s ∙ take_at (front ++ mv) (drop ((i + m) * entry_words) d) ((i + m) * entry_words) l

-- ---- a full reading: the pieces of fs were read, their entries put and their words stored, and all behind was cleared
pub full_left : (W D : ℕ) (fs : List Taken) (r : Run (List ℕ)) (w w2 d0 d d2 : List ℕ) → r ≡ full_then fs done
    → length w ≡ W → take (length (read_words fs)) w ≡ read_words fs → w2 ≡ take (length (read_words fs)) w ++ replicate (length w - length (read_words fs)) 0
    → length d0 ≡ D → Put (read_entries 0 0 fs) d0 (length fs) d → d2 ≡ take (length fs * entry_words) d ++ replicate (length d - length fs * entry_words) 0
    → leave W D fine r ≡ left (count (length fs)) w2 d2
full_left W D fs r w w2 d0 d d2 e lw tw ew ld g ed =
    let td : take (length fs * entry_words) d ≡ read_entries 0 0 fs = ap (take (length fs * entry_words)) g.list ∙ take_at (read_entries 0 0 fs) (drop (length fs * entry_words) d0) (length fs * entry_words) g.many in
    let pw : w2 ≡ pad W (read_words fs) = ew ∙ cleared_behind w (read_words fs) (length (read_words fs)) W lw refl tw in
    let pd : d2 ≡ pad D (read_entries 0 0 fs) = ed ∙ cleared_behind d (read_entries 0 0 fs) (length fs * entry_words) D (g.long ∙ ld) g.many td in
    full_fine W D fs r e ∙ rw (pw, pd)

-- ---- a re-reading: k old pieces were kept in front, those of fs were read, the old ones from number j on were kept behind
module _ (T : ℕ) (ws : List ℕ) (n : ℕ) (dir : List ℕ) (c : Chained T (length ws) n dir) (k j : ℕ) (hk : k ≤ n) (hj : j ≤ n) (fs : List Taken) where
  -- where the front ends, and where what was read ends
  abbrev pub pos_of : ℕ
  pos_of = old_sizes (take k (olds_of n dir))

  abbrev pub at_of : ℕ
  at_of = old_words (take k (olds_of n dir))

  module _ (r : ℕ) (w1 d1 : List ℕ) (b : KeptBehind ws dir n j (k + length fs) (pos_of + read_size fs) (at_of + length (read_words fs)) r w1 d1)
      (room : RoomFor (length ws) (length dir) (k + length fs) (at_of + length (read_words fs)) (drop j (olds_of n dir))) where
    count_behind : length (drop j (olds_of n dir)) ≡ n - j
    count_behind = length-drop j (olds_of n dir) ∙ ap (λ (x : ℕ). x - j) (olds_length n dir c.joined.inside)

    mv : List ℕ
    mv = moved (n - j) (pos_of + read_size fs) (at_of + length (read_words fs)) (drop (j * entry_words) dir)

    many_moved : length mv ≡ (n - j) * entry_words
    unfolding mv
    many_moved = moved_length (n - j) (pos_of + read_size fs) (at_of + length (read_words fs)) (drop (j * entry_words) dir) (omega (arith, c.joined.inside, length-drop (j * entry_words) dir))

    in_dir : (k + length fs + (n - j)) * entry_words ≤ length dir
    in_dir = omega (arith, room.entries, count_behind)

    lt : length (take ((k + length fs) * entry_words) dir) ≡ (k + length fs) * entry_words
    lt = length-take-le ((k + length fs) * entry_words) dir (omega (arith, in_dir))

    ld : length d1 ≡ length dir
    unfolding mv
    ld =
        ap length b.entries
        ∙ omega (arith, lt, many_moved, in_dir, length-append (take ((k + length fs) * entry_words) dir) (mv ++ drop ((k + length fs + (n - j)) * entry_words) dir), length-append mv (drop ((k + length fs + (n - j)) * entry_words) dir), length-drop ((k + length fs + (n - j)) * entry_words) dir)

    -- the front of the directory is as it was: the entries read are put behind it
    pub put_behind : Put (take (k * entry_words) dir) d1 k d1
    unfolding mv
    put_behind =
        let t : take (k * entry_words) d1 ≡ take (k * entry_words) dir =
        ap (take (k * entry_words)) b.entries
        ∙ take-append-le (k * entry_words) (take ((k + length fs) * entry_words) dir) (mv ++ drop ((k + length fs + (n - j)) * entry_words) dir) (omega (arith, lt))
        ∙ take-take (k * entry_words) ((k + length fs) * entry_words) dir (omega arith) in
        rw (← t) (put_first d1 k (omega (arith, ld, in_dir)))

    -- and so is the front of the words
    pub words_behind : take at_of w1 ≡ take at_of ws
    words_behind =
        let a : ℕ = at_of + length (read_words fs) in
        let m : ℕ = old_words (drop j (olds_of n dir)) in
        let S : List ℕ = drop (old_words (take j (olds_of n dir))) ws in
        let la : length (take a ws) ≡ a = length-take-le a ws (omega (arith, room.in_words)) in
        ap (take at_of) (b.words ∙ append_assoc (take a ws) (take m S) (drop (a + m) ws))
        ∙ take-append-le at_of (take a ws) (take m S ++ drop (a + m) ws) (omega arith)
        ∙ take-take at_of a ws (omega arith)

    -- Then: with the words read in their place, and their entries put, and all behind cleared, the arrays are what 01 says.
    pub reread_left : (rest : Run Source) → rest ≡ rest_left n dir j fs
        → (w2 w3 : List ℕ) → length w2 ≡ length ws → take (at_of + length (read_words fs)) w2 ≡ take at_of ws ++ read_words fs → drop (at_of + length (read_words fs)) w2 ≡ drop (at_of + length (read_words fs)) w1
        → w3 ≡ take r w2 ++ replicate (length w2 - r) 0
        → (d2 d3 : List ℕ) → Put (take (k * entry_words) dir ++ read_entries pos_of at_of fs) d1 (k + length fs) d2
        → d3 ≡ take ((k + length fs + (n - j)) * entry_words) d2 ++ replicate (length d2 - (k + length fs + (n - j)) * entry_words) 0
        → leave_again ws dir fine k rest (before (take k (olds_of n dir)) rest) ≡ again_left (left (count (k + length fs + (n - j))) w3 d3) k (length fs)
    unfolding mv words_left entries_left
    reread_left rest e w2 w3 lw tw dw ew d2 d3 g ed =
        let m : ℕ = old_words (drop j (olds_of n dir)) in
        let f : ℕ = old_words (take j (olds_of n dir)) in
        let a : ℕ = at_of + length (read_words fs) in
        let hf : f + m ≤ length ws = omega (arith, words_split j (olds_of n dir), c.in_words) in
        let ha : at_of ≤ length ws = omega (arith, room.in_words) in
        let fin : take (a + m) w2 ≡ words_left ws n dir k j fs = words_final ws (read_words fs) w2 at_of f m ha room.in_words hf tw (dw ∙ ap (drop a) b.words) in
        let ll : length (take (a + m) w2) ≡ a + m = length-take-le (a + m) w2 (omega (arith, room.in_words)) in
        let pw : w3 ≡ pad (length ws) (words_left ws n dir k j fs) =
        ew ∙ rw b.end (cleared_behind w2 (words_left ws n dir k j fs) (a + m) (length ws) lw (ap length (sym fin) ∙ ll) fin) in
        let fe : take ((k + length fs + (n - j)) * entry_words) d2 ≡ (take (k * entry_words) dir ++ read_entries pos_of at_of fs) ++ mv =
        entries_final dir (take (k * entry_words) dir ++ read_entries pos_of at_of fs) mv d1 d2 (k + length fs) (n - j) in_dir many_moved b.entries g in
        let fe2 : take ((k + length fs + (n - j)) * entry_words) d2 ≡ entries_left n dir k j fs = fe ∙ append_assoc (take (k * entry_words) dir) (read_entries pos_of at_of fs) mv in
        let le : length (take ((k + length fs + (n - j)) * entry_words) d2) ≡ (k + length fs + (n - j)) * entry_words = length-take-le ((k + length fs + (n - j)) * entry_words) d2 (omega (arith, g.long, ld, in_dir)) in
        let pd : d3 ≡ pad (length dir) (entries_left n dir k j fs) =
        ed ∙ cleared_behind d2 (entries_left n dir k j fs) ((k + length fs + (n - j)) * entry_words) (length dir) (g.long ∙ ld) (ap length (sym fe2) ∙ le) fe2 in
        left_fine T ws n dir c k j hk hj fs rest e ∙ rw (pw, pd)

-- ---- the same in the numbers that the code has: the first pass ended as `Settled`, `keep_behind` was called
module _ (T len : ℕ) (ws : List ℕ) (n : ℕ) (dir : List ℕ) (c : Chained T (length ws) n dir) (v : Verdict) (rest : Run Source) (k k₁ k₂ i pos at j : ℕ) (hk : k ≤ n)
    (q₁ : k₁ ≡ old_sizes (take k (olds_of n dir))) (q₂ : k₂ ≡ old_words (take k (olds_of n dir))) (g : Settled (length ws) (length dir) len v rest n dir k k₁ k₂ i pos at j)
    (r : ℕ) (w1 d1 : List ℕ) (b : KeptBehind ws dir n j i pos at r w1 d1) where
  pos_is : pos ≡ old_sizes (take k (olds_of n dir)) + read_size g.fs
  pos_is = g.place ∙ ap (λ (x : ℕ). x + read_size g.fs) q₁

  at_is : at ≡ old_words (take k (olds_of n dir)) + length (read_words g.fs)
  at_is = g.first ∙ ap (λ (x : ℕ). x + length (read_words g.fs)) q₂

  b2 : KeptBehind ws dir n j (k + length g.fs) (old_sizes (take k (olds_of n dir)) + read_size g.fs) (old_words (take k (olds_of n dir)) + length (read_words g.fs)) r w1 d1
  b2 = rw (← g.number, ← pos_is, ← at_is) b

  room2 : RoomFor (length ws) (length dir) (k + length g.fs) (old_words (take k (olds_of n dir)) + length (read_words g.fs)) (drop j (olds_of n dir))
  room2 = rw (← g.number, ← at_is) g.room

  -- before the second pass: the fronts are as they were
  pub settled_entries : Put (take (k * entry_words) dir) d1 k d1
  settled_entries = put_behind T ws n dir c k j hk g.behind g.fs r w1 d1 b2 room2

  pub settled_words : take k₂ w1 ≡ take k₂ ws
  settled_words = rw q₂ (words_behind T ws n dir c k j hk g.behind g.fs r w1 d1 b2 room2)

  -- behind it, and behind two calls of `clear`
  pub settled_left : (w2 w3 : List ℕ) → length w2 ≡ length ws → take at w2 ≡ take k₂ ws ++ read_words g.fs → drop at w2 ≡ drop at w1 → w3 ≡ take r w2 ++ replicate (length w2 - r) 0
      → (d2 d3 : List ℕ) → Put (take (k * entry_words) dir ++ read_entries k₁ k₂ g.fs) d1 i d2 → d3 ≡ take ((i + (n - j)) * entry_words) d2 ++ replicate (length d2 - (i + (n - j)) * entry_words) 0
      → leave_again ws dir v k rest (before (take k (olds_of n dir)) rest) ≡ again_left (left (count (i + (n - j))) w3 d3) k (i - k)
  settled_left w2 w3 lw tw dw ew d2 d3 p ed =
      let z : i - k ≡ length g.fs = omega (arith, g.number) in
      rw (g.is, z)
      (reread_left T ws n dir c k j hk g.behind g.fs r w1 d1 b2 room2 rest g.run w2 w3 lw
      (rw (← at_is) (rw q₂ at tw)) (rw (← at_is) dw) ew d2 d3
      (rw (← g.number, ← q₁, ← q₂) p)
      (rw (← g.number) ed)
      ∙ rw (← g.number))

-- ---- the calls from outside
reread_frame : (head_at : List ℕ → HeadRead) (block_at : ℕ → List ℕ → BlockRead) (ws dir older newer : List ℕ) (q p : ℕ) → text_asked newer ≡ refused q p → (o : Option (List Old))
    → reread_of head_at block_at ws dir older newer o ≡ again_left (left (refused_at q p) ws dir) 0 0
unfolding reread_of and_then
reread_frame head_at block_at ws dir older newer q p h none = rw h (left_refused ws dir q p 0 done done)
reread_frame head_at block_at ws dir older newer q p h (some os) =
    rw h (left_refused ws dir q p (keeps head_at block_at older newer os) (rest head_at block_at older newer os) (before (take (keeps head_at block_at older newer os) os) (rest head_at block_at older newer os)))

module _ (head_at : List ℕ → HeadRead) (block_at : ℕ → List ℕ → BlockRead) where
  -- a full reading
  pub full_text : (W D : ℕ) (text : List ℕ) (q p : ℕ) → text_asked text ≡ refused q p → full head_at block_at W D text ≡ left (refused_at q p) (pad W []) (pad D [])
  unfolding full full_verdict and_then leave
  full_text W D text q p h = rw h

  pub full_is : (W D : ℕ) (text : List ℕ) → text_asked text ≡ fine → full head_at block_at W D text ≡ leave W D (judge W D 0 0 0 (map_run length (reading head_at block_at text))) (reading head_at block_at text)
  unfolding full full_verdict and_then
  full_is W D text h = rw h

  -- a re-reading: questions 1 and 2, then 22
  pub reread_text : (ws dir : List ℕ) (n : ℕ) (older newer : List ℕ) (q p : ℕ) → text_asked newer ≡ refused q p
      → reread head_at block_at ws dir n older newer ≡ again_left (left (refused_at q p) ws dir) 0 0
  unfolding reread
  reread_text ws dir n older newer q p h = reread_frame head_at block_at ws dir older newer q p h (olds (length older) (length ws) n dir)

  pub reread_unchained : (ws dir : List ℕ) (n : ℕ) (older newer : List ℕ) → text_asked newer ≡ fine → answers (olds (length older) (length ws) n dir) ≡ false
      → reread head_at block_at ws dir n older newer ≡ again_left (left (refused_at 22 0) ws dir) 0 0
  unfolding reread reread_of and_then
  reread_unchained ws dir n older newer h a = rw (not_chained (olds (length older) (length ws) n dir) a, h) (left_refused ws dir 22 0 0 done done)

  -- then all that is left is the verdict on the pieces
  module _ (ws dir : List ℕ) (n : ℕ) (older newer : List ℕ) (h : text_asked newer ≡ fine) (c : Chained (length older) (length ws) n dir) where
    pub reread_is : reread head_at block_at ws dir n older newer
        ≡ leave_again ws dir (judge_again head_at block_at (length ws) (length dir) older newer (olds_of n dir)) (keeps head_at block_at older newer (olds_of n dir)) (rest head_at block_at older newer (olds_of n dir))
        (before (take (keeps head_at block_at older newer (olds_of n dir)) (olds_of n dir)) (rest head_at block_at older newer (olds_of n dir)))
    unfolding reread reread_of and_then
    reread_is = rw (c.is, h)

    pub reread_refused : (q p : ℕ) → judge_again head_at block_at (length ws) (length dir) older newer (olds_of n dir) ≡ refused q p
        → reread head_at block_at ws dir n older newer ≡ again_left (left (refused_at q p) ws dir) 0 0
    reread_refused q p v = reread_is ∙ rw v (left_refused ws dir q p (keeps head_at block_at older newer (olds_of n dir)) (rest head_at block_at older newer (olds_of n dir)) (before (take (keeps head_at block_at older newer (olds_of n dir)) (olds_of n dir)) (rest head_at block_at older newer (olds_of n dir))))
