-- Questions 20 and 21 of one piece.
-- `judge` asks of each piece the tests of `room_of`, in that order.
-- Assumes nothing.
use mathlib.Core.Path.{◌≡◌, refl, sym, ◌∙◌}
use mathlib.Core.Bool.{Bool, true, false, ◌&&◌}
use mathlib.Core.List.{List, [], ◌∷◌}
use Prim.Native.Nat.{ℕ, suc, ◌+◌, ◌*◌, ◌≤◌, ◌<◌}
use native.Mathlib.Numerals.{add-one}
use native.Mathlib.Omega.{arith}
use lib.Dec.{leb, ltb}
use lib.ListN.{length, drop, get_or, drop_of_length-le}
use borrow.Author.Tests.{le-leb, lt-leb, lt-ltb, le-ltb, leb-true, ltb-true}
use Rattle.records.specs.Questions.{q_words, q_entries}
use Rattle.records.specs.Limits.{half_limit, entry_words}
use Rattle.records.specs.Words.{lo}
use Rattle.records.specs.Pieces.{Run, done, item, map_run, size, before, Old, old, old_sizes, old_words, judge, fine, refused, Verdict}
use Rattle.piece_room.specs.Rooms.{room_of, after_room}
use Rattle.piece_directory.specs.Olds.{olds_of, RoomFor}
use Rattle.std.specs.Prelude.{Result, Ok, Err}
use Rattle.piece_directory.proofs.Links.{size_at, first_at, count_at, counter_at, olds_next, olds_length}

module _ (words dir i at n : ℕ) where
  pub no_words : words < at + n → room_of words dir i at n ≡ Err q_words
  unfolding room_of
  no_words h = rw (room_of, lt-leb _ _ h)

  pub no_number : at + n ≤ words → half_limit ≤ at + n → room_of words dir i at n ≡ Err q_words
  unfolding room_of
  no_number h k = rw (room_of, le-leb _ _ h, le-ltb _ _ k)

  module _ (h : at + n ≤ words) (k : at + n < half_limit) where
    pub no_entry : dir < i * entry_words + entry_words → room_of words dir i at n ≡ Err q_entries
    unfolding room_of
    no_entry l = rw (room_of, le-leb _ _ h, lt-ltb _ _ k, lt-leb _ _ l)

    pub fits : i * entry_words + entry_words ≤ dir → room_of words dir i at n ≡ Ok tt
    unfolding room_of
    fits l = rw (room_of, le-leb _ _ h, lt-ltb _ _ k, le-leb _ _ l)

  -- one step of `judge`, as `room_for` answers it
  pub judge_item : (pos e c : ℕ) (r : Run ℕ) → judge words dir i pos at (item e c n r) ≡ after_room (room_of words dir i at n) (pos + e) (judge words dir (suc i) (pos + e) (at + n) r)
  unfolding judge room_of after_room
  judge_item pos e c r = go (leb (at + n) words && ltb (at + n) half_limit) refl
    where
      go : (b : Bool) → (leb (at + n) words && ltb (at + n) half_limit) ≡ b → judge words dir i pos at (item e c n r) ≡ after_room (room_of words dir i at n) (pos + e) (judge words dir (suc i) (pos + e) (at + n) r)
      go false t = rw (judge, room_of, t)
      go true t = go2 (leb (i * entry_words + entry_words) dir) refl
        where
          go2 : (b : Bool) → leb (i * entry_words + entry_words) dir ≡ b → judge words dir i pos at (item e c n r) ≡ after_room (room_of words dir i at n) (pos + e) (judge words dir (suc i) (pos + e) (at + n) r)
          go2 false u = rw (judge, room_of, t, u)
          go2 true u = rw (judge, room_of, t, u)

-- what a yes says
pub record Fitting (words dir i at n : ℕ) : Type 0 where
  pub in_words : at + n ≤ words
  pub small : at + n < half_limit
  pub entry : i * entry_words + entry_words ≤ dir

pub fitting : (words dir i at n : ℕ) → room_of words dir i at n ≡ Ok tt → Fitting words dir i at n
unfolding room_of
fitting words dir i at n h = go (leb (at + n) words) refl
  where
    go : (a : Bool) → leb (at + n) words ≡ a → Fitting words dir i at n
    go false p = let w : ◌≡◌ {A = Result (Unit {0}) ℕ} (Err q_words) (Ok tt) = rw (room_of, p) at h in let z : ◌≡◌ {A = ℕ} 0 1 = cc in absurd (omega arith)
    go true p = go2 (ltb (at + n) half_limit) refl
      where
        go2 : (b : Bool) → ltb (at + n) half_limit ≡ b → Fitting words dir i at n
        go2 false q = let w : ◌≡◌ {A = Result (Unit {0}) ℕ} (Err q_words) (Ok tt) = rw (room_of, p, q) at h in let z : ◌≡◌ {A = ℕ} 0 1 = cc in absurd (omega arith)
        go2 true q = go3 (leb (i * entry_words + entry_words) dir) refl
          where
            go3 : (c : Bool) → leb (i * entry_words + entry_words) dir ≡ c → Fitting words dir i at n
            go3 false r = let w : ◌≡◌ {A = Result (Unit {0}) ℕ} (Err q_entries) (Ok tt) = rw (room_of, p, q, r) at h in let z : ◌≡◌ {A = ℕ} 0 1 = cc in absurd (omega arith)
            go3 true r = record { in_words = leb-true (at + n) words p; small = ltb-true (at + n) half_limit q; entry = leb-true (i * entry_words + entry_words) dir r }

-- ---- old pieces, one by one
abbrev pub sizes_of : List Old → Run ℕ
sizes_of os = map_run size (before os done)

judge_old : (W D i pos at e f n c : ℕ) (os : List Old) → judge W D i pos at (sizes_of (old e f n c ∷ os)) ≡ after_room (room_of W D i at n) (pos + e) (judge W D (suc i) (pos + e) (at + n) (sizes_of os))
unfolding map_run size before
judge_old W D i pos at e f n c os = judge_item W D i at n pos e c (sizes_of os)

judge_none : (W D i pos at : ℕ) → judge W D i pos at (sizes_of []) ≡ fine
unfolding map_run before judge
judge_none W D i pos at = refl

-- v is what is still to be judged, from old piece k on
pub record Judging (W D n : ℕ) (dir : List ℕ) (v : Verdict) (k i pos at : ℕ) : Type 0 where
  pub small : pos + old_sizes (drop k (olds_of n dir)) < half_limit
  pub same : v ≡ judge W D i pos at (sizes_of (drop k (olds_of n dir)))

module _ (W D n : ℕ) (dir : List ℕ) (v : Verdict) (inside : n * entry_words ≤ length dir) where
  pub judging_end : (k i pos at : ℕ) → n ≤ k → Judging W D n dir v k i pos at → fine ≡ v
  judging_end k i pos at h g = sym (g.same ∙ rw (drop_of_length-le (olds_of n dir) {i = k} (omega (arith, olds_length n dir inside))) (judge_none W D i pos at))

  module _ (k i pos at : ℕ) (g : Judging W D n dir v k i pos at) (h : k < n) where
    piece : drop k (olds_of n dir) ≡ old (size_at dir k) (first_at dir k) (count_at dir k) (counter_at dir k) ∷ drop (suc k) (olds_of n dir)
    piece = olds_next n k dir inside h

    turn : v ≡ after_room (room_of W D i at (count_at dir k)) (pos + size_at dir k) (judge W D (suc i) (pos + size_at dir k) (at + count_at dir k) (sizes_of (drop (suc k) (olds_of n dir))))
    turn = g.same ∙ rw piece (judge_old W D i pos at (size_at dir k) (first_at dir k) (count_at dir k) (counter_at dir k) (drop (suc k) (olds_of n dir)))

    rest_size : old_sizes (drop k (olds_of n dir)) ≡ size_at dir k + old_sizes (drop (suc k) (olds_of n dir))
    unfolding old_sizes
    rest_size = rw piece

    pub place_small : pos + lo (get_or dir (k * entry_words) 0) < half_limit
    place_small = omega (arith, g.small, rest_size)

    pub judging_refused : (q p : ℕ) → ((w : Verdict) → after_room (room_of W D i at (count_at dir k)) (pos + size_at dir k) w ≡ refused q p) → refused q p ≡ v
    judging_refused q p r = sym (turn ∙ r (judge W D (suc i) (pos + size_at dir k) (at + count_at dir k) (sizes_of (drop (suc k) (olds_of n dir)))))

    pub judging_next : room_of W D i at (lo (get_or dir (k * entry_words + 1) 0)) ≡ Ok tt → Judging W D n dir v (k + 1) (i + 1) (pos + lo (get_or dir (k * entry_words) 0)) (at + lo (get_or dir (k * entry_words + 1) 0))
    unfolding after_room
    judging_next r =
        rw (add-one k, add-one i)
        (record { small = omega (arith, g.small, rest_size); same = turn ∙ rw r })

-- ---- where all is fine, the old pieces have room
after_fine : (r : Result (Unit {0}) ℕ) (p : ℕ) (v : Verdict) → after_room r p v ≡ fine → (r ≡ Ok tt) × (v ≡ fine)
unfolding after_room
after_fine (Ok tt) p v h = (refl, h)
after_fine (Err q) p v h = let z : ◌≡◌ {A = ℕ} 0 1 = cc in absurd (omega arith)

rest_small : (W D i at n : ℕ) (os : List Old) → Fitting W D i at n → RoomFor W D (suc i) (at + n) os → at + (n + old_words os) < half_limit
unfolding old_words
rest_small W D i at n [] g r = omega (arith, g.small)
rest_small W D i at n (old e f m d ∷ os) g r = omega (arith, r.small (omega arith))

pub kept_room : (W D i pos at : ℕ) (os : List Old) → at ≤ W → i * entry_words ≤ D → judge W D i pos at (sizes_of os) ≡ fine → RoomFor W D i at os
unfolding old_words
kept_room W D i pos at [] a c h = record { in_words = omega arith; small = λ z. absurd (omega arith); entries = omega arith }
kept_room W D i pos at (old e f n d ∷ os) a c h =
    let t : (room_of W D i at n ≡ Ok tt) × (judge W D (suc i) (pos + e) (at + n) (sizes_of os) ≡ fine) =
    after_fine (room_of W D i at n) (pos + e) (judge W D (suc i) (pos + e) (at + n) (sizes_of os)) (sym (judge_old W D i pos at e f n d os) ∙ h) in
    let g : Fitting W D i at n = fitting W D i at n t.0 in
    let r : RoomFor W D (suc i) (at + n) os = kept_room W D (suc i) (pos + e) (at + n) os g.in_words (omega (arith, g.entry)) t.1 in
    record { in_words = omega (arith, r.in_words); small = λ z. rest_small W D i at n os g r; entries = omega (arith, r.entries) }

-- a refusal by 20 or 21
pub decide : (room : Result (Unit {0}) ℕ) (place q p : ℕ) (v : Verdict) → ((w : Verdict) → after_room room place w ≡ refused q p) → ((n : ℕ) → room ≡ Err n → v ≡ refused n place) → v ≡ refused q p
unfolding after_room
decide (Ok tt) place q p v h a = let e : fine ≡ refused q p = h fine in let z : ◌≡◌ {A = ℕ} 0 1 = cc in absurd (omega arith)
decide (Err n) place q p v h a = a n refl ∙ h fine
