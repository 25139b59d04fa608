-- A re-reading, piece by piece, over any reader of one piece: what the definitions say at the head, at a block, at the tail and at a refusal,
-- and how far the code has come.
-- Each law unfolds the definition once, at what the reader of a piece gave.
-- Assumes nothing.
use mathlib.Core.Path.{◌≡◌, refl, sym, ap, ◌∙◌}
use mathlib.Core.Bool.{true, false}
use mathlib.Core.Option.{none, some}
use mathlib.Core.List.{List, [], ◌∷◌, ◌++◌}
use Prim.Native.Nat.{ℕ, zero, suc, ◌+◌, ◌-◌, ◌*◌, ◌≤◌, ◌<◌}
use native.Mathlib.Nat.{add-zero}
use native.Mathlib.Numerals.{add-one}
use native.Mathlib.Omega.{arith}
use lib.Dec.{ltb}
use lib.ListN.{length, take, drop, length-append, length-drop, drop_of_length-le}
use borrow.Author.Tests.{lt-ltb, le-ltb}
use Rattle.records.specs.Limits.{entry_words}
use Rattle.records.specs.Pieces.{HeadRead, head, bad_head, BlockRead, block, tail, bad_block, Run, done, stop, item, map_run, Source, fresh, size, before, Old, old_sizes, old_words, first_counter, Verdict, refused, judge, joins, again_in, again, behind_front}
use Rattle.theorem_edits.specs.Law.{Grammar}
use Rattle.piece_room.specs.Rooms.{room_of, after_room}
use Rattle.piece_directory.specs.Olds.{olds_of, Chained}
use Rattle.reread_kept.specs.Place.{Taken, read_then, read_size, read_words, rest_left, Settled}
use Rattle.std.specs.Prelude.{Ok, Err}
use Rattle.piece_directory.proofs.Links.{olds_length, words_split, no_more}
use Rattle.piece_room.proofs.Judge.{judge_item}
use Rattle.reread_kept.proofs.Place.{read_snoc, size_snoc, words_snoc}

module _ (head_at : List ℕ → HeadRead) (block_at : ℕ → List ℕ → BlockRead) (G : Grammar head_at block_at) (c olen : ℕ) (os : List Old) where
  -- Fuel past the suffix's length makes no difference.
  fuel : (n m d : ℕ) (s : List ℕ) → length s < n → length s < m → again_in head_at block_at c olen os n d s ≡ again_in head_at block_at c olen os m d s
  unfolding again_in
  fuel zero m d s h k = absurd (omega arith)
  fuel (suc n) zero d s h k = absurd (omega arith)
  fuel (suc n) (suc m) d s h k = go (block_at d s) refl (λ e d2. fuel n m d2 (drop e s))
    where
      go : (b : BlockRead) → block_at d s ≡ b
          → ((e d2 : ℕ) → length (drop e s) < n → length (drop e s) < m → again_in head_at block_at c olen os n d2 (drop e s) ≡ again_in head_at block_at c olen os m d2 (drop e s))
          → again_in head_at block_at c olen os (suc n) d s ≡ again_in head_at block_at c olen os (suc m) d s
      go (block e d2 ws) p ih =
          let a : 1 ≤ e = G.block_moves d s e d2 ws p in
          let b : e ≤ length s = G.block_fits d s e d2 ws p in
          let l : length (drop e s) ≡ length s - e = length-drop e s in
          rw (p, again_in) (ap (item e d (fresh ws)) (ap (λ (r : Run Source). elim (joins c olen os d2 (drop e s)) [ some ps ↦ before ps done | none ↦ r ]) (ih e d2 (omega arith) (omega arith))))
      go (tail e) p ih = rw (p, again_in)
      go (bad_block q x) p ih = rw (p, again_in)

  module _ (d : ℕ) (s : List ℕ) where
    -- a block, with old pieces behind it or none
    again_step : (e d2 : ℕ) (ws : List ℕ) → block_at d s ≡ block e d2 ws
        → again head_at block_at c olen os d s ≡ item e d (fresh ws) (elim (joins c olen os d2 (drop e s)) [ some ps ↦ before ps done | none ↦ again head_at block_at c olen os d2 (drop e s) ])
    unfolding again again_in
    again_step e d2 ws p =
        let a : 1 ≤ e = G.block_moves d s e d2 ws p in
        let b : e ≤ length s = G.block_fits d s e d2 ws p in
        let l : length (drop e s) ≡ length s - e = length-drop e s in
        rw (p, again_in)
        (ap (item e d (fresh ws)) (ap (λ (r : Run Source). elim (joins c olen os d2 (drop e s)) [ some ps ↦ before ps done | none ↦ r ]) (fuel (length s) (suc (length (drop e s))) d2 (drop e s) (omega arith) (omega arith))))

    pub again_joined : (e d2 : ℕ) (ws : List ℕ) (ps : List Old) → block_at d s ≡ block e d2 ws → joins c olen os d2 (drop e s) ≡ some ps → again head_at block_at c olen os d s ≡ item e d (fresh ws) (before ps done)
    again_joined e d2 ws ps p j = again_step e d2 ws p ∙ rw j

    pub again_block : (e d2 : ℕ) (ws : List ℕ) → block_at d s ≡ block e d2 ws → joins c olen os d2 (drop e s) ≡ none → again head_at block_at c olen os d s ≡ item e d (fresh ws) (again head_at block_at c olen os d2 (drop e s))
    again_block e d2 ws p j = again_step e d2 ws p ∙ rw j

    pub again_tail : (e : ℕ) → block_at d s ≡ tail e → again head_at block_at c olen os d s ≡ item e d (fresh []) done
    unfolding again again_in
    again_tail e p = rw (p, again_in)

    pub again_bad : (q x : ℕ) → block_at d s ≡ bad_block q x → again head_at block_at c olen os d s ≡ stop q x
    unfolding again again_in
    again_bad q x p = rw (p, again_in)

  -- what is read first: the head, where nothing is kept in front; else a block, unless all is kept
  module _ (newer : List ℕ) where
    pub behind_joined : (e d : ℕ) (ws : List ℕ) (ps : List Old) → head_at newer ≡ head e d ws → joins c olen os d (drop e newer) ≡ some ps → behind_front head_at block_at c olen os 0 newer ≡ item e 0 (fresh ws) (before ps done)
    unfolding behind_front
    behind_joined e d ws ps p j = rw (p, behind_front, j)

    pub behind_head : (e d : ℕ) (ws : List ℕ) → head_at newer ≡ head e d ws → joins c olen os d (drop e newer) ≡ none
        → behind_front head_at block_at c olen os 0 newer ≡ item e 0 (fresh ws) (again head_at block_at c olen os d (drop e newer))
    unfolding behind_front
    behind_head e d ws p j = rw (p, behind_front, j)

    pub behind_bad : (q x : ℕ) → head_at newer ≡ bad_head q x → behind_front head_at block_at c olen os 0 newer ≡ stop q x
    unfolding behind_front
    behind_bad q x p = rw (p, behind_front)

    pub behind_some : (k : ℕ) → 0 < k → k < length os → behind_front head_at block_at c olen os k newer ≡ again head_at block_at c olen os (first_counter (drop k os)) (drop (old_sizes (take k os)) newer)
    unfolding behind_front
    behind_some zero h l = absurd (omega arith)
    behind_some (suc k) h l = let t : ltb (suc k) (length os) ≡ true = lt-ltb (suc k) (length os) l in rw (behind_front, t)

    pub behind_all : (k : ℕ) → 0 < k → length os ≤ k → behind_front head_at block_at c olen os k newer ≡ done
    unfolding behind_front
    behind_all zero h l = absurd (omega arith)
    behind_all (suc k) h l = let t : ltb (suc k) (length os) ≡ false = le-ltb (suc k) (length os) l in rw (behind_front, t)

-- ---- how far a re-reading has come: behind the front, which ends as piece k at k₁ and k₂, the pieces of fs are read, and r is left
pub record Read (W D : ℕ) (v : Verdict) (rest : Run Source) (k k₁ k₂ : ℕ) (fs : List Taken) (r : Run Source) (i pos at : ℕ) : Type 0 where
  pub run : rest ≡ read_then fs r
  pub verdict : v ≡ judge W D i pos at (map_run size r)
  pub number : i ≡ k + length fs
  pub place : pos ≡ k₁ + read_size fs
  pub first : at ≡ k₂ + length (read_words fs)

module _ {W D : ℕ} {v : Verdict} {rest : Run Source} {k k₁ k₂ : ℕ} {fs : List Taken} {r : Run Source} {i pos at : ℕ} (g : Read W D v rest k k₁ k₂ fs r i pos at) where
  turn : (e d : ℕ) (ws : List ℕ) (r2 : Run Source) → r ≡ item e d (fresh ws) r2 → v ≡ after_room (room_of W D i at (length ws)) (pos + e) (judge W D (suc i) (pos + e) (at + length ws) (map_run size r2))
  unfolding map_run size
  turn e d ws r2 h = g.verdict ∙ rw h (judge_item W D i at (length ws) pos e d (map_run size r2))

  -- a piece that has room
  pub read_more : (e d : ℕ) (ws : List ℕ) (r2 : Run Source) → r ≡ item e d (fresh ws) r2 → room_of W D i at (length ws) ≡ Ok tt
      → Read W D v rest k k₁ k₂ (fs ++ ((e, d, ws) ∷ [])) r2 (i + 1) (pos + e) (at + length ws)
  unfolding after_room
  read_more e d ws r2 h f =
      record {
        run = g.run ∙ ap (read_then fs) h ∙ read_snoc fs e d ws r2;
        verdict = turn e d ws r2 h ∙ rw (f, add-one i);
        number = omega (arith, g.number, length-append fs ((e, d, ws) ∷ []));
        place = omega (arith, g.place, size_snoc fs e d ws);
        first = omega (arith, g.first, ap length (words_snoc fs e d ws), length-append (read_words fs) ws);
      }

  -- one that has not
  pub read_no_room : (e d : ℕ) (ws : List ℕ) (r2 : Run Source) (q : ℕ) → r ≡ item e d (fresh ws) r2 → room_of W D i at (length ws) ≡ Err q → v ≡ refused q (pos + e)
  unfolding after_room
  read_no_room e d ws r2 q h f = turn e d ws r2 h ∙ rw f

  -- a refusal of the reader, at p from the piece's start
  pub read_refused : (q p : ℕ) → r ≡ stop q p → v ≡ refused q (pos + p)
  unfolding map_run judge
  read_refused q p h = g.verdict ∙ rw h

  -- the old pieces from number j on are left
  pub read_kept : (n : ℕ) (dir : List ℕ) (j : ℕ) → r ≡ before (drop j (olds_of n dir)) done → rest ≡ rest_left n dir j fs
  unfolding rest_left
  read_kept n dir j h = g.run ∙ ap (read_then fs) h

  -- nothing is left
  pub read_all : (n : ℕ) (dir : List ℕ) → n * entry_words ≤ length dir → r ≡ done → rest ≡ rest_left n dir n fs
  unfolding rest_left before
  read_all n dir l h = g.run ∙ rw (h, drop_of_length-le (olds_of n dir) {i = n} (omega (arith, olds_length n dir l)))

-- ---- where all is kept in front, nothing is read
pub settled_all : (head_at : List ℕ → HeadRead) (block_at : ℕ → List ℕ → BlockRead) (G : Grammar head_at block_at) (W c T n : ℕ) (dir newer : List ℕ) (v : Verdict) (rest : Run Source) (k₁ k₂ : ℕ) → Chained T W n dir
    → v ≡ judge W (length dir) n k₁ k₂ (map_run size rest) → rest ≡ behind_front head_at block_at c T (olds_of n dir) n newer → k₁ ≤ length newer → k₂ ≡ old_words (take n (olds_of n dir))
    → Settled W (length dir) (length newer) v rest n dir n k₁ k₂ n k₁ k₂ n
unfolding read_then read_size read_words map_run judge old_sizes old_words
settled_all head_at block_at G W c T n dir newer v rest k₁ k₂ c1 e r l q =
    let d : rest ≡ done = r ∙ behind_all head_at block_at G c T (olds_of n dir) newer n (omega (arith, c1.two)) (omega (arith, olds_length n dir c1.joined.inside)) in
    let g : Read W (length dir) v rest n k₁ k₂ [] rest n k₁ k₂ = record { run = refl; verdict = e; number = sym (add-zero n); place = sym (add-zero k₁); first = sym (add-zero k₂) } in
    let w : k₂ ≤ W = omega (arith, q, words_split n (olds_of n dir), c1.in_words) in
    record {
      fs = [];
      is = e ∙ rw d;
      run = read_all g n dir c1.joined.inside d;
      number = g.number;
      place = g.place;
      first = g.first;
      behind = omega arith;
      room = rw (no_more n dir c1.joined.inside) (record { in_words = omega arith; small = λ z. absurd (omega arith); entries = omega (arith, c1.joined.inside) });
      ends = rw (no_more n dir c1.joined.inside) (omega arith);
    }
