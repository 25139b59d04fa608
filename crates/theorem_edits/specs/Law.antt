-- Re-reading after an edit gives what a full reading gives, over any reader of one piece that has the properties of `Grammar`.
-- By induction on the pieces: one that is kept in front looks at no byte behind its settled end, so it reads the same in the newer text and hands the
-- same counter on; and where an old piece is joined, its counter is the one just handed on, and both texts are the same to their ends.
use Rattle.std.proofs.Math.Path.{◌≡◌, refl, sym, ap}
use Rattle.std.proofs.Common.{◌∙◌, subst, drop_of_length-le}
use Rattle.std.specs.Prelude.{Bool, ◌&&◌, take}
use Rattle.std.proofs.Math.Bool.{true, false}
use Rattle.std.proofs.Math.Option.{Option, none, some}
use mathlib.Core.List.{List, [], ◌∷◌, ◌++◌}
use Prim.Native.Nat.{ℕ, zero, suc, ◌+◌, ◌-◌, ◌≤◌, ◌<◌}
use native.Mathlib.Omega.{arith}
use Rattle.std.proofs.Math.Dec.{ltb, leb, eqb}
use Rattle.std.proofs.Math.ListN.{length, drop, length-drop}
use Rattle.std.proofs.lemmas.List.{drop-append-le}
use Rattle.std.proofs.Math.Seq.{drop-drop}
use borrow.Author.Tests.{ltb-true, leb-true, leb-false, eqb-true, lt-ltb, le-ltb}
use Rattle.program.specs.Prog.{ends}
use Rattle.records.specs.Limits.{counter_limit}
use Rattle.records.specs.Pieces.{HeadRead, head, bad_head, BlockRead, block, tail, bad_block, Run, done, stop, item, map_run, Old, old, Source, fresh, kept, before, old_sizes, closes, kept_rest, kept_front, common, common_end, first_counter, from, from_blocks, joins, blocks_in, blocks, reading, again_in, again, behind_front, keeps, rest}
use Rattle.theorem_refusals.specs.Common.{common_older, common_newer, common_end_same}
use Rattle.theorem_edits.specs.Chain.{and_true}

pub record Grammar (head_at : List ℕ → HeadRead) (block_at : ℕ → List ℕ → BlockRead) : Type 0 where
  pub head_fits : (s : List ℕ) (e d : ℕ) (ws : List ℕ) → head_at s ≡ head e d ws → e ≤ length s
  pub block_moves : (c : ℕ) (s : List ℕ) (e d : ℕ) (ws : List ℕ) → block_at c s ≡ block e d ws → 1 ≤ e
  pub block_fits : (c : ℕ) (s : List ℕ) (e d : ℕ) (ws : List ℕ) → block_at c s ≡ block e d ws → e ≤ length s
  pub tail_fits : (c : ℕ) (s : List ℕ) (e : ℕ) → block_at c s ≡ tail e → e ≤ length s
  pub head_local : (xs ys zs : List ℕ) (e d : ℕ) (ws : List ℕ) → head_at (xs ++ ys) ≡ head e d ws → e < length xs → head_at (xs ++ zs) ≡ head e d ws
  pub block_local : (c : ℕ) (xs ys zs : List ℕ) (e d : ℕ) (ws : List ℕ) → block_at c (xs ++ ys) ≡ block e d ws → ((q p : ℕ) → block_at d (drop e (xs ++ ys)) ≡ bad_block q p → ⊥) → closes (drop e xs) ≡ true
      → block_at c (xs ++ zs) ≡ block e d ws
  pub tail_local : (c : ℕ) (xs ys zs : List ℕ) (e : ℕ) → block_at c (xs ++ ys) ≡ tail e → e < length xs → block_at c (xs ++ zs) ≡ tail e
  -- the counter: question 22 asks it of every piece
  pub head_low : (s : List ℕ) (e d : ℕ) (ws : List ℕ) → head_at s ≡ head e d ws → d ≤ counter_limit
  pub block_low : (c : ℕ) (s : List ℕ) (e d : ℕ) (ws : List ℕ) → block_at c s ≡ block e d ws → c ≤ counter_limit → d ≤ counter_limit

-- A suffix that closes a block's end is not empty.
closes_lt : (e : ℕ) (xs : List ℕ) → closes (drop e xs) ≡ true → e < length xs
unfolding closes ends
closes_lt e xs h = go (leb (length xs) e) refl
  where
    bad : (s : List ℕ) → s ≡ [] → closes s ≡ true → ◌≡◌ {A = Bool} false true
    bad [] q h = h
    bad (x ∷ s) q h = cc

    go : (b : Bool) → leb (length xs) e ≡ b → e < length xs
    go true p = let z : ◌≡◌ {A = Bool} false true = bad (drop e xs) (drop_of_length-le xs (leb-true (length xs) e p)) h in
        let z2 : ◌≡◌ {A = ℕ} 0 1 = cc in omega arith
    go false p = leb-false (length xs) e p

drop_past : (n m : ℕ) (l : List ℕ) → length l ≤ n → length l ≤ m → drop n l ≡ drop m l
drop_past n m l a b = drop_of_length-le l a ∙ sym (drop_of_length-le l b)

-- What is left of a text is its end of that length.
suffix : (p : ℕ) (l : List ℕ) → drop p l ≡ drop (length l - length (drop p l)) l
suffix p l = go (leb p (length l)) refl
  where
    go : (b : Bool) → leb p (length l) ≡ b → drop p l ≡ drop (length l - length (drop p l)) l
    go true t = let q : p ≤ length l = leb-true p (length l) t in let r : length (drop p l) ≡ length l - p = length-drop p l in
        let z : length l - length (drop p l) ≡ p = omega arith in ap (λ (n : ℕ). drop n l) (sym z)
    go false t = let q : length l < p = leb-false p (length l) t in let r : length (drop p l) ≡ length l - p = length-drop p l in
        drop_past p (length l - length (drop p l)) l (omega arith) (omega arith)

module _ (head_at : List ℕ → HeadRead) (block_at : ℕ → List ℕ → BlockRead) (G : Grammar head_at block_at) where
  -- Fuel past the suffix's length makes no difference.
  fuel : (n m c : ℕ) (s : List ℕ) → length s < n → length s < m → blocks_in head_at block_at n c s ≡ blocks_in head_at block_at m c s
  unfolding blocks_in
  fuel zero m c s h k = absurd (native.Mathlib.Nat.not-suc-le-zero h)
  fuel (suc n) zero c s h k = absurd (native.Mathlib.Nat.not-suc-le-zero k)
  fuel (suc n) (suc m) c s h k = go (block_at c s) refl (λ e d. fuel n m d (drop e s))
    where
      go : (b : BlockRead) → block_at c s ≡ b
          → ((e d : ℕ) → length (drop e s) < n → length (drop e s) < m → blocks_in head_at block_at n d (drop e s) ≡ blocks_in head_at block_at m d (drop e s))
          → blocks_in head_at block_at (suc n) c s ≡ blocks_in head_at block_at (suc m) c s
      go (block e d ws) p ih =
          let a : 1 ≤ e = G.block_moves c s e d ws p in
          let b : e ≤ length s = G.block_fits c s e d ws p in
          let l : length (drop e s) ≡ length s - e = length-drop e s in
          rw (p, blocks_in) (ap (item e c ws) (ih e d (omega arith) (omega arith)))
      go (tail e) p ih = rw (p, blocks_in)
      go (bad_block q x) p ih = rw (p, blocks_in)

  pub blocks_block : (c : ℕ) (s : List ℕ) (e d : ℕ) (ws : List ℕ) → block_at c s ≡ block e d ws → blocks head_at block_at c s ≡ item e c ws (blocks head_at block_at d (drop e s))
  unfolding blocks blocks_in
  blocks_block c s e d ws p =
      let a : 1 ≤ e = G.block_moves c s e d ws p in
      let b : e ≤ length s = G.block_fits c s e d ws p in
      let l : length (drop e s) ≡ length s - e = length-drop e s in
      rw (p, blocks_in) (ap (item e c ws) (fuel (length s) (suc (length (drop e s))) d (drop e s) (omega arith) (omega arith)))

  pub blocks_tail : (c : ℕ) (s : List ℕ) (e : ℕ) → block_at c s ≡ tail e → blocks head_at block_at c s ≡ item e c [] done
  unfolding blocks blocks_in
  blocks_tail c s e p = rw (p, blocks_in)

  pub blocks_bad : (c : ℕ) (s : List ℕ) (q x : ℕ) → block_at c s ≡ bad_block q x → blocks head_at block_at c s ≡ stop q x
  unfolding blocks blocks_in
  blocks_bad c s q x p = rw (p, blocks_in)

  -- Over what is told of a piece's words: the words themselves, or their number.
  module _ (B : Type 0) (g : Source → B) (h : List ℕ → B) (gh : (ws : List ℕ) → g (fresh ws) ≡ h ws) where
    -- The old pieces os, none of them the head, are what the text s has, where the counter is c.
    IsOld : List Old → ℕ → List ℕ → Type 0
    IsOld os c s = map_run g (before os done) ≡ map_run h (blocks head_at block_at c s)

    data OldStep (c : ℕ) (s : List ℕ) (e f n m : ℕ) (os : List Old) : Type 0 where
      is_block : (d : ℕ) (ws : List ℕ) → m ≡ c → block_at c s ≡ block e d ws → g (kept f n) ≡ h ws → IsOld os d (drop e s) → OldStep c s e f n m os
      is_tail : m ≡ c → block_at c s ≡ tail e → g (kept f n) ≡ h [] → os ≡ [] → OldStep c s e f n m os

    no_old : (c : ℕ) (s : List ℕ) → IsOld [] c s → ⊥
    unfolding IsOld before map_run
    no_old c s i = go (block_at c s) refl
      where
        go : (b : BlockRead) → block_at c s ≡ b → ⊥
        go (block e d ws) p =
            let w : done ≡ item e c (h ws) (map_run h (blocks head_at block_at d (drop e s))) = rw (blocks_block c s e d ws p) at i in
            let z : ◌≡◌ {A = ℕ} 0 1 = cc in omega arith
        go (tail e) p = let w : done ≡ item e c (h []) done = rw (blocks_tail c s e p) at i in let z : ◌≡◌ {A = ℕ} 0 1 = cc in omega arith
        go (bad_block q x) p = let w : ◌≡◌ {A = Run B} done (stop q x) = rw (blocks_bad c s q x p) at i in let z : ◌≡◌ {A = ℕ} 0 1 = cc in omega arith

    before_done : (os : List Old) → map_run g (before os done) ≡ done → os ≡ []
    unfolding map_run before
    before_done [] p = refl
    before_done (old e f n m ∷ os) p = cc

    old_step : (c : ℕ) (s : List ℕ) (e f n m : ℕ) (os : List Old) → IsOld (old e f n m ∷ os) c s → OldStep c s e f n m os
    unfolding IsOld before map_run
    old_step c s e f n m os i = go (block_at c s) refl
      where
        go : (b : BlockRead) → block_at c s ≡ b → OldStep c s e f n m os
        go (block e2 d ws) p =
            let w : item e m (g (kept f n)) (map_run g (before os done)) ≡ item e2 c (h ws) (map_run h (blocks head_at block_at d (drop e2 s))) = rw (blocks_block c s e2 d ws p) at i in
            let q : e2 ≡ e = cc in
            is_block d ws (cc) (rw q at p) (cc) (rw (← q) (cc))
        go (tail e2) p =
            let w : item e m (g (kept f n)) (map_run g (before os done)) ≡ item e2 c (h []) done = rw (blocks_tail c s e2 p) at i in
            let q : e2 ≡ e = cc in
            is_tail (cc) (rw q at p) (cc) (before_done os (cc))
        go (bad_block a x) p =
            let w : item e m (g (kept f n)) (map_run g (before os done)) ≡ stop a x = rw (blocks_bad c s a x p) at i in
            let z : ◌≡◌ {A = ℕ} 0 1 = cc in absurd (omega arith)

    -- the first of them has the counter that is there
    first_is : (c : ℕ) (s : List ℕ) (os : List Old) → IsOld os c s → first_counter os ≡ c
    unfolding first_counter
    first_is c s [] i = absurd (no_old c s i)
    first_is c s (old e f n m ∷ os) i = go (old_step c s e f n m os i)
      where
        go : OldStep c s e f n m os → m ≡ c
        go (is_block d ws k p q j) = k
        go (is_tail k p q r) = k

    not_bad : (c : ℕ) (s : List ℕ) (o : Old) (os : List Old) → IsOld (o ∷ os) c s → (q p : ℕ) → block_at c s ≡ bad_block q p → ⊥
    not_bad c s (old e f n m) os i q x p = go (old_step c s e f n m os i)
      where
        go : OldStep c s e f n m os → ⊥
        go (is_block d ws k a b j) = let z : ◌≡◌ {A = ℕ} 0 1 = cc in omega arith
        go (is_tail k a b j) = let z : ◌≡◌ {A = ℕ} 0 1 = cc in omega arith

    before_b : List Old → Run B → Run B
    before_b [] r = r
    before_b (old e f n m ∷ os) r = item e m (g (kept f n)) (before_b os r)

    before_map : (os : List Old) (r : Run Source) → map_run g (before os r) ≡ before_b os (map_run g r)
    unfolding map_run before before_b
    before_map [] r = refl
    before_map (old e f n m ∷ os) r = ap (item e m (g (kept f n))) (before_map os r)

    -- The first k of the old pieces os stand in the text s too, where the counter is c; and reading goes on behind them, with the counter of the next
    -- of them, or they are all.
    data FrontIs (os : List Old) (k c : ℕ) (s : List ℕ) : Type 0 where
      some_left : k < length os
          → map_run h (blocks head_at block_at c s) ≡ before_b (take k os) (map_run h (blocks head_at block_at (first_counter (drop k os)) (drop (old_sizes (take k os)) s)))
          → FrontIs os k c s
      all_kept : k ≡ length os → map_run h (blocks head_at block_at c s) ≡ before_b (take k os) done → FrontIs os k c s

    front_none : (c : ℕ) (o : Old) (os : List Old) (s : List ℕ) → first_counter (o ∷ os) ≡ c → FrontIs (o ∷ os) 0 c s
    unfolding before_b old_sizes
    front_none c o os s m = some_left (omega arith) (rw m)

    front_cons : (c e f n m d : ℕ) (os : List Old) (k : ℕ) (ws s : List ℕ) → m ≡ c → block_at c s ≡ block e d ws → g (kept f n) ≡ h ws → FrontIs os k d (drop e s) → FrontIs (old e f n m ∷ os) (suc k) c s
    unfolding before_b old_sizes map_run
    front_cons c e f n m d os k ws s u p q (some_left l r) =
        some_left (omega arith) (rw (blocks_block c s e d ws p, ← q, ← u) (rw (← drop-drop (old_sizes (take k os)) e s) (ap (item e m (g (kept f n))) r)))
    front_cons c e f n m d os k ws s u p q (all_kept l r) = all_kept (omega arith) (rw (blocks_block c s e d ws p, ← q, ← u) (ap (item e m (g (kept f n))) r))

    front : (c : ℕ) (X ys zs : List ℕ) (os : List Old) → IsOld os c (X ++ ys) → FrontIs os (kept_rest X os) c (X ++ zs)
    unfolding kept_rest before_b map_run
    front c X ys zs [] i = absurd (no_old c (X ++ ys) i)
    front c X ys zs (old e f n m ∷ []) i = step (old_step c (X ++ ys) e f n m [] i)
      where
        none_kept : FrontIs (old e f n m ∷ []) 0 c (X ++ zs)
        none_kept = front_none c (old e f n m) [] (X ++ zs) (first_is c (X ++ ys) (old e f n m ∷ []) i)

        step : OldStep c (X ++ ys) e f n m [] → FrontIs (old e f n m ∷ []) (kept_rest X (old e f n m ∷ [])) c (X ++ zs)
        step (is_block d ws k p q j) = absurd (no_old d (drop e (X ++ ys)) j)
        step (is_tail k p q r) = go (ltb e (length X)) refl
          where
            go : (b : Bool) → ltb e (length X) ≡ b → FrontIs (old e f n m ∷ []) (kept_rest X (old e f n m ∷ [])) c (X ++ zs)
            go true t = rw (t, kept_rest) (all_kept refl (rw (blocks_tail c (X ++ zs) e (G.tail_local c X ys zs e p (ltb-true e (length X) t)), q, k)))
            go false t = rw (t, kept_rest) none_kept
    front c X ys zs (old e f n m ∷ o ∷ os) i = step (old_step c (X ++ ys) e f n m (o ∷ os) i) (λ d. front d (drop e X) ys zs (o ∷ os))
      where
        step : OldStep c (X ++ ys) e f n m (o ∷ os) → ((d : ℕ) → IsOld (o ∷ os) d (drop e X ++ ys) → FrontIs (o ∷ os) (kept_rest (drop e X) (o ∷ os)) d (drop e X ++ zs))
            → FrontIs (old e f n m ∷ o ∷ os) (kept_rest X (old e f n m ∷ o ∷ os)) c (X ++ zs)
        step (is_tail k p q r) ih = let z : ◌≡◌ {A = ℕ} 0 1 = cc in absurd (omega arith)
        step (is_block d ws k p q j) ih = go (closes (drop e X)) refl
          where
            go : (b : Bool) → closes (drop e X) ≡ b → FrontIs (old e f n m ∷ o ∷ os) (kept_rest X (old e f n m ∷ o ∷ os)) c (X ++ zs)
            go true t =
                let l : e < length X = closes_lt e X t in
                let l2 : e ≤ length X = omega arith in
                rw (t, kept_rest)
                (front_cons c e f n m d (o ∷ os) (kept_rest (drop e X) (o ∷ os)) ws (X ++ zs) k (G.block_local c X ys zs e d ws p (not_bad d (drop e (X ++ ys)) o os j) t) q
                (rw (drop-append-le e X zs) (ih d (rw (drop-append-le e X ys) at j))))
            go false t = rw (t, kept_rest) (front_none c (old e f n m) (o ∷ os) (X ++ zs) (first_is c (X ++ ys) (old e f n m ∷ o ∷ os) i))

    -- Of old pieces that are what the older text has from `pos` on, those from `target` on, the first with the counter d, are what it has from there
    -- with that counter.
    from_is : (older : List ℕ) (target d pos c : ℕ) (os ps : List Old) → from target d pos os ≡ some ps → IsOld os c (drop pos older) → IsOld ps d (drop target older)
    unfolding from first_counter
    from_is older target d pos c [] ps f i = let z : ◌≡◌ {A = ℕ} 0 1 = cc in absurd (omega arith)
    from_is older target d pos c (old e f n m ∷ os) ps q i = go (eqb pos target && eqb m d) refl (λ c2. from_is older target d (pos + e) c2 os ps)
      where
        go : (b : Bool) → (eqb pos target && eqb m d) ≡ b → ((c2 : ℕ) → from target d (pos + e) os ≡ some ps → IsOld os c2 (drop (pos + e) older) → IsOld ps d (drop target older))
            → IsOld ps d (drop target older)
        go true t ih =
            let r : some (old e f n m ∷ os) ≡ some ps = rw (t, from) at q in
            let u : old e f n m ∷ os ≡ ps = cc in
            let a : (eqb pos target ≡ true) × (eqb m d ≡ true) = and_true (eqb pos target) (eqb m d) t in
            let v : pos ≡ target = eqb-true pos target a.0 in
            let w : c ≡ d = sym (first_is c (drop pos older) (old e f n m ∷ os) i) ∙ eqb-true m d a.1 in
            rw (← u, ← v, ← w) i
        go false t ih = step (old_step c (drop pos older) e f n m os i)
          where
            r : from target d (pos + e) os ≡ some ps
            r = rw (t, from) at q

            step : OldStep c (drop pos older) e f n m os → IsOld ps d (drop target older)
            step (is_block c2 ws u p k j) = ih c2 r (rw (drop-drop e pos older) at j)
            step (is_tail u p k z) = let w : from target d (pos + e) [] ≡ some ps = rw z at r in let y : ◌≡◌ {A = ℕ} 0 1 = cc in absurd (omega arith)

    module _ (older newer : List ℕ) (e₀ f₀ n₀ m₀ d₀ : ℕ) (os : List Old) (io : IsOld os d₀ (drop e₀ older)) where
      joins_is : (p d : ℕ) (ps : List Old) → joins (common_end older newer) (length older) (old e₀ f₀ n₀ m₀ ∷ os) d (drop p newer) ≡ some ps → IsOld ps d (drop p newer)
      unfolding joins from_blocks
      joins_is p d ps q = go (leb (length (drop p newer)) (common_end older newer)) refl
        where
          go : (b : Bool) → leb (length (drop p newer)) (common_end older newer) ≡ b → IsOld ps d (drop p newer)
          go false t = let w : none ≡ some ps = rw (t, joins) at q in let z : ◌≡◌ {A = ℕ} 0 1 = cc in absurd (omega arith)
          go true t =
              let w : from (length older - length (drop p newer)) d e₀ os ≡ some ps = rw (t, joins) at q in
              let same : drop (length older - length (drop p newer)) older ≡ drop (length newer - length (drop p newer)) newer =
              common_end_same older newer (length (drop p newer)) (leb-true (length (drop p newer)) (common_end older newer) t) in
              let r : IsOld ps d (drop (length older - length (drop p newer)) older) = from_is older (length older - length (drop p newer)) d e₀ d₀ os ps w io in
              rw (suffix p newer, ← same) r

      -- Reading on, with old pieces joined behind, is reading on.
      again_in_is : (n d p : ℕ) → length (drop p newer) < n
          → map_run g (again_in head_at block_at (common_end older newer) (length older) (old e₀ f₀ n₀ m₀ ∷ os) n d (drop p newer)) ≡ map_run h (blocks head_at block_at d (drop p newer))
      unfolding again_in map_run IsOld
      again_in_is zero d p l = absurd (omega arith)
      again_in_is (suc n) d p l = go (block_at d (drop p newer)) refl (λ e d2. again_in_is n d2 (p + e))
        where
          O : List Old
          O = old e₀ f₀ n₀ m₀ ∷ os

          c : ℕ
          c = common_end older newer

          s : List ℕ
          s = drop p newer

          go : (b : BlockRead) → block_at d s ≡ b
              → ((e d2 : ℕ) → length (drop (p + e) newer) < n → map_run g (again_in head_at block_at c (length older) O n d2 (drop (p + e) newer)) ≡ map_run h (blocks head_at block_at d2 (drop (p + e) newer)))
              → map_run g (again_in head_at block_at c (length older) O (suc n) d s) ≡ map_run h (blocks head_at block_at d s)
          go (tail e) q ih = rw (q, again_in, blocks_tail d s e q, gh [])
          go (bad_block a x) q ih = rw (q, again_in, blocks_bad d s a x q)
          go (block e d2 ws) q ih = rw (q, again_in, blocks_block d s e d2 ws q, gh ws) (ap (item e d (h ws)) (go2 (joins c (length older) O d2 (drop e s)) refl))
            where
              m1 : 1 ≤ e
              m1 = G.block_moves d s e d2 ws q

              m2 : e ≤ length s
              m2 = G.block_fits d s e d2 ws q

              dd : drop e s ≡ drop (p + e) newer
              dd = drop-drop e p newer

              less : length (drop (p + e) newer) < n
              less = let l1 : length (drop e s) ≡ length s - e = length-drop e s in let l2 : length (drop e s) ≡ length (drop (p + e) newer) = ap length dd in omega (arith, m1, m2)

              go2 : (j : Option (List Old)) → joins c (length older) O d2 (drop e s) ≡ j
                  → map_run g (elim j [ some ps ↦ before ps done | none ↦ again_in head_at block_at c (length older) O n d2 (drop e s) ]) ≡ map_run h (blocks head_at block_at d2 (drop e s))
              go2 none t = rw dd (ih e d2 less)
              go2 (some ps) t = rw dd (joins_is (p + e) d2 ps (rw dd at t))

    -- The old pieces os are what a full reading of the text gives.
    unfoldable pub IsReading : List Old → List ℕ → Type 0
    IsReading os s = map_run g (before os done) ≡ map_run h (reading head_at block_at s)

    record HeadStep (s : List ℕ) (e f n m : ℕ) (os : List Old) : Type 0 where
      behind : ℕ  -- the counter
      ws : List ℕ
      zero_there : m ≡ 0
      reads : head_at s ≡ head e behind ws
      same : g (kept f n) ≡ h ws
      others : IsOld os behind (drop e s)

    no_reading : (s : List ℕ) → IsReading [] s → ⊥
    unfolding IsReading before map_run reading
    no_reading s i = go (head_at s) refl
      where
        go : (b : HeadRead) → head_at s ≡ b → ⊥
        go (head e d ws) p = let w : done ≡ item e 0 (h ws) (map_run h (blocks head_at block_at d (drop e s))) = rw (p, reading) at i in let z : ◌≡◌ {A = ℕ} 0 1 = cc in omega arith
        go (bad_head q x) p = let w : ◌≡◌ {A = Run B} done (stop q x) = rw (p, reading) at i in let z : ◌≡◌ {A = ℕ} 0 1 = cc in omega arith

    head_step : (s : List ℕ) (e f n m : ℕ) (os : List Old) → IsReading (old e f n m ∷ os) s → HeadStep s e f n m os
    unfolding IsReading IsOld before map_run reading
    head_step s e f n m os i = go (head_at s) refl
      where
        go : (b : HeadRead) → head_at s ≡ b → HeadStep s e f n m os
        go (head e2 d ws) p =
            let w : item e m (g (kept f n)) (map_run g (before os done)) ≡ item e2 0 (h ws) (map_run h (blocks head_at block_at d (drop e2 s))) = rw (p, reading) at i in
            let q : e2 ≡ e = cc in
            record { behind = d; ws = ws; zero_there = cc; reads = rw q at p; same = cc; others = rw (← q) (cc) }
        go (bad_head a x) p =
            let w : item e m (g (kept f n)) (map_run g (before os done)) ≡ stop a x = rw (p, reading) at i in
            let z : ◌≡◌ {A = ℕ} 0 1 = cc in absurd (omega arith)

    module _ (older newer : List ℕ) (e₀ f₀ n₀ m₀ : ℕ) (os : List Old) (io : IsReading (old e₀ f₀ n₀ m₀ ∷ os) older) where
      first₀ : HeadStep older e₀ f₀ n₀ m₀ os
      first₀ = head_step older e₀ f₀ n₀ m₀ os io

      again_is : (d p : ℕ) → map_run g (again head_at block_at (common_end older newer) (length older) (old e₀ f₀ n₀ m₀ ∷ os) d (drop p newer)) ≡ map_run h (blocks head_at block_at d (drop p newer))
      unfolding again
      again_is d p = again_in_is older newer e₀ f₀ n₀ m₀ first₀.behind os first₀.others (suc (length (drop p newer))) d p (omega arith)

      -- Nothing is kept in front: the head is read.
      from_head : map_run g (behind_front head_at block_at (common_end older newer) (length older) (old e₀ f₀ n₀ m₀ ∷ os) 0 newer) ≡ map_run h (reading head_at block_at newer)
      unfolding behind_front reading map_run IsOld
      from_head = go (head_at newer) refl
        where
          O : List Old
          O = old e₀ f₀ n₀ m₀ ∷ os

          c : ℕ
          c = common_end older newer

          go : (b : HeadRead) → head_at newer ≡ b → map_run g (behind_front head_at block_at c (length older) O 0 newer) ≡ map_run h (reading head_at block_at newer)
          go (bad_head q x) t = rw (t, behind_front, reading)
          go (head e d ws) t = rw (t, behind_front, reading, gh ws) (ap (item e 0 (h ws)) (go2 (joins c (length older) O d (drop e newer)) refl))
            where
              go2 : (j : Option (List Old)) → joins c (length older) O d (drop e newer) ≡ j
                  → map_run g (elim j [ some ps ↦ before ps done | none ↦ again head_at block_at c (length older) O d (drop e newer) ]) ≡ map_run h (blocks head_at block_at d (drop e newer))
              go2 none u = again_is d e
              go2 (some ps) u = joins_is older newer e₀ f₀ n₀ m₀ first₀.behind os first₀.others e d ps u

      -- the head's counter is 0
      at_zero : {r : Run B} → item e₀ m₀ (g (kept f₀ n₀)) r ≡ item e₀ 0 (g (kept f₀ n₀)) r
      at_zero {r} = ap (λ (m : ℕ). item e₀ m (g (kept f₀ n₀)) r) first₀.zero_there

      -- Some are: reading goes on behind them.
      from_front : (k : ℕ) → head_at newer ≡ head e₀ first₀.behind first₀.ws → FrontIs os k first₀.behind (drop e₀ newer)
          → map_run g (before (take (suc k) (old e₀ f₀ n₀ m₀ ∷ os)) (behind_front head_at block_at (common_end older newer) (length older) (old e₀ f₀ n₀ m₀ ∷ os) (suc k) newer)) ≡ map_run h (reading head_at block_at newer)
      unfolding behind_front reading map_run before old_sizes
      from_front k t (some_left l r) =
          let d : ℕ = first_counter (drop k os) in
          let u : ltb (suc k) (suc (length os)) ≡ true = lt-ltb (suc k) (suc (length os)) (omega arith) in
          rw (u, behind_front, t, reading, ← first₀.same)
          (ap (item e₀ m₀ (g (kept f₀ n₀)))
          (before_map (take k os) (again head_at block_at (common_end older newer) (length older) (old e₀ f₀ n₀ m₀ ∷ os) d (drop (e₀ + old_sizes (take k os)) newer))
          ∙ ap (before_b (take k os)) (again_is d (e₀ + old_sizes (take k os)) ∙ ap (λ (s : List ℕ). map_run h (blocks head_at block_at d s)) (sym (drop-drop (old_sizes (take k os)) e₀ newer)))
          ∙ sym r)
          ∙ at_zero)
      from_front k t (all_kept l r) =
          let u : ltb (suc k) (suc (length os)) ≡ false = le-ltb (suc k) (suc (length os)) (omega arith) in
          rw (u, behind_front, t, reading, ← first₀.same) (ap (item e₀ m₀ (g (kept f₀ n₀))) (before_map (take k os) done ∙ sym r) ∙ at_zero)

    pub core : (older newer : List ℕ) (os : List Old) → IsReading os older
        → map_run g (before (take (keeps head_at block_at older newer os) os) (rest head_at block_at older newer os)) ≡ map_run h (reading head_at block_at newer)
    unfolding keeps rest kept_front before
    core older newer [] i = absurd (no_reading older i)
    core older newer (old e f n m ∷ os) i = go (ltb e (length (common older newer))) refl
      where
        X : List ℕ
        X = common older newer

        ys : List ℕ
        ys = drop (length X) older

        zs : List ℕ
        zs = drop (length X) newer

        P : ℕ → Type 0
        P k = map_run g (before (take k (old e f n m ∷ os)) (behind_front head_at block_at (common_end older newer) (length older) (old e f n m ∷ os) k newer)) ≡ map_run h (reading head_at block_at newer)

        go : (b : Bool) → ltb e (length X) ≡ b → P (kept_front X (old e f n m ∷ os))
        go false t = rw (t, kept_front) (from_head older newer e f n m os i)
        go true t =
            let l : e < length X = ltb-true e (length X) t in
            let l2 : e ≤ length X = omega arith in
            let first : HeadStep older e f n m os = first₀ older newer e f n m os i in
            let hn : head_at newer ≡ head e first.behind first.ws =
            subst (λ s. head_at s ≡ head e first.behind first.ws) (sym (common_newer older newer))
            (G.head_local X ys zs e first.behind first.ws (subst (λ s. head_at s ≡ head e first.behind first.ws) (common_older older newer) first.reads) l) in
            let eo : drop e older ≡ drop e X ++ ys = ap (drop e) (common_older older newer) ∙ drop-append-le e X ys l2 in
            let en : drop e newer ≡ drop e X ++ zs = ap (drop e) (common_newer older newer) ∙ drop-append-le e X zs l2 in
            let io : IsOld os first.behind (drop e X ++ ys) = rw eo at first.others in
            rw (t, kept_front) (from_front older newer e f n m os i (kept_rest (drop e X) os) hn (rw en (front first.behind (drop e X) ys zs os io)))
