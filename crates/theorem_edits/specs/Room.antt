-- More room changes nothing but the zeros behind: an accepted reading is accepted in longer arrays too, and leaves the same in front.
-- Questions 20 and 21 ask whether what a piece takes lies below a length, so a greater length says yes as well; and what is left fits, so the rest is zeros.
-- Assumes nothing.
use Rattle.std.specs.Prelude.{◌≡◌, Bool, true, false, ◌&&◌, List, [], ◌++◌, ℕ, suc, ◌+◌, ◌-◌, ◌*◌, ◌≤◌, ◌<◌, ltb, leb, replicate}
use Rattle.std.proofs.Math.Path.{refl}
use Rattle.std.proofs.Common.{sym, ap, ◌∙◌, append_assoc, arith, length-append, leb-true, ltb-true, le-leb, lt-ltb}
use Rattle.std.proofs.Math.ListN.{length}
use Rattle.std.proofs.lemmas.List.{replicate-append-replicate}
use Rattle.program.specs.Local.{and_left}
use Rattle.records.specs.Limits.{half_limit, entry_words}
use Rattle.records.specs.Pieces.{HeadRead, BlockRead, Run, done, stop, item, map_run, Verdict, fine, refused, judge, pad, all_words, entries, count_run, count, left, refused_at, leave, and_then, text_asked, reading, full_verdict, full}
use Rattle.grammar.specs.Function.{head_at, block_at, reading_of}

and_right : (a b : Bool) → (a && b) ≡ true → b ≡ true
and_right true b h = h
and_right false b h = let z : ◌≡◌ {A = ℕ} 0 1 = cc in absurd (omega arith)

not_fine : {A : Type 0} (q p : ℕ) → refused q p ≡ fine → A
not_fine q p h = let z : ◌≡◌ {A = ℕ} 0 1 = cc in absurd (omega arith)

-- what a piece was asked, where the answer is yes
pub record Yes (words dir i pos at e c n : ℕ) (r : Run ℕ) : Type 0 where
  pub fits : at + n ≤ words
  pub below : at + n < half_limit
  pub entry : i * entry_words + entry_words ≤ dir
  pub rest : judge words dir (suc i) (pos + e) (at + n) r ≡ fine

yes : (words dir i pos at e c n : ℕ) (r : Run ℕ) → judge words dir i pos at (item e c n r) ≡ fine → Yes words dir i pos at e c n r
unfolding judge
yes words dir i pos at e c n r h = go (leb (at + n) words && ltb (at + n) half_limit) refl (leb (i * entry_words + entry_words) dir) refl
  where
    go : (s : Bool) → (leb (at + n) words && ltb (at + n) half_limit) ≡ s → (t : Bool) → leb (i * entry_words + entry_words) dir ≡ t → Yes words dir i pos at e c n r
    go true s true t = record {
      fits = leb-true (at + n) words (and_left (leb (at + n) words) (ltb (at + n) half_limit) s);
      below = ltb-true (at + n) half_limit (and_right (leb (at + n) words) (ltb (at + n) half_limit) s);
      entry = leb-true (i * entry_words + entry_words) dir t;
      rest = rw (judge, s, t) at h;
    }
    go true s false t = not_fine 21 (pos + e) (rw (judge, s, t) at h)
    go false s b t = not_fine 20 (pos + e) (rw (judge, s) at h)

judge_more : (words dir k l i pos at : ℕ) (r : Run ℕ) → judge words dir i pos at r ≡ fine → judge (words + k) (dir + l) i pos at r ≡ fine
unfolding judge
judge_more words dir k l i pos at done h = refl
judge_more words dir k l i pos at (stop q p) h = h
judge_more words dir k l i pos at (item e c n r) h =
    let y = yes words dir i pos at e c n r h in
    rw (judge, le-leb (at + n) (words + k) (omega (arith, y.fits)), lt-ltb (at + n) half_limit y.below, le-leb (i * entry_words + entry_words) (dir + l) (omega (arith, y.entry)))
    (judge_more words dir k l (suc i) (pos + e) (at + n) r y.rest)

-- What the pieces leave fits.
words_fit : (words dir i pos at : ℕ) (r : Run (List ℕ)) → at ≤ words → judge words dir i pos at (map_run length r) ≡ fine → at + length (all_words r) ≤ words
unfolding map_run all_words
words_fit words dir i pos at done l h = omega arith
words_fit words dir i pos at (stop q p) l h = omega arith
words_fit words dir i pos at (item e c ws r) l h =
    let y = yes words dir i pos at e c (length ws) (map_run length r) h in
    omega (arith, length-append ws (all_words r), words_fit words dir (suc i) (pos + e) (at + length ws) r y.fits y.rest)

entries_fit : (words dir i pos at : ℕ) (r : Run (List ℕ)) → i * entry_words ≤ dir → judge words dir i pos at (map_run length r) ≡ fine → i * entry_words + length (entries pos at r) ≤ dir
unfolding map_run entries
entries_fit words dir i pos at done l h = omega arith
entries_fit words dir i pos at (stop q p) l h = omega arith
entries_fit words dir i pos at (item e c ws r) l h =
    let y = yes words dir i pos at e c (length ws) (map_run length r) h in
    omega (arith, entries_fit words dir (suc i) (pos + e) (at + length ws) r (omega (arith, y.entry)) y.rest)

-- Zeros behind zeros.
pad_more : (n k : ℕ) (xs : List ℕ) → length xs ≤ n → pad (n + k) xs ≡ pad n xs ++ replicate k 0
unfolding pad
pad_more n k xs l =
    let d : n + k - length xs ≡ n - length xs + k = omega arith in
    rw (d, sym (replicate-append-replicate {A = ℕ} (n - length xs) k 0)) (sym (append_assoc xs (replicate (n - length xs) 0) (replicate k 0)))

module _ (head_at : List ℕ → HeadRead) (block_at : ℕ → List ℕ → BlockRead) where
  full_more : (words dir k l n : ℕ) (text ws ds : List ℕ) → full head_at block_at words dir text ≡ left (count n) ws ds → full head_at block_at (words + k) (dir + l) text ≡ left (count n) (ws ++ replicate k 0) (ds ++ replicate l 0)
  unfolding full full_verdict and_then leave
  full_more words dir k l n text ws ds h = go (text_asked text) refl (judge words dir 0 0 0 (map_run length (reading head_at block_at text))) refl
    where
      r : Run (List ℕ)
      r = reading head_at block_at text

      go : (a : Verdict) → text_asked text ≡ a → (b : Verdict) → judge words dir 0 0 0 (map_run length r) ≡ b → full head_at block_at (words + k) (dir + l) text ≡ left (count n) (ws ++ replicate k 0) (ds ++ replicate l 0)
      go fine a fine b =
          let h2 : left (count (count_run r)) (pad words (all_words r)) (pad dir (entries 0 0 r)) ≡ left (count n) ws ds = rw (full, full_verdict, a, b) at h in
          let m : judge (words + k) (dir + l) 0 0 0 (map_run length r) ≡ fine = judge_more words dir k l 0 0 0 (map_run length r) b in
          let c : count_run r ≡ n = cc in
          let x : pad words (all_words r) ≡ ws = cc in
          let y : pad dir (entries 0 0 r) ≡ ds = cc in
          let u : pad (words + k) (all_words r) ≡ ws ++ replicate k 0 = pad_more words k (all_words r) (omega (arith, words_fit words dir 0 0 0 r (omega arith) b)) ∙ ap (λ (v : List ℕ). v ++ replicate k 0) x in
          let v : pad (dir + l) (entries 0 0 r) ≡ ds ++ replicate l 0 = pad_more dir l (entries 0 0 r) (omega (arith, entries_fit words dir 0 0 0 r (omega arith) b)) ∙ ap (λ (v : List ℕ). v ++ replicate l 0) y in
          rw (full, full_verdict, a, m, c, u, v)
      go fine a (refused q p) b =
          let h2 : left (refused_at q p) (pad words []) (pad dir []) ≡ left (count n) ws ds = rw (full, full_verdict, a, b) at h in
          let z : ◌≡◌ {A = ℕ} 0 1 = cc in
          absurd (omega arith)
      go (refused q p) a b c =
          let h2 : left (refused_at q p) (pad words []) (pad dir []) ≡ left (count n) ws ds = rw (full, full_verdict, a) at h in
          let z : ◌≡◌ {A = ℕ} 0 1 = cc in
          absurd (omega arith)

-- An accepted reading in k words and l directory words more: the same in front, zeros behind.
pub more_room : (W D k l n : ℕ) (text ws ds : List ℕ) → reading_of W D text ≡ left (count n) ws ds → reading_of (W + k) (D + l) text ≡ left (count n) (ws ++ replicate k 0) (ds ++ replicate l 0)
unfolding reading_of
more_room = full_more head_at block_at
