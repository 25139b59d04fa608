-- The second pass of a re-reading: the pieces that the first found are written, one behind the other.
-- The second pass reads by the same definition from the same place, so it meets the pieces that the first pass counted, and they fit.
-- Assumes nothing.
use mathlib.Core.Path.{◌≡◌, refl, sym, ap, ◌∙◌, subst}
use mathlib.Core.List.{List, [], ◌∷◌, ◌++◌, append-nil, append_assoc}
use Prim.Native.Nat.{ℕ, zero, suc, ◌+◌, ◌-◌, ◌*◌, ◌≤◌, ◌<◌}
use native.Mathlib.Nat.{add-zero, zero-add}
use native.Mathlib.Numerals.{add-one}
use native.Mathlib.Omega.{arith}
use lib.ListN.{length, take, drop, set, length-append}
use lib.Seq.{drop-drop}
use Rattle.records.specs.Words.{pack}
use Rattle.records.specs.Limits.{half_limit, entry_words}
use Rattle.grammar.specs.Function.{head_at, block_at}
use Rattle.reread_kept.specs.Place.{Taken, read_size, read_words, read_entries, reads_from, reads}
use Rattle.reread_kept.proofs.Place.{size_snoc, words_snoc, entries_snoc}
use Rattle.reread_kept.proofs.Final.{Put, put_first, put_next}
use Rattle.piece_directory.specs.Stretch.{Within, Stands}
use Rattle.reread_passes.specs.Numbered.{Takes, Closes, Stops}
use Rattle.reread_passes.specs.Second.{read, Fit, Wrote}

-- ---- pieces one behind the other
size_more : (xs : List Taken) (ys : List Taken) → read_size (xs ++ ys) ≡ read_size xs + read_size ys
unfolding read_size
size_more [] ys = sym (zero-add (read_size ys))
size_more (x ∷ xs) ys = omega (arith, size_more xs ys)

words_more : (xs : List Taken) (ys : List Taken) → length (read_words (xs ++ ys)) ≡ length (read_words xs) + length (read_words ys)
unfolding read_words
words_more [] ys = sym (zero-add (length (read_words ys)))
words_more (x ∷ xs) ys = omega (arith, words_more xs ys, length-append x.2 (read_words (xs ++ ys)), length-append x.2 (read_words xs))

words_first : (e d : ℕ) (ws : List ℕ) (xs : List Taken) → length (read_words ((e, d, ws) ∷ xs)) ≡ length ws + length (read_words xs)
unfolding read_words
words_first e d ws xs = length-append ws (read_words xs)

size_first : (e d : ℕ) (ws : List ℕ) (xs : List Taken) → read_size ((e, d, ws) ∷ xs) ≡ e + read_size xs
unfolding read_size
size_first e d ws xs = refl

-- ---- the next piece of the text
next_takes : (newer : List ℕ) (i pos d e d2 m : ℕ) (ws : List ℕ) → (i ≡ 0 → pos ≡ 0) → (i ≡ 0 → d ≡ 0) → Takes newer i pos d e d2 ws
    → reads head_at block_at i pos d (suc m) newer ≡ (e, d, ws) ∷ reads head_at block_at (suc i) (pos + e) d2 m newer
unfolding reads reads_from
next_takes newer zero pos d e d2 m ws z b t =
    let q : pos + e ≡ e = omega (arith, z refl) in
    rw (q, b refl, reads, t)
next_takes newer (suc i) pos d e d2 m ws z b t = rw (reads_from, t, drop-drop e pos newer)

next_closes : (newer : List ℕ) (i pos d e m : ℕ) → Closes newer i pos d e → reads head_at block_at i pos d (suc m) newer ≡ (e, d, []) ∷ []
unfolding reads reads_from
next_closes newer zero pos d e m t = absurd t
next_closes newer (suc i) pos d e m t = rw (reads_from, t)

next_stops : (newer : List ℕ) (i pos d q p m : ℕ) → Stops newer i pos d q p → reads head_at block_at i pos d (suc m) newer ≡ []
unfolding reads reads_from
next_stops newer zero pos d q p m t = rw (reads, t)
next_stops newer (suc i) pos d q p m t = rw (reads_from, t)

none_left : (newer : List ℕ) (i pos d : ℕ) → reads head_at block_at i pos d 0 newer ≡ []
unfolding reads reads_from
none_left newer zero pos d = refl
none_left newer (suc i) pos d = refl

-- ---- how far the pass has come: the pieces of fs1 are written, those from number i on are not
pub record Writing (newer : List ℕ) (k start first begin last to : ℕ) (words0 dir0 : List ℕ) (i pos at d : ℕ) (words dir : List ℕ) : Type 0 where
  pub fs1 : List Taken
  pub split : read newer k start begin last ≡ fs1 ++ read newer i pos d last
  pub number : i ≡ k + length fs1
  pub left : last ≡ i + length (read newer i pos d last)
  pub place : pos ≡ start + read_size fs1
  pub at_is : at ≡ first + length (read_words fs1)
  pub start_is : i ≡ 0 → pos ≡ 0
  pub begin_is : i ≡ 0 → d ≡ 0
  pub words_are : take at words ≡ take first words0 ++ read_words fs1
  pub behind : drop to words ≡ drop to words0
  pub long : length words ≡ length words0
  pub put : Put (take (k * entry_words) dir0 ++ read_entries start first fs1) dir0 i dir

module _ (newer : List ℕ) (k start first begin last to : ℕ) (words0 dir0 : List ℕ) (f : Fit newer (length words0) (length dir0) k start first begin last to) where
  pub writing_first : Writing newer k start first begin last to words0 dir0 k start first begin words0 dir0
  unfolding read_size read_words read_entries
  writing_first =
      record {
        fs1 = [];
        split = refl;
        number = sym (add-zero k);
        left = f.number;
        place = sym (add-zero start);
        at_is = sym (add-zero first);
        start_is = f.start;
        begin_is = f.begin;
        words_are = sym (append-nil (take first words0));
        behind = refl;
        long = refl;
        put = rw (append-nil (take (k * entry_words) dir0)) (put_first dir0 k (omega (arith, f.number, f.in_dir)));
      }

  module _ (i pos at d : ℕ) (words dir : List ℕ) (w : Writing newer k start first begin last to words0 dir0 i pos at d words dir) where
    sizes : start + read_size w.fs1 + read_size (read newer i pos d last) ≤ length newer
    sizes = omega (arith, f.place, ap read_size w.split, size_more w.fs1 (read newer i pos d last))

    counts : to ≡ at + length (read_words (read newer i pos d last))
    counts = omega (arith, f.first, ap (λ (x : List Taken). length (read_words x)) w.split, words_more w.fs1 (read newer i pos d last), w.at_is)

    pub at_in : at ≤ to
    at_in = omega (arith, counts)

    pub to_in : to ≤ length words
    to_in = omega (arith, f.in_words, w.long)

    pub pos_in : pos ≤ length newer
    pos_in = omega (arith, sizes, w.place)

    -- all are written
    finished : (fs : List Taken) → read newer k start begin last ≡ fs → (words2 dir2 : List ℕ) → take to words2 ≡ take first words0 ++ read_words fs → drop to words2 ≡ drop to words0 → length words2 ≡ length words0
        → Put (take (k * entry_words) dir0 ++ read_entries start first fs) dir0 last dir2 → Wrote newer k start first begin last to words0 dir0 words2 dir2
    finished fs e words2 dir2 t b l p = record { front = rw e t; behind = b; long = l; entries = rw e p.list; dir_long = p.long }

    pub writing_end : last ≤ i → Wrote newer k start first begin last to words0 dir0 words dir
    unfolding read_words
    writing_end h =
        let z : last - i ≡ 0 = omega arith in
        let n : read newer i pos d last ≡ [] = ap (λ (x : ℕ). reads head_at block_at i pos d x newer) z ∙ none_left newer i pos d in
        let q : to ≡ at = counts ∙ rw n (add-zero at) in
        let li : i ≡ last = sym (w.left ∙ rw n (add-zero i)) in
        finished w.fs1 (w.split ∙ rw n (append-nil w.fs1)) words dir
        (subst (λ (x : ℕ). take x words ≡ take first words0 ++ read_words w.fs1) (sym q) w.words_are)
        w.behind w.long
        (subst (λ (x : ℕ). Put (take (k * entry_words) dir0 ++ read_entries start first w.fs1) dir0 x dir) li w.put)

    module _ (l : i < last) where
      one_more : last - i ≡ suc (last - suc i)
      one_more = omega arith

      pub lid : to < half_limit
      lid = f.small (omega (arith, w.number))

      pub entry_in : i * entry_words + entry_words ≤ length dir
      entry_in = omega (arith, f.in_dir, w.put.long)

      pub never_stops : (q p : ℕ) → Stops newer i pos d q p → ⊥
      never_stops q p s =
          let n : read newer i pos d last ≡ [] = ap (λ (x : ℕ). reads head_at block_at i pos d x newer) one_more ∙ next_stops newer i pos d q p (last - suc i) s in
          omega (arith, w.left, ap length n)

      -- one more entry
      puts : (e m : ℕ) (ws : List ℕ) (dir2 : List ℕ) → m ≡ length ws → dir2 ≡ set (set (set dir (i * entry_words) (pack pos e)) (i * entry_words + 1) (pack at m)) (i * entry_words + 2) d → Put (take (k * entry_words) dir0 ++ read_entries start first (w.fs1 ++ ((e, d, ws) ∷ []))) dir0 (i + 1) dir2
      puts e m ws dir2 q y =
          let p : Put ((take (k * entry_words) dir0 ++ read_entries start first w.fs1) ++ (pack pos e ∷ pack at m ∷ d ∷ [])) dir0 (i + 1) dir2 =
          put_next (take (k * entry_words) dir0 ++ read_entries start first w.fs1) dir0 i (pack pos e) (pack at m) d dir dir2 w.put entry_in y in
          let a : (take (k * entry_words) dir0 ++ read_entries start first w.fs1) ++ (pack pos e ∷ pack at m ∷ d ∷ []) ≡ take (k * entry_words) dir0 ++ read_entries start first (w.fs1 ++ ((e, d, ws) ∷ [])) =
          append_assoc (take (k * entry_words) dir0) (read_entries start first w.fs1) (pack pos e ∷ pack at m ∷ d ∷ [])
          ∙ ap {B = List ℕ} (λ t. take (k * entry_words) dir0 ++ t) (sym (entries_snoc start first w.fs1 e d ws ∙ rw (← w.place, ← w.at_is, ← q))) in
          subst (λ (x : List ℕ). Put x dir0 (i + 1) dir2) a p

      module _ (e : ℕ) (t : Closes newer i pos d e) where
        last_piece : read newer i pos d last ≡ (e, d, []) ∷ []
        last_piece = ap (λ (x : ℕ). reads head_at block_at i pos d x newer) one_more ∙ next_closes newer i pos d e (last - suc i) t

        pub tail_in : pos + e ≤ length newer
        tail_in = omega (arith, sizes, w.place, ap read_size last_piece, size_first e d [] [])

        pub writing_tail : (words2 dir2 : List ℕ) → Within at to words words2 → dir2 ≡ set (set (set dir (i * entry_words) (pack pos e)) (i * entry_words + 1) (pack at 0)) (i * entry_words + 2) d → Wrote newer k start first begin last to words0 dir0 words2 dir2
        unfolding read_words
        writing_tail words2 dir2 v y =
            let q : to ≡ at = counts ∙ rw last_piece (add-zero at) in
            let li : i + 1 ≡ last = sym (w.left ∙ rw last_piece) in
            finished (w.fs1 ++ ((e, d, []) ∷ [])) (w.split ∙ rw last_piece) words2 dir2
            (subst (λ (x : ℕ). take x words2 ≡ take first words0 ++ read_words (w.fs1 ++ ((e, d, []) ∷ []))) (sym q)
            (v.front ∙ w.words_are ∙ ap {B = List ℕ} (λ x. take first words0 ++ x) (sym (words_snoc w.fs1 e d [] ∙ append-nil (read_words w.fs1)))))
            (v.behind ∙ w.behind) (v.long ∙ w.long)
            (subst (λ (x : ℕ). Put (take (k * entry_words) dir0 ++ read_entries start first (w.fs1 ++ ((e, d, []) ∷ []))) dir0 x dir2) li (puts e 0 [] dir2 refl y))

      module _ (e m d2 : ℕ) (words2 : List ℕ) (g : Stands (Takes newer i pos d e d2) m at to words words2) where
        next_piece : read newer i pos d last ≡ (e, d, g.ws) ∷ read newer (suc i) (pos + e) d2 last
        next_piece = ap (λ (x : ℕ). reads head_at block_at i pos d x newer) one_more ∙ next_takes newer i pos d e d2 (last - suc i) g.ws w.start_is w.begin_is g.is

        pub piece_in : pos + e ≤ length newer
        piece_in = omega (arith, sizes, w.place, ap read_size next_piece, size_first e d g.ws (read newer (suc i) (pos + e) d2 last))

        pub words_in_lem : at + m ≤ to
        words_in_lem = omega (arith, counts, ap (λ (x : List Taken). length (read_words x)) next_piece, words_first e d g.ws (read newer (suc i) (pos + e) d2 last), g.many)

        pub writing_next : (dir2 : List ℕ) → dir2 ≡ set (set (set dir (i * entry_words) (pack pos e)) (i * entry_words + 1) (pack at m)) (i * entry_words + 2) d → Writing newer k start first begin last to words0 dir0 (i + 1) (pos + e) (at + m) d2 words2 dir2
        writing_next dir2 y =
            let p : Put (take (k * entry_words) dir0 ++ read_entries start first (w.fs1 ++ ((e, d, g.ws) ∷ []))) dir0 (i + 1) dir2 = puts e m g.ws dir2 g.many y in
            rw (add-one i)
            (record {
              fs1 = w.fs1 ++ ((e, d, g.ws) ∷ []);
              split = w.split ∙ rw next_piece (sym (append_assoc w.fs1 ((e, d, g.ws) ∷ []) (read newer (suc i) (pos + e) d2 last)));
              number = omega (arith, w.number, length-append w.fs1 ((e, d, g.ws) ∷ []));
              left = omega (arith, w.left, ap length next_piece);
              place = omega (arith, w.place, size_snoc w.fs1 e d g.ws);
              at_is = omega (arith, w.at_is, g.many, ap length (words_snoc w.fs1 e d g.ws), length-append (read_words w.fs1) g.ws);
              start_is = λ z. absurd (omega arith);
              begin_is = λ z. absurd (omega arith);
              words_are = g.stands words_in_lem ∙ ap {B = List ℕ} (λ x. x ++ g.ws) w.words_are ∙ append_assoc (take first words0) (read_words w.fs1) g.ws ∙ ap {B = List ℕ} (λ x. take first words0 ++ x) (sym (words_snoc w.fs1 e d g.ws));
              behind = g.within.behind ∙ w.behind;
              long = g.within.long ∙ w.long;
              put = rw (add-one i) at p;
            })
