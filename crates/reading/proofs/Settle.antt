-- A re-reading as a whole: the front, the first pass, the move, the second pass, and what all that leaves.
-- What is kept in front is not touched, what is kept behind has moved as one stretch, and the pieces read fill the gap between.
-- Assumes nothing.
use Rattle.std.specs.Prelude.{Result, Ok, Err}
use Rattle.records.specs.declared.Refusal.{Refusal}
use Rattle.reading_full.specs.Full.{Ended}
use Rattle.reading_full.specs.declared.Written.{Written}
use Rattle.reading_full.proofs.Whole.{refused_stopped}
use Rattle.reading.specs.Answer.{AllAsked}
use mathlib.Core.Path.{◌≡◌, refl, sym, ap, ◌∙◌, subst}
use mathlib.Core.Bool.{true, false}
use mathlib.Core.List.{List, ◌++◌}
use Prim.Native.Nat.{ℕ, ◌+◌, ◌-◌, ◌*◌, ◌≤◌, ◌<◌}
use native.Mathlib.Omega.{arith}
use lib.ListN.{length, take, drop, replicate, length-append, length-drop}
use lib.Seq.{length-take-le, paste}
use Rattle.records.specs.Questions.{q_older}
use Rattle.records.specs.Limits.{half_limit, entry_words}
use Rattle.records.specs.Pieces.{Old, old_sizes, old_words, common, common_end, fine, refused, text_asked, refused_at, count, left, olds, again_left, behind_front, rest}
use Rattle.grammar.specs.Function.{head_at, block_at, rereading_of}
use Rattle.piece_directory.specs.Olds.{answers, olds_of, moved, FrontIs, KeptBehind}
use Rattle.reread_kept.specs.Place.{Taken, read_size, read_words, read_entries, Settled}
use Rattle.text_whole.proofs.Compare.{common_take}
use Rattle.piece_directory.proofs.Links.{olds_length, words_split, chained_is}
use Rattle.piece_directory.proofs.Moved.{moved_length}
use Rattle.reread_kept.proofs.Place.{entries_length}
use Rattle.reread_kept.proofs.Final.{Put, put_taken, settled_entries, settled_words, settled_left, reread_text, reread_unchained, reread_is, reread_refused}
use Rattle.reread_passes.proofs.Write.{settled_reads}
use Rattle.reread_passes.specs.First.{kept, kept_size, kept_words, kept_counter, behind, said, Given, Planned}
use Rattle.reread_passes.specs.Second.{read, Fit, Wrote}
use Rattle.theorem_edits.specs.Again.{laws}
use Rattle.text_whole.proofs.Texts.{not_long}
use Rattle.reread_passes.proofs.Dry.{kept_in, at_start, at_zero, count_is, start_is, first_is, begin_is}

-- the front, as `kept_front` is asked for it
pub front_common : (older newer : List ℕ) (a : ℕ) (os : List Old) (k start first begin : ℕ) → a ≡ length (common older newer) → FrontIs (take a newer) os k start first begin → FrontIs (common older newer) os k start first begin
front_common older newer a os k start first begin q f = subst (λ (s : List ℕ). FrontIs s os k start first begin) (ap (λ (x : ℕ). take x newer) q ∙ common_take older newer) f

-- questions 1, 2 and 22
pub again_text : (ws dir : List ℕ) (n : ℕ) (older newer : List ℕ) (q p : ℕ) → refused q p ≡ text_asked newer → again_left (left (refused_at q p) ws dir) 0 0 ≡ rereading_of ws dir n older newer
unfolding rereading_of
again_text ws dir n older newer q p h = sym (reread_text head_at block_at ws dir n older newer q p (sym h))

pub again_unchained : (ws dir : List ℕ) (n : ℕ) (older newer : List ℕ) → fine ≡ text_asked newer → false ≡ answers (olds (length older) (length ws) n dir)
    → again_left (left (refused_at q_older 0) ws dir) 0 0 ≡ rereading_of ws dir n older newer
unfolding rereading_of
again_unchained ws dir n older newer h a = sym (reread_unchained head_at block_at ws dir n older newer (sym h) (sym a))

pub given : (ws dir : List ℕ) (n : ℕ) (older newer : List ℕ) → fine ≡ text_asked newer → true ≡ answers (olds (length older) (length ws) n dir) → Given older newer (length ws) n dir
given ws dir n older newer h a = record { chained = chained_is (length older) (length ws) n dir (sym a); small = not_long newer h }

-- a stretch that was moved within an array
paste_long : (d s : List ℕ) (at m : ℕ) → at + m ≤ length d → m ≤ length s → length (paste d at s m) ≡ length d
paste_long d s at m h k =
    let a : length (take at d) ≡ at = length-take-le at d (omega arith) in
    let b : length (take m s) ≡ m = length-take-le m s k in
    omega (arith, length-append (take at d) (take m s ++ drop (at + m) d), length-append (take m s) (drop (at + m) d), length-append (take at d ++ take m s) (drop (at + m) d), length-append (take at d) (take m s), length-drop (at + m) d)

module _ (older newer ws : List ℕ) (n : ℕ) (dir : List ℕ) (g : Given older newer (length ws) n dir) (h : text_asked newer ≡ fine) where
  rest_is : behind older newer (length ws) n dir ≡ behind_front head_at block_at (common_end older newer) (length older) (olds_of n dir) (kept older newer (length ws) n dir) newer
  unfolding rest
  rest_is = refl

  pub again_refused : (q p : ℕ) → said older newer (length ws) n dir ≡ refused q p → again_left (left (refused_at q p) ws dir) 0 0 ≡ rereading_of ws dir n older newer
  unfolding rereading_of
  again_refused q p v = sym (reread_refused head_at block_at ws dir n older newer h g.chained q p v)

  module _ (k start first begin : ℕ) (f : FrontIs (common older newer) (olds_of n dir) k start first begin) (i pos at j : ℕ) (p : Planned older newer (length ws) n dir i pos at j) where
    abbrev s : Settled (length ws) (length dir) (length newer) (said older newer (length ws) n dir) (behind older newer (length ws) n dir) n dir (kept older newer (length ws) n dir) (kept_size older newer (length ws) n dir) (kept_words older newer (length ws) n dir) i pos at j
    s = p.settled

    pub k_is : k ≡ kept older newer (length ws) n dir
    k_is = count_is older newer (length ws) n dir g k start first begin f

    pos_is : start ≡ kept_size older newer (length ws) n dir
    pos_is = start_is older newer (length ws) n dir g k start first begin f

    at_is : first ≡ kept_words older newer (length ws) n dir
    at_is = first_is older newer (length ws) n dir g k start first begin f

    counter_is : begin ≡ kept_counter older newer (length ws) n dir
    counter_is = begin_is older newer (length ws) n dir g k start first begin f

    pub behind_in : j ≤ n
    behind_in = p.settled.behind

    pub k_in : k ≤ i
    k_in = omega (arith, k_is, p.settled.number)

    pub ends_in : pos + old_sizes (drop j (olds_of n dir)) < half_limit
    ends_in = omega (arith, p.settled.ends, g.small)

    many_behind : length (drop j (olds_of n dir)) ≡ n - j
    many_behind = length-drop j (olds_of n dir) ∙ ap (λ (x : ℕ). x - j) (olds_length n dir g.chained.joined.inside)

    pub entries_in : (i + (n - j)) * entry_words ≤ length dir
    entries_in = omega (arith, p.settled.room.entries, many_behind)

    -- what is read
    fs_is : p.settled.fs ≡ read newer k start begin i
    fs_is =
        settled_reads head_at block_at laws (length ws) (length dir) (length newer) (common_end older newer) (length older) n dir newer (said older newer (length ws) n dir) (behind older newer (length ws) n dir)
        (kept older newer (length ws) n dir) (kept_size older newer (length ws) n dir) (kept_words older newer (length ws) n dir) i pos at j rest_is refl s
        ∙ ap (λ (x : ℕ). read newer (kept older newer (length ws) n dir) x (kept_counter older newer (length ws) n dir) i) (sym pos_is)
        ∙ ap (λ (x : ℕ). read newer (kept older newer (length ws) n dir) start x i) (sym counter_is)
        ∙ ap (λ (x : ℕ). read newer x start begin i) (sym k_is)

    -- then what is kept behind was moved
    module _ (r : ℕ) (w1 d1 : List ℕ) (b : KeptBehind ws dir n j i pos at r w1 d1) where
      words_long : length w1 ≡ length ws
      words_long =
          ap length b.words
          ∙ paste_long ws (drop (old_words (take j (olds_of n dir))) ws) at (old_words (drop j (olds_of n dir))) p.settled.room.in_words
          (omega (arith, length-drop (old_words (take j (olds_of n dir))) ws, words_split j (olds_of n dir), g.chained.in_words))

      dir_long : length d1 ≡ length dir
      dir_long =
          let a : length (take (i * entry_words) dir) ≡ i * entry_words = length-take-le (i * entry_words) dir (omega (arith, entries_in)) in
          let m : length (moved (n - j) pos at (drop (j * entry_words) dir)) ≡ (n - j) * entry_words = moved_length (n - j) pos at (drop (j * entry_words) dir) (omega (arith, g.chained.joined.inside, length-drop (j * entry_words) dir)) in
          ap length b.entries
          ∙ omega (arith, a, m, entries_in, length-append (take (i * entry_words) dir) (moved (n - j) pos at (drop (j * entry_words) dir) ++ drop ((i + (n - j)) * entry_words) dir), length-append (moved (n - j) pos at (drop (j * entry_words) dir)) (drop ((i + (n - j)) * entry_words) dir), length-drop ((i + (n - j)) * entry_words) dir)

      pub fit : Fit newer (length w1) (length d1) k start first begin i at
      fit =
          record {
            number = omega (arith, p.settled.number, ap length fs_is, k_is);
            start = λ z. pos_is ∙ at_start older newer (length ws) n dir g (sym k_is ∙ z);
            begin = λ z. counter_is ∙ at_zero older newer (length ws) n dir g (sym k_is ∙ z);
            place = omega (arith, p.settled.place, ap read_size fs_is, pos_is, p.settled.ends);
            first = p.settled.first ∙ omega (arith, ap (λ (x : List Taken). length (read_words x)) fs_is, at_is);
            in_words = omega (arith, p.settled.room.in_words, words_long);
            small = λ l. p.small (omega (arith, k_is));
            in_dir = omega (arith, entries_in, dir_long);
          }

      -- and then the pieces read were written, and all behind cleared
      pub again_left_by : (w2 d2 w3 d3 : List ℕ) → Wrote newer k start first begin i at w1 d1 w2 d2 → w3 ≡ take r w2 ++ replicate (length w2 - r) 0 → d3 ≡ take ((i + (n - j)) * entry_words) d2 ++ replicate (length d2 - (i + (n - j)) * entry_words) 0
          → again_left (left (count (i + (n - j))) w3 d3) k (i - k) ≡ rereading_of ws dir n older newer
      unfolding rereading_of
      again_left_by w2 d2 w3 d3 w ew ed =
          let K : ℕ = kept older newer (length ws) n dir in
          let S : ℕ = kept_size older newer (length ws) n dir in
          let A : ℕ = kept_words older newer (length ws) n dir in
          let ki : K ≤ n = kept_in older newer (length ws) n dir g in
          let tw : take at w2 ≡ take A ws ++ read_words p.settled.fs =
          w.front ∙ rw (at_is, ← fs_is) (ap {B = List ℕ} (λ x. x ++ read_words p.settled.fs) (settled_words (length older) (length newer) ws n dir g.chained (said older newer (length ws) n dir) (behind older newer (length ws) n dir) K S A i pos at j ki refl refl s r w1 d1 b)) in
          let te : take (K * entry_words) d1 ≡ take (K * entry_words) dir =
          put_taken (take (K * entry_words) dir) d1 K d1 (settled_entries (length older) (length newer) ws n dir g.chained (said older newer (length ws) n dir) (behind older newer (length ws) n dir) K S A i pos at j ki refl refl s r w1 d1 b) in
          let front : take (k * entry_words) d1 ++ read_entries start first (read newer k start begin i) ≡ take (K * entry_words) dir ++ read_entries S A p.settled.fs =
          ap {B = List ℕ} (λ x. take (k * entry_words) d1 ++ read_entries start first x) (sym fs_is)
          ∙ ap {B = List ℕ} (λ x. take (k * entry_words) d1 ++ read_entries x first p.settled.fs) pos_is
          ∙ ap {B = List ℕ} (λ x. take (k * entry_words) d1 ++ read_entries S x p.settled.fs) at_is
          ∙ ap {B = List ℕ} (λ x. take (x * entry_words) d1 ++ read_entries S A p.settled.fs) k_is
          ∙ ap {B = List ℕ} (λ x. x ++ read_entries S A p.settled.fs) te in
          let put : Put (take (K * entry_words) dir ++ read_entries S A p.settled.fs) d1 i d2 =
          record {
            list = w.entries ∙ ap {B = List ℕ} (λ x. x ++ drop (i * entry_words) d1) front;
            many = omega (arith, length-append (take (K * entry_words) dir) (read_entries S A p.settled.fs), entries_length S A p.settled.fs, length-take-le (K * entry_words) dir (omega (arith, g.chained.joined.inside)), p.settled.number);
            long = w.dir_long;
          } in
          sym
          (reread_is head_at block_at ws dir n older newer h g.chained
          ∙ settled_left (length older) (length newer) ws n dir g.chained (said older newer (length ws) n dir) (behind older newer (length ws) n dir) K S A i pos at j ki refl refl s r w1 d1 b
          w2 w3 (w.long ∙ words_long) tw w.behind ew d2 d3 put ed
          ∙ ap (λ (x : ℕ). again_left (left (count (i + (n - j))) w3 d3) x (i - x)) (sym k_is))

-- ---- a full reading, once questions 1 and 2 do not refuse
pub all_asked : (W D : ℕ) (text words dir : List ℕ) (r : Result Written Refusal) → fine ≡ text_asked text → Ended text W D words dir r → AllAsked text W D words dir r
all_asked W D text words dir (Ok n) h g = (h, g)
all_asked W D text words dir (Err r) h g = (rw (g.long_words, g.long_dir) at (refused_stopped W D text r.question r.place words dir h g), g.long_words, g.long_dir)
