-- The full reading, piece by piece.
-- A step of the loop is one unfolding of `blocks` and of `judge`, and each piece is written where the last ended.
-- Assumes nothing.
use mathlib.Core.Path.{◌≡◌, refl, sym, ap, ◌∙◌}
use mathlib.Core.List.{List, [], ◌∷◌, ◌++◌, append-nil}
use Prim.Native.Nat.{ℕ, ◌+◌, ◌-◌, ◌*◌, ◌≤◌}
use native.Mathlib.Nat.{add-zero, zero-add}
use native.Mathlib.Omega.{arith}
use lib.ListN.{length, take, drop, set, replicate, length-drop, take-append-drop}
use lib.Seq.{drop-drop}
use Rattle.records.specs.Limits.{entry_words}
use Rattle.records.specs.Words.{pack}
use Rattle.records.specs.Pieces.{head, bad_head, block, tail, bad_block, done, stop, item, Verdict, fine, refused, text_asked, reading, blocks, leave, left, count, refused_at, pad}
use Rattle.theorem_edits.specs.Law.{blocks_block, blocks_tail, blocks_bad}
use Rattle.grammar.specs.Function.{head_at, block_at, reading_of}
use Rattle.theorem_edits.specs.Again.{laws}
use Rattle.piece_room.specs.Rooms.{room_of, after_room}
use Rattle.reread_kept.specs.Place.{full_then, read_size, read_words, read_entries}
use Rattle.std.specs.Prelude.{Result, Ok}
use Rattle.records.specs.declared.Refusal.{Refusal}
use Rattle.piece_room.proofs.Judge.{Fitting, fitting, decide}
use Rattle.reread_kept.proofs.Place.{words_snoc, entries_snoc, entries_length}
use Rattle.reread_kept.proofs.Final.{Put, put_first, put_next, put_taken, full_left, full_text, full_is}
use Rattle.reading_full.proofs.Steps.{ReadFull, full_first, full_more, full_no_room, full_refuses, full_all}
use Rattle.piece_directory.specs.Stretch.{Within, Stands}
use Rattle.reading_full.specs.Full.{pieces, said, Come, Whole, Stopped, Ended}
use Rattle.reading_full.specs.declared.Written.{Written}

-- the head
head_is : (text : List ℕ) (e d : ℕ) (ws : List ℕ) → head_at text ≡ head e d ws → pieces text ≡ item e 0 ws (blocks head_at block_at d (drop e text))
unfolding reading
head_is text e d ws h = rw (reading, h)

head_bad : (text : List ℕ) (q p : ℕ) → head_at text ≡ bad_head q p → pieces text ≡ stop q p
unfolding reading
head_bad text q p h = rw (reading, h)

-- an entry put behind others
put_entries : (i x y z : ℕ) (front dir dir2 : List ℕ) → take (i * entry_words) dir ≡ front → i * entry_words + entry_words ≤ length dir
    → dir2 ≡ set (set (set dir (i * entry_words) x) (i * entry_words + 1) y) (i * entry_words + 2) z
    → (take ((i + 1) * entry_words) dir2 ≡ front ++ (x ∷ y ∷ z ∷ [])) × (length dir2 ≡ length dir)
put_entries i x y z front dir dir2 t h e =
    let g : Put (take (i * entry_words) dir ++ (x ∷ y ∷ z ∷ [])) dir (i + 1) dir2 = put_next (take (i * entry_words) dir) dir i x y z dir dir2 (put_first dir i (omega arith)) h e in
    (put_taken (take (i * entry_words) dir ++ (x ∷ y ∷ z ∷ [])) dir (i + 1) dir2 g ∙ rw t, g.long)

module _ (text : List ℕ) (W D : ℕ) where
  start : ReadFull W D (said W D text) (pieces text) [] (pieces text) 0 0 0
  start = full_first W D (pieces text)

  -- ---- the head
  pub no_head : (q p : ℕ) (words dir : List ℕ) → head_at text ≡ bad_head q p → length words ≡ W → length dir ≡ D → Stopped text W D q p words dir
  no_head q p words dir h lw ld = record { is = full_refuses start q p (head_bad text q p h) ∙ ap (refused q) (zero-add p); long_words = lw; long_dir = ld }

  module _ (e n d : ℕ) (words0 words dir : List ℕ) (g : Stands (λ ws. head_at text ≡ head e d ws) n 0 W words0 words) (lw : length words0 ≡ W) (ld : length dir ≡ D) where
    pub head_inside : e ≤ length text
    head_inside = laws.head_fits text e d g.ws g.is

    pub head_room : (q p : ℕ) → ((v : Verdict) → after_room (room_of W D 0 0 n) (0 + e) v ≡ refused q p) → Stopped text W D q p words dir
    head_room q p h =
        let it : pieces text ≡ item e 0 g.ws (blocks head_at block_at d (drop e text)) = head_is text e d g.ws g.is in
        record {
          is = decide (room_of W D 0 0 n) (0 + e) q p (said W D text) h
              (λ n r. full_no_room start e 0 g.ws (blocks head_at block_at d (drop e text)) n it (rw (← g.many) r));
          long_words = g.within.long ∙ lw;
          long_dir = ld;
        }

    pub head_come : (dir2 : List ℕ) → room_of W D 0 0 n ≡ Ok tt → dir2 ≡ set (set (set dir 0 (pack 0 e)) 1 (pack 0 n)) 2 0 → Come text W D 1 e n d words dir2
    unfolding full_then read_size read_words read_entries
    head_come dir2 f q =
        let it : pieces text ≡ item e 0 g.ws (blocks head_at block_at d (drop e text)) = head_is text e d g.ws g.is in
        let k : Fitting W D 0 0 n = fitting W D 0 0 n f in
        let m : ReadFull W D (said W D text) (pieces text) ((e, 0, g.ws) ∷ []) (blocks head_at block_at d (drop e text)) 1 (0 + e) (0 + length g.ws) =
        full_more start e 0 g.ws (blocks head_at block_at d (drop e text)) it (rw (← g.many) f) in
        let p : (take ((0 + 1) * entry_words) dir2 ≡ [] ++ (pack 0 e ∷ pack 0 n ∷ 0 ∷ [])) × (length dir2 ≡ length dir) = put_entries 0 (pack 0 e) (pack 0 n) 0 [] dir dir2 refl (omega (arith, k.entry)) q in
        record {
          fs = (e, 0, g.ws) ∷ [];
          run = m.run;
          verdict = rw (zero-add e, zero-add (length g.ws), ← g.many) at m.verdict;
          number = refl;
          place = sym (add-zero e);
          first = g.many ∙ ap length (sym (append-nil g.ws));
          inside = head_inside;
          in_words = omega (arith, k.in_words);
          small = omega (arith, k.small);
          in_dir = omega (arith, k.entry);
          long_words = g.within.long ∙ lw;
          long_dir = p.1 ∙ ld;
          words_are = rw (zero-add n) at (g.stands (omega (arith, k.in_words))) ∙ sym (append-nil g.ws);
          entries_are = p.0 ∙ rw g.many;
        }

  -- ---- a block, the tail
  module _ (i pos at d : ℕ) (words0 dir : List ℕ) (c : Come text W D i pos at d words0 dir) where
    read : ReadFull W D (said W D text) (pieces text) c.fs (blocks head_at block_at d (drop pos text)) i pos at
    read = record { run = c.run; verdict = c.verdict; number = c.number; place = c.place; first = c.first }

    long : length (drop pos text) ≡ length text - pos
    long = length-drop pos text

    pub block_bad : (q p : ℕ) (words : List ℕ) → block_at d (drop pos text) ≡ bad_block q p → length words ≡ length words0 → Stopped text W D q (pos + p) words dir
    block_bad q p words b lw = record { is = full_refuses read q p (blocks_bad head_at block_at laws d (drop pos text) q p b); long_words = lw ∙ c.long_words; long_dir = c.long_dir }

    module _ (e : ℕ) (words : List ℕ) (b : block_at d (drop pos text) ≡ tail e) (w : Within at W words0 words) where
      tail_item : blocks head_at block_at d (drop pos text) ≡ item e d [] done
      tail_item = blocks_tail head_at block_at laws d (drop pos text) e b

      pub tail_inside : pos + e ≤ length text
      tail_inside = omega (arith, laws.tail_fits d (drop pos text) e b, long, c.inside)

      pub tail_room : (q p : ℕ) → ((v : Verdict) → after_room (room_of W D i at 0) (pos + e) v ≡ refused q p) → Stopped text W D q p words dir
      tail_room q p h =
          record {
            is = decide (room_of W D i at 0) (pos + e) q p (said W D text) h (λ n. full_no_room read e d [] done n tail_item);
            long_words = w.long ∙ c.long_words;
            long_dir = c.long_dir;
          }

      pub tail_whole : (dir2 : List ℕ) → room_of W D i at 0 ≡ Ok tt → dir2 ≡ set (set (set dir (i * entry_words) (pack pos e)) (i * entry_words + 1) (pack at 0)) (i * entry_words + 2) d → Whole text W D (i + 1) at words dir2
      tail_whole dir2 f q =
          let k : Fitting W D i at 0 = fitting W D i at 0 f in
          let m : ReadFull W D (said W D text) (pieces text) (c.fs ++ ((e, d, []) ∷ [])) done (i + 1) (pos + e) (at + 0) = full_more read e d [] done tail_item f in
          let a : (pieces text ≡ full_then (c.fs ++ ((e, d, []) ∷ [])) done) × (said W D text ≡ fine) = full_all m refl in
          let p : (take ((i + 1) * entry_words) dir2 ≡ read_entries 0 0 c.fs ++ (pack pos e ∷ pack at 0 ∷ d ∷ [])) × (length dir2 ≡ length dir) =
          put_entries i (pack pos e) (pack at 0) d (read_entries 0 0 c.fs) dir dir2 c.entries_are (omega (arith, k.entry, c.long_dir)) q in
          record {
            fs = c.fs ++ ((e, d, []) ∷ []);
            run = a.0;
            is_fine = a.1;
            number = m.number;
            first = sym (add-zero at) ∙ m.first;
            in_dir = omega (arith, k.entry);
            long_words = w.long ∙ c.long_words;
            long_dir = p.1 ∙ c.long_dir;
            words_are = w.front ∙ c.words_are ∙ sym (words_snoc c.fs e d [] ∙ append-nil (read_words c.fs));
            entries_are = p.0 ∙ sym (entries_snoc 0 0 c.fs e d [] ∙ rw (zero-add (read_size c.fs), zero-add (length (read_words c.fs)), ← c.place, ← c.first));
          }

    module _ (e n d2 : ℕ) (words : List ℕ) (g : Stands (λ ws. block_at d (drop pos text) ≡ block e d2 ws) n at W words0 words) where
      block_item : blocks head_at block_at d (drop pos text) ≡ item e d g.ws (blocks head_at block_at d2 (drop (pos + e) text))
      block_item = blocks_block head_at block_at laws d (drop pos text) e d2 g.ws g.is ∙ ap (λ (s : List ℕ). item e d g.ws (blocks head_at block_at d2 s)) (drop-drop e pos text)

      pub block_inside : pos + e ≤ length text
      block_inside = omega (arith, laws.block_fits d (drop pos text) e d2 g.ws g.is, long, c.inside)

      pub block_on : 1 ≤ e
      block_on = laws.block_moves d (drop pos text) e d2 g.ws g.is

      pub block_room : (q p : ℕ) → ((v : Verdict) → after_room (room_of W D i at n) (pos + e) v ≡ refused q p) → Stopped text W D q p words dir
      block_room q p h =
          record {
            is = decide (room_of W D i at n) (pos + e) q p (said W D text) h
                (λ n r. full_no_room read e d g.ws (blocks head_at block_at d2 (drop (pos + e) text)) n block_item (rw (← g.many) r));
            long_words = g.within.long ∙ c.long_words;
            long_dir = c.long_dir;
          }

      pub block_come : (dir2 : List ℕ) → room_of W D i at n ≡ Ok tt → dir2 ≡ set (set (set dir (i * entry_words) (pack pos e)) (i * entry_words + 1) (pack at n)) (i * entry_words + 2) d → Come text W D (i + 1) (pos + e) (at + n) d2 words dir2
      block_come dir2 f q =
          let k : Fitting W D i at n = fitting W D i at n f in
          let m : ReadFull W D (said W D text) (pieces text) (c.fs ++ ((e, d, g.ws) ∷ [])) (blocks head_at block_at d2 (drop (pos + e) text)) (i + 1) (pos + e) (at + length g.ws) =
          full_more read e d g.ws (blocks head_at block_at d2 (drop (pos + e) text)) block_item (rw (← g.many) f) in
          let p : (take ((i + 1) * entry_words) dir2 ≡ read_entries 0 0 c.fs ++ (pack pos e ∷ pack at n ∷ d ∷ [])) × (length dir2 ≡ length dir) =
          put_entries i (pack pos e) (pack at n) d (read_entries 0 0 c.fs) dir dir2 c.entries_are (omega (arith, k.entry, c.long_dir)) q in
          record {
            fs = c.fs ++ ((e, d, g.ws) ∷ []);
            run = m.run;
            verdict = rw (← g.many) at m.verdict;
            number = m.number;
            place = m.place;
            first = rw (← g.many) at m.first;
            inside = block_inside;
            in_words = k.in_words;
            small = k.small;
            in_dir = omega (arith, k.entry);
            long_words = g.within.long ∙ c.long_words;
            long_dir = p.1 ∙ c.long_dir;
            words_are = g.stands k.in_words ∙ ap {B = List ℕ} (λ t. t ++ g.ws) c.words_are ∙ sym (words_snoc c.fs e d g.ws);
            entries_are = p.0 ∙ sym (entries_snoc 0 0 c.fs e d g.ws ∙ rw (zero-add (read_size c.fs), zero-add (length (read_words c.fs)), ← c.place, ← c.first, ← g.many));
          }

-- ---- the call
pub refused_text : (W D : ℕ) (text : List ℕ) (q p : ℕ) → refused q p ≡ text_asked text → left (refused_at q p) (pad W []) (pad D []) ≡ reading_of W D text
unfolding reading_of
refused_text W D text q p h = sym (full_text head_at block_at W D text q p (sym h))

pub refused_stopped : (W D : ℕ) (text : List ℕ) (q p : ℕ) (words dir : List ℕ) → fine ≡ text_asked text → Stopped text W D q p words dir → left (refused_at q p) (pad (length words) []) (pad (length dir) []) ≡ reading_of W D text
unfolding reading_of leave
refused_stopped W D text q p words dir h g = sym (full_is head_at block_at W D text (sym h) ∙ rw (g.is, g.long_words, g.long_dir))

pub accepted : (W D : ℕ) (text : List ℕ) (i at : ℕ) (words dir words2 dir2 : List ℕ) → fine ≡ text_asked text → Whole text W D i at words dir
    → words2 ≡ take at words ++ replicate (length words - at) 0 → dir2 ≡ take (i * entry_words) dir ++ replicate (length dir - i * entry_words) 0
    → left (count i) words2 dir2 ≡ reading_of W D text
unfolding reading_of
accepted W D text i at words dir words2 dir2 h g ew ed =
    let p : Put (read_entries 0 0 g.fs) dir (length g.fs) dir =
    record {
      list = sym (take-append-drop (length g.fs * entry_words) dir) ∙ rw (← g.number, g.entries_are);
      many = entries_length 0 0 g.fs;
      long = refl;
    } in
    sym
    (full_is head_at block_at W D text (sym h)
    ∙ rw g.is_fine
    (full_left W D g.fs (pieces text) words words2 dir dir dir2 g.run g.long_words (rw (← g.first) g.words_are) (rw (← g.first) ew) g.long_dir p (rw (← g.number) ed)
    ∙ rw (← g.number)))

-- ---- between calls
pub come_own : (text : List ℕ) (W D i pos at d : ℕ) (words dir : List ℕ) → Come text W D i pos at d words dir → Come text (length words) (length dir) i pos at d words dir
come_own text W D i pos at d words dir c = rw (c.long_words, c.long_dir) c

pub ended_as : (text : List ℕ) (W W2 D D2 : ℕ) (words dir : List ℕ) (r : Result Written Refusal) → W2 ≡ W → D2 ≡ D → Ended text W2 D2 words dir r → Ended text W D words dir r
ended_as text W W2 D D2 words dir r e f h = rw (← e, ← f) h
