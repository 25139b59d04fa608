-- The first pass of a re-reading: a piece by its number, and what follows it.
-- A step of the loop is one unfolding of `again` and of `judge`; a block takes a byte, so the loop ends.
-- Assumes nothing.
use mathlib.Core.Path.{◌≡◌, refl, sym, ap, ◌∙◌, subst}
use mathlib.Core.Option.{Option, none, some}
use mathlib.Core.List.{List, [], ◌∷◌, ◌++◌}
use Prim.Native.Nat.{ℕ, zero, suc, ◌+◌, ◌-◌, ◌*◌, ◌≤◌, ◌<◌}
use native.Mathlib.Nat.{add-zero}
use native.Mathlib.Numerals.{add-one}
use native.Mathlib.Omega.{arith}
use lib.ListN.{length, take, drop, length-drop}
use lib.Seq.{drop-drop}
use Rattle.theorem_refusals.specs.Common.{common_end_le, common_le_newer}
use Rattle.records.specs.Pieces.{Run, done, stop, item, map_run, Source, fresh, size, before, Old, old_sizes, old_words, Verdict, fine, refused, judge, joins, common, common_end, again, behind_front, kept_front, keeps, rest, judge_again}
use Rattle.records.specs.Limits.{entry_words}
use Rattle.grammar.specs.Function.{head_at, block_at}
use Rattle.piece_room.specs.Rooms.{room_of, after_room}
use Rattle.piece_directory.specs.Olds.{olds_of, begins, Passed, JoinsAt, JoinsNot, FrontIs}
use Rattle.reread_kept.specs.Place.{read_then, read_size, read_words, Settled}
use Rattle.piece_directory.specs.declared.pieces.Piece.{Piece}
use Rattle.piece_directory.specs.declared.pieces.Piece.TheVariants as pieces
use Rattle.std.specs.Prelude.{Result, Ok, Err}
use Rattle.records.specs.declared.Refusal.{Refusal}
use Rattle.piece_directory.proofs.Links.{olds_length, words_split, no_more}
use Rattle.piece_room.proofs.Judge.{Fitting, fitting, kept_room}
use Rattle.reread_older.proofs.Find.{passed_first, passed_later, kept_size_lem}
use Rattle.reread_kept.proofs.Front.{front_count, front_size}
use Rattle.reread_passes.proofs.Again.{Read, read_more, read_no_room, read_refused, read_kept, read_all, again_joined, again_block, again_tail, again_bad, behind_joined, behind_head, behind_bad, behind_some, settled_all}
use Rattle.piece_head.specs.Part.{HeadIn, HeadDry}
use Rattle.piece_block.specs.Part.{BlockIn, BlockDry}
use Rattle.reread_passes.specs.Numbered.{Takes, Closes, Stops, PieceDry, PieceIn}
use Rattle.reread_passes.specs.First.{kept, kept_size, kept_words, kept_counter, behind, said, onward, Given, Dry, Took, Planned, Follows}
use Rattle.piece_room.proofs.Judge.{decide}
use Rattle.theorem_edits.specs.Again.{laws}

-- ---- a piece by its number
pub head_first : (text : List ℕ) (i pos c : ℕ) (r : Result Piece Refusal) → i ≡ 0 → (i ≡ 0 → pos ≡ 0) → HeadDry text r → PieceDry text i pos c r
head_first text zero pos c (Ok (pieces.Read y d)) z s h = record { ws = h.ws; is = h.is; many = h.many }
head_first text zero pos c (Ok (pieces.Tail e)) z s h = h
head_first text zero pos c (Err y) z s h = (h.is, omega (arith, h.inside, s z))
head_first text (suc i) pos c r z s h = absurd (omega arith)

pub block_later : (text : List ℕ) (i pos c : ℕ) (r : Result Piece Refusal) → (i ≡ 0 → ⊥) → pos ≤ length text → BlockDry c (drop pos text) r → PieceDry text i pos c r
block_later text zero pos c r z s h = absurd (z refl)
block_later text (suc i) pos c (Ok (pieces.Read y d)) z s h = record { ws = h.ws; is = h.is; many = h.many }
block_later text (suc i) pos c (Ok (pieces.Tail e)) z s h = h
block_later text (suc i) pos c (Err y) z s h = (h.is, omega (arith, h.inside, length-drop pos text))

pub head_first_in : (text : List ℕ) (i pos at c to : ℕ) (words words2 : List ℕ) (r : Result Piece Refusal) → i ≡ 0 → HeadIn text at to words words2 r → PieceIn text i pos at c to words words2 r
head_first_in text zero pos at c to words words2 (Ok (pieces.Read y d)) z h = record { ws = h.ws; is = h.is; many = h.many; stands = h.stands; within = h.within }
head_first_in text zero pos at c to words words2 (Ok (pieces.Tail e)) z h = absurd h
head_first_in text zero pos at c to words words2 (Err y) z h = (h.0.is, h.1)
head_first_in text (suc i) pos at c to words words2 r z h = absurd (omega arith)

pub block_later_in : (text : List ℕ) (i pos at c to : ℕ) (words words2 : List ℕ) (r : Result Piece Refusal) → (i ≡ 0 → ⊥) → BlockIn c (drop pos text) at to words words2 r → PieceIn text i pos at c to words words2 r
block_later_in text zero pos at c to words words2 r z h = absurd (z refl)
block_later_in text (suc i) pos at c to words words2 (Ok (pieces.Read y d)) z h = record { ws = h.ws; is = h.is; many = h.many; stands = h.stands; within = h.within }
block_later_in text (suc i) pos at c to words words2 (Ok (pieces.Tail e)) z h = h
block_later_in text (suc i) pos at c to words words2 (Err y) z h = (h.0.is, h.1)

module _ (older newer : List ℕ) (W n : ℕ) (dir : List ℕ) (g : Given older newer W n dir) where
  abbrev os : List Old
  os = olds_of n dir

  abbrev c : ℕ
  c = common_end older newer

  abbrev T : ℕ
  T = length older

  many : length (olds_of n dir) ≡ n
  many = olds_length n dir g.chained.joined.inside

  -- ---- what is left, with the piece that was read in front
  step_joined : (i pos d e d2 : ℕ) (ws : List ℕ) (ps : List Old) → (i ≡ 0 → pos ≡ 0) → (i ≡ 0 → d ≡ 0) → Takes newer i pos d e d2 ws → joins c T os d2 (drop (pos + e) newer) ≡ some ps → onward older newer W n dir i pos d ≡ item e d (fresh ws) (before ps done)
  step_joined zero pos d e d2 ws ps z b t j =
      let q : pos + e ≡ e = omega (arith, z refl) in
      subst (λ (x : ℕ). onward older newer W n dir 0 pos d ≡ item e x (fresh ws) (before ps done)) (sym (b refl))
      (behind_joined head_at block_at laws c T os newer e d2 ws ps t (subst (λ (x : ℕ). joins c T os d2 (drop x newer) ≡ some ps) q j))
  step_joined (suc i) pos d e d2 ws ps z b t j = again_joined head_at block_at laws c T os d (drop pos newer) e d2 ws ps t (rw (drop-drop e pos newer) j)

  step_next : (i pos d e d2 : ℕ) (ws : List ℕ) → (i ≡ 0 → pos ≡ 0) → (i ≡ 0 → d ≡ 0) → Takes newer i pos d e d2 ws → joins c T os d2 (drop (pos + e) newer) ≡ none → onward older newer W n dir i pos d ≡ item e d (fresh ws) (onward older newer W n dir (suc i) (pos + e) d2)
  step_next zero pos d e d2 ws z b t j =
      let q : pos + e ≡ e = omega (arith, z refl) in
      subst (λ (x : ℕ). onward older newer W n dir 0 pos d ≡ item e x (fresh ws) (again head_at block_at c T os d2 (drop (pos + e) newer))) (sym (b refl))
      (subst (λ (x : ℕ). onward older newer W n dir 0 pos d ≡ item e 0 (fresh ws) (again head_at block_at c T os d2 (drop x newer))) (sym q)
      (behind_head head_at block_at laws c T os newer e d2 ws t (subst (λ (x : ℕ). joins c T os d2 (drop x newer) ≡ none) q j)))
  step_next (suc i) pos d e d2 ws z b t j =
      again_block head_at block_at laws c T os d (drop pos newer) e d2 ws t (rw (drop-drop e pos newer) j)
      ∙ ap (λ (s : List ℕ). item e d (fresh ws) (again head_at block_at c T os d2 s)) (drop-drop e pos newer)

  step_some : (i pos d e d2 : ℕ) (ws : List ℕ) → (i ≡ 0 → pos ≡ 0) → (i ≡ 0 → d ≡ 0) → Takes newer i pos d e d2 ws → (r : Run Source) × (onward older newer W n dir i pos d ≡ item e d (fresh ws) r)
  step_some i pos d e d2 ws z b t = go (joins c T os d2 (drop (pos + e) newer)) refl
    where
      go : (o : Option (List Old)) → joins c T os d2 (drop (pos + e) newer) ≡ o → (r : Run Source) × (onward older newer W n dir i pos d ≡ item e d (fresh ws) r)
      go none j = (onward older newer W n dir (suc i) (pos + e) d2, step_next i pos d e d2 ws z b t j)
      go (some ps) j = (before ps done, step_joined i pos d e d2 ws ps z b t j)

  step_inside : (i pos d e d2 : ℕ) (ws : List ℕ) → (i ≡ 0 → pos ≡ 0) → pos ≤ length newer → Takes newer i pos d e d2 ws → pos + e ≤ length newer
  step_inside zero pos d e d2 ws z l t = omega (arith, laws.head_fits newer e d2 ws t, z refl)
  step_inside (suc i) pos d e d2 ws z l t = omega (arith, laws.block_fits d (drop pos newer) e d2 ws t, length-drop pos newer)

  step_on : (i pos d e d2 : ℕ) (ws : List ℕ) → Takes newer i pos d e d2 ws → 0 < i → 1 ≤ e
  step_on zero pos d e d2 ws t l = absurd (omega arith)
  step_on (suc i) pos d e d2 ws t l = laws.block_moves d (drop pos newer) e d2 ws t

  step_tail : (i pos d e : ℕ) → Closes newer i pos d e → onward older newer W n dir i pos d ≡ item e d (fresh []) done
  step_tail zero pos d e t = absurd t
  step_tail (suc i) pos d e t = again_tail head_at block_at laws c T os d (drop pos newer) e t

  tail_in : (i pos d e : ℕ) → pos ≤ length newer → Closes newer i pos d e → pos + e ≤ length newer
  tail_in zero pos d e l t = absurd t
  tail_in (suc i) pos d e l t = omega (arith, laws.tail_fits d (drop pos newer) e t, length-drop pos newer)

  step_bad : (i pos d q p : ℕ) → Stops newer i pos d q p → onward older newer W n dir i pos d ≡ stop q p
  step_bad zero pos d q p t = behind_bad head_at block_at laws c T os newer q p t
  step_bad (suc i) pos d q p t = again_bad head_at block_at laws c T os d (drop pos newer) q p t

  -- ---- how far the pass has come
  reads : (i pos at d j : ℕ) (y : Dry older newer W n dir i pos at d j) → Read W (length dir) (said older newer W n dir) (behind older newer W n dir) (kept older newer W n dir) (kept_size older newer W n dir) (kept_words older newer W n dir) y.fs (onward older newer W n dir i pos d) i pos at
  reads i pos at d j y = record { run = y.run; verdict = y.verdict; number = y.number; place = y.place; first = y.first }

  module _ (i pos at d j : ℕ) (y : Dry older newer W n dir i pos at d j) where
    pub dry_bad : (q p : ℕ) → Stops newer i pos d q p → said older newer W n dir ≡ refused q (pos + p)
    dry_bad q p s = read_refused (reads i pos at d j y) q p (step_bad i pos d q p s)

    module _ (e : ℕ) (t : Closes newer i pos d e) where
      pub dry_tail_inside : pos + e ≤ length newer
      dry_tail_inside = tail_in i pos d e y.inside t

      pub dry_tail_room : (q p : ℕ) → ((v : Verdict) → after_room (room_of W (length dir) i at 0) (pos + e) v ≡ refused q p) → said older newer W n dir ≡ refused q p
      dry_tail_room q p h =
          decide (room_of W (length dir) i at 0) (pos + e) q p (said older newer W n dir) h
          (λ n. read_no_room (reads i pos at d j y) e d [] done n (step_tail i pos d e t))

      pub dry_tail : room_of W (length dir) i at 0 ≡ Ok tt → Planned older newer W n dir (i + 1) (pos + e) at n
      unfolding map_run judge old_sizes old_words
      dry_tail h =
          let inside : n * entry_words ≤ length dir = g.chained.joined.inside in
          let m : Read W (length dir) (said older newer W n dir) (behind older newer W n dir) (kept older newer W n dir) (kept_size older newer W n dir) (kept_words older newer W n dir) (y.fs ++ ((e, d, []) ∷ [])) done (i + 1) (pos + e) (at + 0) =
          read_more (reads i pos at d j y) e d [] done (step_tail i pos d e t) h in
          let f : Fitting W (length dir) i at 0 = fitting W (length dir) i at 0 h in
          record {
            settled = record {
              fs = y.fs ++ ((e, d, []) ∷ []);
              is = m.verdict;
              run = read_all m n dir inside refl;
              number = m.number;
              place = m.place;
              first = sym (add-zero at) ∙ m.first;
              behind = omega arith;
              room = rw (no_more n dir inside) (record { in_words = f.in_words; small = λ z. absurd (omega arith); entries = omega (arith, f.entry) });
              ends = rw (no_more n dir inside) (omega (arith, dry_tail_inside));
            };
            small = λ z. omega (arith, f.small);
          }

  -- ---- behind a piece that was read
  module _ (i pos at d j e m d2 : ℕ) (k : Took older newer W n dir i pos at d j e m d2) where
    it : Read W (length dir) (said older newer W n dir) (behind older newer W n dir) (kept older newer W n dir) (kept_size older newer W n dir) (kept_words older newer W n dir) k.dry.fs (onward older newer W n dir i pos d) i pos at
    it = reads i pos at d j k.dry

    pub took_inside : pos + e ≤ length newer
    took_inside = step_inside i pos d e d2 k.ws k.dry.start k.dry.inside k.is

    pub took_on : 0 < i → 1 ≤ e
    took_on = step_on i pos d e d2 k.ws k.is

    pub took_room : (q p : ℕ) → ((v : Verdict) → after_room (room_of W (length dir) i at m) (pos + e) v ≡ refused q p) → said older newer W n dir ≡ refused q p
    took_room q p h =
        let s : (r : Run Source) × (onward older newer W n dir i pos d ≡ item e d (fresh k.ws) r) = step_some i pos d e d2 k.ws k.dry.start k.dry.begin k.is in
        decide (room_of W (length dir) i at m) (pos + e) q p (said older newer W n dir) h
        (λ n r. read_no_room it e d k.ws s.0 n s.1 (rw (← k.many) r))

    pub took_passed : Passed (olds_of n dir) j (length older - (length newer - (pos + e)))
    took_passed = passed_later (olds_of n dir) j (length older - (length newer - pos)) (length older - (length newer - (pos + e))) (omega (arith, took_inside)) k.dry.passed

    module _ (h : room_of W (length dir) i at m ≡ Ok tt) where
      fits : Fitting W (length dir) i at m
      fits = fitting W (length dir) i at m h

      room_ws : room_of W (length dir) i at (length k.ws) ≡ Ok tt
      room_ws = rw (← k.many) h

      pub took_more : (f : ℕ) → JoinsNot (olds_of n dir) (common_end older newer) (length older) (length newer - (pos + e)) d2 f → Dry older newer W n dir (i + 1) (pos + e) (at + m) d2 f
      took_more f x =
          let a : onward older newer W n dir i pos d ≡ item e d (fresh k.ws) (onward older newer W n dir (suc i) (pos + e) d2) =
          step_next i pos d e d2 k.ws k.dry.start k.dry.begin k.is (x.is (drop (pos + e) newer) (length-drop (pos + e) newer)) in
          let r : Read W (length dir) (said older newer W n dir) (behind older newer W n dir) (kept older newer W n dir) (kept_size older newer W n dir) (kept_words older newer W n dir) (k.dry.fs ++ ((e, d, k.ws) ∷ [])) (onward older newer W n dir (suc i) (pos + e) d2) (i + 1) (pos + e) (at + length k.ws) =
          read_more it e d k.ws (onward older newer W n dir (suc i) (pos + e) d2) a room_ws in
          rw (add-one i)
          (record {
            fs = k.dry.fs ++ ((e, d, k.ws) ∷ []);
            run = r.run;
            verdict = rw (← k.many, add-one i) at r.verdict;
            number = omega (arith, r.number);
            place = r.place;
            first = omega (arith, r.first, k.many);
            start = λ z. absurd (omega arith);
            begin = λ z. absurd (omega arith);
            inside = took_inside;
            from = omega (arith, x.inside, many);
            passed = x.passed;
            in_words = fits.in_words;
            in_dir = omega (arith, fits.entry);
          })

      module _ (f : ℕ) (x : JoinsAt (olds_of n dir) (common_end older newer) (length older) (length newer - (pos + e)) d2 f) where
        pub took_size : old_sizes (drop f (olds_of n dir)) ≤ length newer - (pos + e)
        took_size = kept_size_lem (length older) W n dir (common_end older newer) (length newer - (pos + e)) d2 f g.chained (common_end_le older newer) x

        joined : Read W (length dir) (said older newer W n dir) (behind older newer W n dir) (kept older newer W n dir) (kept_size older newer W n dir) (kept_words older newer W n dir) (k.dry.fs ++ ((e, d, k.ws) ∷ [])) (before (drop f (olds_of n dir)) done) (i + 1) (pos + e) (at + length k.ws)
        joined =
            read_more it e d k.ws (before (drop f (olds_of n dir)) done)
            (step_joined i pos d e d2 k.ws (drop f (olds_of n dir)) k.dry.start k.dry.begin k.is (x.is (drop (pos + e) newer) (length-drop (pos + e) newer))) room_ws

        pub took_refused : (v : Verdict) → v ≡ judge W (length dir) (i + 1) (pos + e) (at + m) (map_run size (before (drop f (olds_of n dir)) done)) → said older newer W n dir ≡ v
        took_refused v w = rw (← k.many) at joined.verdict ∙ sym w

        pub took_keep : fine ≡ judge W (length dir) (i + 1) (pos + e) (at + m) (map_run size (before (drop f (olds_of n dir)) done)) → Planned older newer W n dir (i + 1) (pos + e) (at + m) f
        took_keep w =
            record {
              settled = record {
                fs = k.dry.fs ++ ((e, d, k.ws) ∷ []);
                is = took_refused fine w;
                run = read_kept joined n dir f refl;
                number = joined.number;
                place = joined.place;
                first = omega (arith, joined.first, k.many);
                behind = omega (arith, x.inside, many);
                room = kept_room W (length dir) (i + 1) (pos + e) (at + m) (drop f (olds_of n dir)) fits.in_words (omega (arith, fits.entry)) (sym w);
                ends = omega (arith, took_size, took_inside);
              };
              small = λ z. fits.small;
            }

  -- ---- the front
  kept_is : kept older newer W n dir ≡ kept_front (common older newer) (olds_of n dir)
  unfolding keeps
  kept_is = refl

  pub kept_in : kept older newer W n dir ≤ n
  kept_in = rw kept_is (omega (arith, front_count (common older newer) (olds_of n dir), many))

  kept_small : kept_size older newer W n dir ≤ length newer
  kept_small = rw kept_is (omega (arith, front_size (common older newer) (olds_of n dir), common_le_newer older newer))

  rest_is : behind older newer W n dir ≡ behind_front head_at block_at (common_end older newer) (length older) (olds_of n dir) (kept older newer W n dir) newer
  unfolding rest
  rest_is = refl

  said_is : said older newer W n dir ≡ judge W (length dir) (kept older newer W n dir) (kept_size older newer W n dir) (kept_words older newer W n dir) (map_run size (behind older newer W n dir))
  unfolding judge_again
  said_is = refl

  pub at_start : kept older newer W n dir ≡ 0 → kept_size older newer W n dir ≡ 0
  unfolding old_sizes
  at_start z = ap (λ (x : ℕ). old_sizes (take x (olds_of n dir))) z

  pub at_zero : kept older newer W n dir ≡ 0 → kept_counter older newer W n dir ≡ 0
  unfolding begins
  at_zero z = ap (λ (x : ℕ). begins x (olds_of n dir)) z

  front_run : (k : ℕ) → k < length (olds_of n dir) → behind_front head_at block_at (common_end older newer) (length older) (olds_of n dir) k newer ≡ onward older newer W n dir k (old_sizes (take k (olds_of n dir))) (begins k (olds_of n dir))
  unfolding begins
  front_run zero l = refl
  front_run (suc k) l = behind_some head_at block_at laws c T os newer (suc k) (omega arith) l

  front_dry : kept older newer W n dir < n → Dry older newer W n dir (kept older newer W n dir) (kept_size older newer W n dir) (kept_words older newer W n dir) (kept_counter older newer W n dir) 1
  unfolding read_then read_size read_words
  front_dry l =
      let r : behind older newer W n dir ≡ onward older newer W n dir (kept older newer W n dir) (kept_size older newer W n dir) (kept_counter older newer W n dir) = rest_is ∙ front_run (kept older newer W n dir) (omega (arith, many)) in
      record {
        fs = [];
        run = r;
        verdict = said_is ∙ ap (λ (x : Run Source). judge W (length dir) (kept older newer W n dir) (kept_size older newer W n dir) (kept_words older newer W n dir) (map_run size x)) r;
        number = sym (add-zero (kept older newer W n dir));
        place = sym (add-zero (kept_size older newer W n dir));
        first = sym (add-zero (kept_words older newer W n dir));
        start = at_start;
        begin = at_zero;
        inside = kept_small;
        from = omega (arith, g.chained.two);
        passed = passed_first (olds_of n dir) (length older - (length newer - kept_size older newer W n dir));
        in_words = omega (arith, words_split (kept older newer W n dir) (olds_of n dir), g.chained.in_words);
        in_dir = omega (arith, g.chained.joined.inside);
      }

  module _ (k start first begin : ℕ) (f : FrontIs (common older newer) (olds_of n dir) k start first begin) where
    pub count_is : k ≡ kept older newer W n dir
    count_is = f.kept ∙ sym kept_is

    pub start_is : start ≡ kept_size older newer W n dir
    start_is = f.size ∙ ap (λ (x : ℕ). old_sizes (take x (olds_of n dir))) count_is

    pub first_is : first ≡ kept_words older newer W n dir
    first_is = f.words ∙ ap (λ (x : ℕ). old_words (take x (olds_of n dir))) count_is

    pub begin_is : begin ≡ kept_counter older newer W n dir
    begin_is = f.begin ∙ ap (λ (x : ℕ). begins x (olds_of n dir)) count_is

    pub dry_first : (k ≡ n → ⊥) → Dry older newer W n dir k start first begin 1
    dry_first z =
        let l : kept older newer W n dir < n = below z in
        subst (λ (x : ℕ). Dry older newer W n dir x start first begin 1) (sym count_is)
        (subst (λ (x : ℕ). Dry older newer W n dir (kept older newer W n dir) x first begin 1) (sym start_is)
        (subst (λ (x : ℕ). Dry older newer W n dir (kept older newer W n dir) (kept_size older newer W n dir) x begin 1) (sym first_is)
        (subst (λ (x : ℕ). Dry older newer W n dir (kept older newer W n dir) (kept_size older newer W n dir) (kept_words older newer W n dir) x 1) (sym begin_is) (front_dry l))))
      where
        below : (k ≡ n → ⊥) → kept older newer W n dir < n
        below z = omega (arith, kept_in, count_is)

    pub all_kept : k ≡ n → Planned older newer W n dir k start first n
    all_kept z =
        let q : kept older newer W n dir ≡ n = sym count_is ∙ z in
        let s : Settled W (length dir) (length newer) (said older newer W n dir) (behind older newer W n dir) n dir n (kept_size older newer W n dir) (kept_words older newer W n dir) n (kept_size older newer W n dir) (kept_words older newer W n dir) n =
        settled_all head_at block_at laws W (common_end older newer) (length older) n dir newer (said older newer W n dir) (behind older newer W n dir) (kept_size older newer W n dir) (kept_words older newer W n dir) g.chained
        (said_is ∙ ap (λ (x : ℕ). judge W (length dir) x (kept_size older newer W n dir) (kept_words older newer W n dir) (map_run size (behind older newer W n dir))) q)
        (rest_is ∙ ap (λ (x : ℕ). behind_front head_at block_at (common_end older newer) (length older) (olds_of n dir) x newer) q)
        kept_small
        (ap (λ (x : ℕ). old_words (take x (olds_of n dir))) q) in
        let s2 : Settled W (length dir) (length newer) (said older newer W n dir) (behind older newer W n dir) n dir (kept older newer W n dir) (kept_size older newer W n dir) (kept_words older newer W n dir) k start first n =
        subst (λ (x : ℕ). Settled W (length dir) (length newer) (said older newer W n dir) (behind older newer W n dir) n dir x (kept_size older newer W n dir) (kept_words older newer W n dir) k start first n) (sym q)
        (subst (λ (x : ℕ). Settled W (length dir) (length newer) (said older newer W n dir) (behind older newer W n dir) n dir n (kept_size older newer W n dir) (kept_words older newer W n dir) x start first n) (sym z)
        (subst (λ (x : ℕ). Settled W (length dir) (length newer) (said older newer W n dir) (behind older newer W n dir) n dir n (kept_size older newer W n dir) (kept_words older newer W n dir) n x first n) (sym start_is)
        (subst (λ (x : ℕ). Settled W (length dir) (length newer) (said older newer W n dir) (behind older newer W n dir) n dir n (kept_size older newer W n dir) (kept_words older newer W n dir) n (kept_size older newer W n dir) x n) (sym first_is) s))) in
        record { settled = s2; small = λ l. absurd (omega (arith, count_is)) }

-- what is left of the text falls with each piece; the head may be empty as far as this goes, and is read once
pub falls : (len pos e i : ℕ) → pos + e ≤ len → (0 < i → 1 ≤ e) → len - (pos + e) + (1 - (i + 1)) < len - pos + (1 - i)
falls len pos e zero h f = omega arith
falls len pos e (suc i) h f = omega (arith, f (omega arith))

-- the words of a piece that has room end within the lent ones
pub follows_words : (older newer : List ℕ) (W n : ℕ) (dir : List ℕ) (i pos at d : ℕ) (r : Result ℕ ℕ) → Follows older newer W n dir i pos at d (Ok r) → at ≤ W
follows_words older newer W n dir i pos at d (Ok j) h = omega (arith, h.settled.room.in_words)
follows_words older newer W n dir i pos at d (Err j) h = h.in_words
