-- A full reading, piece by piece, over any reader of one piece: how far the code has come.
-- Each law unfolds the definition once, at what the reader of a piece gave.
-- Assumes nothing.
use mathlib.Core.Path.{◌≡◌, refl, ap, ◌∙◌}
use mathlib.Core.List.{List, [], ◌∷◌, ◌++◌}
use Prim.Native.Nat.{ℕ, suc, ◌+◌}
use native.Mathlib.Numerals.{add-one}
use native.Mathlib.Omega.{arith}
use lib.ListN.{length, length-append}
use Rattle.records.specs.Pieces.{Run, done, stop, item, map_run, Verdict, fine, refused, judge}
use Rattle.piece_room.specs.Rooms.{room_of, after_room}
use Rattle.reread_kept.specs.Place.{Taken, full_then, read_size, read_words}
use Rattle.std.specs.Prelude.{Ok, Err}
use Rattle.piece_room.proofs.Judge.{judge_item}
use Rattle.reread_kept.proofs.Place.{full_snoc, size_snoc, words_snoc}

-- ---- how far a full reading has come
pub record ReadFull (W D : ℕ) (v : Verdict) (whole : Run (List ℕ)) (fs : List Taken) (r : Run (List ℕ)) (i pos at : ℕ) : Type 0 where
  pub run : whole ≡ full_then fs r
  pub verdict : v ≡ judge W D i pos at (map_run length r)
  pub number : i ≡ length fs
  pub place : pos ≡ read_size fs
  pub first : at ≡ length (read_words fs)

pub full_first : (W D : ℕ) (whole : Run (List ℕ)) → ReadFull W D (judge W D 0 0 0 (map_run length whole)) whole [] whole 0 0 0
unfolding full_then read_size read_words
full_first W D whole = record { run = refl; verdict = refl; number = refl; place = refl; first = refl }

module _ {W D : ℕ} {v : Verdict} {whole : Run (List ℕ)} {fs : List Taken} {r : Run (List ℕ)} {i pos at : ℕ} (g : ReadFull W D v whole fs r i pos at) where
  full_turn : (e d : ℕ) (ws : List ℕ) (r2 : Run (List ℕ)) → r ≡ item e d ws r2 → v ≡ after_room (room_of W D i at (length ws)) (pos + e) (judge W D (suc i) (pos + e) (at + length ws) (map_run length r2))
  unfolding map_run
  full_turn e d ws r2 h = g.verdict ∙ rw h (judge_item W D i at (length ws) pos e d (map_run length r2))

  pub full_more : (e d : ℕ) (ws : List ℕ) (r2 : Run (List ℕ)) → r ≡ item e d ws r2 → room_of W D i at (length ws) ≡ Ok tt
      → ReadFull W D v whole (fs ++ ((e, d, ws) ∷ [])) r2 (i + 1) (pos + e) (at + length ws)
  unfolding after_room
  full_more e d ws r2 h f =
      record {
        run = g.run ∙ ap (full_then fs) h ∙ full_snoc fs e d ws r2;
        verdict = full_turn e d ws r2 h ∙ rw (f, add-one i);
        number = omega (arith, g.number, length-append fs ((e, d, ws) ∷ []));
        place = omega (arith, g.place, size_snoc fs e d ws);
        first = omega (arith, g.first, ap length (words_snoc fs e d ws), length-append (read_words fs) ws);
      }

  pub full_no_room : (e d : ℕ) (ws : List ℕ) (r2 : Run (List ℕ)) (q : ℕ) → r ≡ item e d ws r2 → room_of W D i at (length ws) ≡ Err q → v ≡ refused q (pos + e)
  unfolding after_room
  full_no_room e d ws r2 q h f = full_turn e d ws r2 h ∙ rw f

  pub full_refuses : (q p : ℕ) → r ≡ stop q p → v ≡ refused q (pos + p)
  unfolding map_run judge
  full_refuses q p h = g.verdict ∙ rw h

  pub full_all : r ≡ done → (whole ≡ full_then fs done) × (v ≡ fine)
  unfolding map_run judge
  full_all h = (g.run ∙ ap (full_then fs) h, g.verdict ∙ rw h)
