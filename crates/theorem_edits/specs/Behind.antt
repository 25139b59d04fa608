-- "Text behind `}` changes nothing in a full reading but numbers 1 and 2."
-- By induction on the pieces: the tail's closing byte is no letter, digit or `_`, so every piece before it is settled inside the text up to there,
-- and the tail looks no further than that byte.
-- Assumes nothing.
use Rattle.std.proofs.Math.Path.{◌≡◌, refl, ap}
use Rattle.std.proofs.Common.{◌∙◌, arith, length-append}
use Rattle.std.specs.Prelude.{Bool, List, ◌++◌}
use Rattle.std.proofs.Math.Bool.{true, false}
use Prim.Native.Nat.{ℕ, zero, suc, ◌+◌, ◌≤◌, ◌<◌}
use Rattle.std.proofs.Math.Nat.{zero-add}
use Rattle.std.proofs.Math.ListN.{length, drop, length-drop}
use Rattle.std.proofs.Math.Seq.{drop-append-le}
use Rattle.program.specs.Prog.{Prog, ok, run, ends}
use Rattle.program.specs.Local.{local, closed_local, closed_ends, ends_drop}
use Rattle.records.specs.Pieces.{HeadRead, head, bad_head, BlockRead, block, tail, bad_block, Run, done, stop, item, blocks_in, blocks, reading, text_asked, fine, full_verdict, full}
use Rattle.records.specs.Piece.{head_of, block_of, head_read, block_read}
use Rattle.grammar.specs.Body.{parse_head, parse_block}
use Rattle.grammar.specs.Function.{head_at, block_at, reading_of}
use Rattle.theorem_edits.specs.Programs.{block_is, tail_is, head_is}
use Rattle.theorem_edits.specs.Again.{block_moves}

-- how many bytes the pieces of a run take
unfoldable pub extent : {A : Type 0} → Run A → ℕ
extent done = 0
extent (stop q p) = 0
extent (item e c a r) = e + extent r

-- no piece of it is refused
unfoldable pub is_whole : {A : Type 0} → Run A → Bool
is_whole done = true
is_whole (stop q p) = false
is_whole (item e c a r) = is_whole r

module _ (headP : Prog (List ℕ)) (blockP : ℕ → Prog (List ℕ)) (moves : (c : ℕ) (s : List ℕ) (e : ℕ) (l : List ℕ) → run (blockP c) 0 s ≡ ok l e → 1 ≤ e) where
  abbrev pieces : (n c : ℕ) → List ℕ → Run (List ℕ)
  pieces n c s = blocks_in (head_read headP) (block_read blockP) n c s

  -- What is left behind a block has turns enough.
  fewer : (n m c : ℕ) (xs ys l : List ℕ) → run (blockP c) 0 (xs ++ ys) ≡ ok l m → m ≤ length xs → length (xs ++ ys) < suc n → length (drop m xs ++ ys) < n
  fewer n m c xs ys l h k t =
      omega (arith, moves c (xs ++ ys) m l h, length-append (drop m xs) ys, length-append xs ys, length-drop m xs)

  -- The text up to the tail's closing byte settles where a word in front of it ends.
  blocks_end : (n c : ℕ) (xs ys : List ℕ) → length (xs ++ ys) < n → is_whole (pieces n c (xs ++ ys)) ≡ true → extent (pieces n c (xs ++ ys)) ≡ length xs → ends xs ≡ true
  unfolding blocks_in is_whole extent block_read
  blocks_end zero c xs ys l w e = absurd (omega arith)
  blocks_end (suc n) c xs ys l w e = go (block_read blockP c (xs ++ ys)) refl λ m d. blocks_end n d (drop m xs) ys
    where
      go : (r : BlockRead) → block_read blockP c (xs ++ ys) ≡ r
          → ((m d : ℕ) → length (drop m xs ++ ys) < n → is_whole (pieces n d (drop m xs ++ ys)) ≡ true → extent (pieces n d (drop m xs ++ ys)) ≡ length (drop m xs) → ends (drop m xs) ≡ true)
          → ends xs ≡ true
      go (block m d ws) t again =
          let v : is_whole (pieces n d (drop m (xs ++ ys))) ≡ true = rw (t, is_whole) at w in
          let u : m + extent (pieces n d (drop m (xs ++ ys))) ≡ length xs = rw (t, extent) at e in
          let o : drop m (xs ++ ys) ≡ drop m xs ++ ys = drop-append-le m xs ys (omega arith) in
          let v2 : is_whole (pieces n d (drop m xs ++ ys)) ≡ true = rw o at v in
          let u2 : m + extent (pieces n d (drop m xs ++ ys)) ≡ length xs = rw o at u in
          let b = block_is (run (blockP c) 0 (xs ++ ys)) m d ws t in
          ends_drop m xs (again m d (fewer n m c xs ys b.0 b.1 (omega arith) l) v2 (omega (arith, u2, length-drop m xs)))
      go (tail m) t again =
          let u : m + 0 ≡ length xs = rw (t, extent) at e in
          let b = tail_is (run (blockP c) 0 (xs ++ ys)) m t in
          closed_ends (blockP c) xs ys m b.0 b.1 (omega arith)
      go (bad_block q p) t again = let v : ◌≡◌ {A = Bool} false true = rw (t, is_whole) at w in let z : ◌≡◌ {A = ℕ} 0 1 = cc in absurd (omega arith)

  -- Blocks and tail.
  blocks_same : (n m c : ℕ) (xs ys zs : List ℕ) → length (xs ++ ys) < n → length (xs ++ zs) < m → is_whole (pieces n c (xs ++ ys)) ≡ true → extent (pieces n c (xs ++ ys)) ≡ length xs
      → pieces m c (xs ++ zs) ≡ pieces n c (xs ++ ys)
  unfolding blocks_in is_whole extent block_read
  blocks_same zero m c xs ys zs l k w e = absurd (omega arith)
  blocks_same (suc n) zero c xs ys zs l k w e = absurd (omega arith)
  blocks_same (suc n) (suc m) c xs ys zs l k w e = go (block_read blockP c (xs ++ ys)) refl λ j d. blocks_same n m d (drop j xs) ys zs
    where
      go : (r : BlockRead) → block_read blockP c (xs ++ ys) ≡ r
          → ((j d : ℕ) → length (drop j xs ++ ys) < n → length (drop j xs ++ zs) < m → is_whole (pieces n d (drop j xs ++ ys)) ≡ true → extent (pieces n d (drop j xs ++ ys)) ≡ length (drop j xs)
          → pieces m d (drop j xs ++ zs) ≡ pieces n d (drop j xs ++ ys))
          → pieces (suc m) c (xs ++ zs) ≡ pieces (suc n) c (xs ++ ys)
      go (block j d ws) t again =
          let v : is_whole (pieces n d (drop j (xs ++ ys))) ≡ true = rw (t, is_whole) at w in
          let u : j + extent (pieces n d (drop j (xs ++ ys))) ≡ length xs = rw (t, extent) at e in
          let o : drop j (xs ++ ys) ≡ drop j xs ++ ys = drop-append-le j xs ys (omega arith) in
          let o2 : drop j (xs ++ zs) ≡ drop j xs ++ zs = drop-append-le j xs zs (omega arith) in
          let v2 : is_whole (pieces n d (drop j xs ++ ys)) ≡ true = rw o at v in
          let u2 : j + extent (pieces n d (drop j xs ++ ys)) ≡ length xs = rw o at u in
          let x : extent (pieces n d (drop j xs ++ ys)) ≡ length (drop j xs) = omega (arith, u2, length-drop j xs) in
          let b = block_is (run (blockP c) 0 (xs ++ ys)) j d ws t in
          let f : length (drop j xs ++ ys) < n = fewer n j c xs ys b.0 b.1 (omega arith) l in
          let r : run (blockP c) 0 (xs ++ zs) ≡ run (blockP c) 0 (xs ++ ys) = local (blockP c) 0 j xs ys zs (rw (b.1, zero-add j)) (blocks_end n d (drop j xs) ys f v2 x) in
          let g : length (drop j xs ++ zs) < m = fewer m j c xs zs b.0 (r ∙ b.1) (omega arith) k in
          let t2 : block_read blockP c (xs ++ zs) ≡ block j d ws = ap block_of r ∙ t in
          let y : pieces m d (drop j xs ++ zs) ≡ pieces n d (drop j xs ++ ys) = again j d f g v2 x in
          rw (blocks_in, t, t2, o, o2) (ap (item j c ws) y)
      go (tail j) t again =
          let u : j + 0 ≡ length xs = rw (t, extent) at e in
          let b = tail_is (run (blockP c) 0 (xs ++ ys)) j t in
          let t2 : block_read blockP c (xs ++ zs) ≡ tail j = ap block_of (closed_local (blockP c) xs ys zs j b.0 b.1 (omega arith)) ∙ t in
          rw (blocks_in, t, t2)
      go (bad_block q p) t again = let v : ◌≡◌ {A = Bool} false true = rw (t, is_whole) at w in let z : ◌≡◌ {A = ℕ} 0 1 = cc in absurd (omega arith)

  -- The whole reading.
  reading_same : (xs ys zs : List ℕ) → is_whole (reading (head_read headP) (block_read blockP) (xs ++ ys)) ≡ true → extent (reading (head_read headP) (block_read blockP) (xs ++ ys)) ≡ length xs
      → reading (head_read headP) (block_read blockP) (xs ++ zs) ≡ reading (head_read headP) (block_read blockP) (xs ++ ys)
  unfolding reading blocks is_whole extent head_read
  reading_same xs ys zs w e = go (head_read headP (xs ++ ys)) refl
    where
      go : (r : HeadRead) → head_read headP (xs ++ ys) ≡ r → reading (head_read headP) (block_read blockP) (xs ++ zs) ≡ reading (head_read headP) (block_read blockP) (xs ++ ys)
      go (head j d ws) t =
          let v : is_whole (blocks (head_read headP) (block_read blockP) d (drop j (xs ++ ys))) ≡ true = rw (t, is_whole) at w in
          let u : j + extent (blocks (head_read headP) (block_read blockP) d (drop j (xs ++ ys))) ≡ length xs = rw (t, extent) at e in
          let o : drop j (xs ++ ys) ≡ drop j xs ++ ys = drop-append-le j xs ys (omega arith) in
          let o2 : drop j (xs ++ zs) ≡ drop j xs ++ zs = drop-append-le j xs zs (omega arith) in
          let v2 : is_whole (pieces (suc (length (drop j xs ++ ys))) d (drop j xs ++ ys)) ≡ true = rw o at v in
          let u2 : j + extent (pieces (suc (length (drop j xs ++ ys))) d (drop j xs ++ ys)) ≡ length xs = rw o at u in
          let b = head_is (run headP 0 (xs ++ ys)) j d ws t in
          let t2 : head_read headP (xs ++ zs) ≡ head j d ws = ap head_of (closed_local headP xs ys zs j b.0 b.1 (omega arith)) ∙ t in
          let y : pieces (suc (length (drop j xs ++ zs))) d (drop j xs ++ zs) ≡ pieces (suc (length (drop j xs ++ ys))) d (drop j xs ++ ys) =
          blocks_same (suc (length (drop j xs ++ ys))) (suc (length (drop j xs ++ zs))) d (drop j xs) ys zs (omega arith) (omega arith) v2 (omega (arith, u2, length-drop j xs)) in
          rw (reading, t, t2, o, o2) (ap (item j 0 ws) y)
      go (bad_head q p) t = let v : ◌≡◌ {A = Bool} false true = rw (t, is_whole) at w in let z : ◌≡◌ {A = ℕ} 0 1 = cc in absurd (omega arith)

-- A function whose closing brace ends xs reads the same whatever stands behind it, where questions 1 and 2 let both texts through.
pub text_behind : (W D : ℕ) (xs ys zs : List ℕ) → is_whole (reading head_at block_at (xs ++ ys)) ≡ true → extent (reading head_at block_at (xs ++ ys)) ≡ length xs
    → text_asked (xs ++ ys) ≡ fine → text_asked (xs ++ zs) ≡ fine → reading_of W D (xs ++ zs) ≡ reading_of W D (xs ++ ys)
unfolding reading_of head_at block_at full full_verdict
text_behind W D xs ys zs w e a b = rw (reading_same parse_head parse_block block_moves xs ys zs w e, a, b)
