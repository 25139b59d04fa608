-- Any two programs whose counters stay in their bounds make a reader of pieces that demand 3 holds for.
-- What a run looks at follows from the program alone (`program`: `Local`): what it took, and the word that stands behind.
-- Assumes nothing.
use Rattle.std.specs.Prelude.{◌≡◌, refl, true, not, List, ◌++◌, ℕ, ◌+◌, ◌≤◌, length, drop}
use Rattle.std.proofs.Math.Path.{ap}
use Rattle.std.proofs.Common.{◌∙◌, arith}
use Rattle.std.proofs.Math.Nat.{zero-add}
use Rattle.program.specs.Prog.{Prog, Res, ok, closed, no_at, run, ends}
use Rattle.program.specs.Local.{mono, local, closed_range, closed_local, and_left}
use Rattle.records.specs.Limits.{counter_limit}
use Rattle.records.specs.Pieces.{head, block, tail, leads, addrspace, closes}
use Rattle.theorem_edits.specs.Law.{Grammar}
use Rattle.records.specs.Piece.{head_of, block_of, head_read, block_read}

pub block_is : (r : Res (List ℕ)) (e d : ℕ) (ws : List ℕ) → block_of r ≡ block e d ws → (l : List ℕ) × (r ≡ ok l e)
unfolding block_of
block_is (ok l j) e d ws h = (l, cc)
block_is (closed l j) e d ws h = let z : ◌≡◌ {A = ℕ} 0 1 = cc in absurd (omega arith)
block_is (no_at q p) e d ws h = let z : ◌≡◌ {A = ℕ} 0 1 = cc in absurd (omega arith)

pub tail_is : (r : Res (List ℕ)) (e : ℕ) → block_of r ≡ tail e → (l : List ℕ) × (r ≡ closed l e)
unfolding block_of
tail_is (ok l j) e h = let z : ◌≡◌ {A = ℕ} 0 1 = cc in absurd (omega arith)
tail_is (closed l j) e h = (l, cc)
tail_is (no_at q p) e h = let z : ◌≡◌ {A = ℕ} 0 1 = cc in absurd (omega arith)

pub head_is : (r : Res (List ℕ)) (e d : ℕ) (ws : List ℕ) → head_of r ≡ head e d ws → (l : List ℕ) × (r ≡ closed l e)
unfolding head_of
head_is (ok l j) e d ws h = let z : ◌≡◌ {A = ℕ} 0 1 = cc in absurd (omega arith)
head_is (closed l j) e d ws h = (l, cc)
head_is (no_at q p) e d ws h = let z : ◌≡◌ {A = ℕ} 0 1 = cc in absurd (omega arith)

-- Any two programs whose block moves on and whose counters stay in their bounds make a reader of pieces that demand 3 holds for.
module _ (headP : Prog (List ℕ)) (blockP : ℕ → Prog (List ℕ)) (moves : (c : ℕ) (s : List ℕ) (e : ℕ) (l : List ℕ) → run (blockP c) 0 s ≡ ok l e → 1 ≤ e)
    (head_low : (s : List ℕ) (e d : ℕ) (ws : List ℕ) → head_read headP s ≡ head e d ws → d ≤ counter_limit)
    (block_low : (c : ℕ) (s : List ℕ) (e d : ℕ) (ws : List ℕ) → block_read blockP c s ≡ block e d ws → c ≤ counter_limit → d ≤ counter_limit) where
  block_fits : (c : ℕ) (s : List ℕ) (e : ℕ) (l : List ℕ) → run (blockP c) 0 s ≡ ok l e → e ≤ length s
  block_fits c s e l h = let r : (0 ≤ e) × (e ≤ 0 + length s) = mono (blockP c) 0 e s (rw h refl) in omega arith

  block_local : (c : ℕ) (xs ys zs : List ℕ) (e : ℕ) (l : List ℕ) → run (blockP c) 0 (xs ++ ys) ≡ ok l e → closes (drop e xs) ≡ true → run (blockP c) 0 (xs ++ zs) ≡ run (blockP c) 0 (xs ++ ys)
  unfolding closes
  block_local c xs ys zs e l h k = local (blockP c) 0 e xs ys zs (rw (h, zero-add e)) (and_left (ends (drop e xs)) (not (leads addrspace (drop e xs))) k)

  pub grammar : Grammar (head_read headP) (block_read blockP)
  unfolding head_read block_read
  grammar = record {
    head_fits = λ s e d ws h. let o = head_is (run headP 0 s) e d ws h in omega (arith, (closed_range headP 0 e s o.0 o.1).1);
    block_moves = λ c s e d ws h. let o = block_is (run (blockP c) 0 s) e d ws h in moves c s e o.0 o.1;
    block_fits = λ c s e d ws h. let o = block_is (run (blockP c) 0 s) e d ws h in block_fits c s e o.0 o.1;
    tail_fits = λ c s e h. let o = tail_is (run (blockP c) 0 s) e h in omega (arith, (closed_range (blockP c) 0 e s o.0 o.1).1);
    head_local = λ xs ys zs e d ws h l. let o = head_is (run headP 0 (xs ++ ys)) e d ws h in ap head_of (closed_local headP xs ys zs e o.0 o.1 (omega arith)) ∙ h;
    block_local = λ c xs ys zs e d ws h a k. let o = block_is (run (blockP c) 0 (xs ++ ys)) e d ws h in ap block_of (block_local c xs ys zs e o.0 o.1 k) ∙ h;
    tail_local = λ c xs ys zs e h l. let o = tail_is (run (blockP c) 0 (xs ++ ys)) e h in ap block_of (closed_local (blockP c) xs ys zs e o.0 o.1 (omega arith)) ∙ h;
    head_low = head_low;
    block_low = block_low;
  }
