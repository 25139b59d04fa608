-- Twice what is left, compared with the divisor; the even one at a tie.
-- Assumes nothing.
use mathlib.Core.Bool.{Bool, true, false}
use mathlib.Core.Path.{◌≡◌, refl, sym}
use Prim.Native.Nat.{ℕ, ◌+◌, ◌*◌, ◌%◌, ◌<◌, ◌≤◌}
use native.Mathlib.Omega.{arith}
use lib.Dec.{eqb}
use borrow.Author.Tests.{lt-ltb, le-ltb, eq-eqb, ne_eqb, eqb-true, eqb-false}
use Rattle.std.proofs.Common.{Less, Equal, Greater}
use Rattle.std.proofs.lemmas.Cmp.{ranked}
use Rattle.program.specs.Choice.{pick}
use Rattle.grammar.specs.Numbers.{rounded, is_odd}
use Rattle.number_decimals.proofs.Parts.rounded.Goals as goal

module _ (q r d : ℕ) where
  below : 2 * r < d → q ≡ rounded q r d
  unfolding rounded
  below h = let l : 2 * r ≤ d = omega arith in let n = ne_eqb d (2 * r) (λ e. omega arith) in simp (le-ltb d (2 * r) l, n)

  tie : 2 * r ≡ d → q + q % 2 ≡ rounded q r d
  unfolding rounded is_odd
  tie e = simp (le-ltb d (2 * r) (omega arith), eq-eqb d (2 * r) (sym e)) (go (eqb (q % 2) 1) refl)
    where
      go : (t : Bool) → eqb (q % 2) 1 ≡ t → q + q % 2 ≡ pick t (q + 1) q
      go true h = let k = eqb-true (q % 2) 1 h in omega arith
      go false h = let k = eqb-false (q % 2) 1 h in omega arith

  above : d < 2 * r → q + 1 ≡ rounded q r d
  unfolding rounded
  above h = simp (lt-ltb d (2 * r) h)

pub returns-in-Less : goal.returns-in-Less
returns-in-Less c = (below _ _ _ (ranked _ _ Less c.in-Less.ensures), omega arith)

pub returns-in-Equal : goal.returns-in-Equal
returns-in-Equal c = (tie _ _ _ (ranked _ _ Equal c.in-Equal.ensures), omega arith)

pub returns-in-Greater : goal.returns-in-Greater
returns-in-Greater c = (above _ _ _ (ranked _ _ Greater c.in-Greater.ensures), omega arith)
