-- A node of a kind stands inside the words: past them every word is 0, and no kind.
-- Assumes nothing.
use mathlib.Core.Path.{◌≡◌, refl, ap}
use mathlib.Core.Bool.{Bool, true, false}
use mathlib.Core.List.{List}
use Prim.Native.Nat.{ℕ, ◌≤◌, ◌<◌}
use native.Mathlib.Omega.{arith}
use lib.Dec.{ltb}
use lib.ListN.{length, get_or-eq_default}
use borrow.Author.Tests.{ltb-true, ltb-false}
use Rattle.trees.specs.Steps.{kind_in, word_at}

pub no_kind : (ws : List ℕ) (at : ℕ) → length ws ≤ at → kind_in (word_at ws at) ≡ 0
no_kind ws at h = ap kind_in (get_or-eq_default ws 0 h)

pub kind_inside : (ws : List ℕ) (at : ℕ) → 0 < kind_in (word_at ws at) → at < length ws
kind_inside ws at l = go (ltb at (length ws)) refl
  where
    go : (t : Bool) → ltb at (length ws) ≡ t → at < length ws
    go true f = ltb-true _ _ f
    go false f = absurd (omega (arith, no_kind ws at (ltb-false _ _ f), l))
