-- A turn of the search for a keyword in a table: it is the word at k, it is not, or there is no word at k any more. `k + rank w (drop k table)` is
-- what the search gives from k on.
-- Assumes nothing.
use mathlib.Core.Path.{◌≡◌, ap, ◌∙◌}
use mathlib.Core.Bool.{Bool, true, false}
use mathlib.Core.List.{List, [], ◌∷◌}
use Prim.Native.Nat.{ℕ, suc, ◌+◌, ◌<◌, ◌≤◌}
use native.Mathlib.Nat.{add-zero}
use native.Mathlib.Numerals.{add-one}
use native.Mathlib.Omega.{arith}
use lib.ListN.{length, get_or, drop, drop_of_length-le}
use lib.Seq.{drop-cons}
use Rattle.grammar.specs.Lexer.{same_word, rank}

module _ (w : List ℕ) (table : List (List ℕ)) (k : ℕ) where
  abbrev from_here : List (List ℕ) → ℕ
  from_here words = k + rank w words

  turn : (x : List ℕ) (words : List (List ℕ)) (z : Bool) → same_word w x ≡ z → from_here (x ∷ words) ≡ k + elim z [ true ↦ 0 | false ↦ suc (rank w words) ]
  unfolding rank
  turn x words z e = ap (λ (z : Bool). k + elim z [ true ↦ 0 | false ↦ suc (rank w words) ]) e

  pub rank_hit : k < length table → same_word w (get_or table k []) ≡ true → k + rank w (drop k table) ≡ k
  rank_hit h e = ap from_here (drop-cons table k [] h) ∙ turn _ _ true e ∙ add-zero k

  pub rank_miss : k < length table → same_word w (get_or table k []) ≡ false → k + rank w (drop k table) ≡ k + 1 + rank w (drop (k + 1) table)
  rank_miss h e = rw (add-one k) (ap from_here (drop-cons table k [] h) ∙ turn _ _ false e ∙ omega arith)

  pub rank_out : length table ≤ k → k + rank w (drop k table) ≡ k
  unfolding rank
  rank_out h = ap from_here (drop_of_length-le table h) ∙ add-zero k
