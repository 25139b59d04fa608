-- A block's node, or question 19: by the two tests of the count, as `finish_block` makes them.
-- Assumes nothing.
use mathlib.Core.Path.{◌≡◌, refl, ap, ◌∙◌}
use mathlib.Core.Bool.{Bool, true, false}
use mathlib.Core.List.{List, ◌∷◌, ◌++◌}
use Prim.Native.Nat.{ℕ, ◌+◌, ◌≤◌, ◌<◌}
use native.Mathlib.Omega.{arith}
use lib.Dec.{ltb}
use borrow.Author.Tests.{lt-ltb, le-ltb}
use Rattle.program.specs.Prog.{ret, fail}
use Rattle.records.specs.Words.{node}
use Rattle.records.specs.Kinds.{kind, Block}
use Rattle.grammar.specs.Lexer.{refuse}
use Rattle.grammar.specs.Body.{finish_block}

module _ (c l n over : ℕ) (acc term : List ℕ) where
  finish_by : (z y : Bool) → ltb n 65535 ≡ z → ltb 65535 n ≡ y → finish_block c l n over acc term ≡ elim z [ true ↦ ret (c ∷ node (kind Block) 0 (n + 1) (l ∷ (acc ++ term))) | false ↦ elim y [ true ↦ fail 19 over | false ↦ refuse 19 ] ]
  unfolding finish_block
  finish_by z y e t =
      ap (λ (x : Bool). elim x [ true ↦ ret (c ∷ node (kind Block) 0 (n + 1) (l ∷ (acc ++ term))) | false ↦ elim (ltb 65535 n) [ true ↦ fail 19 over | false ↦ refuse 19 ] ]) e ∙
      ap (λ (x : Bool). elim z [ true ↦ ret (c ∷ node (kind Block) 0 (n + 1) (l ∷ (acc ++ term))) | false ↦ elim x [ true ↦ fail 19 over | false ↦ refuse 19 ] ]) t

  pub finish_in : n < 65535 → finish_block c l n over acc term ≡ ret (c ∷ node (kind Block) 0 (n + 1) (l ∷ (acc ++ term)))
  finish_in h = finish_by true (ltb 65535 n) (lt-ltb n 65535 h) refl

  pub finish_over : 65535 < n → finish_block c l n over acc term ≡ fail 19 over
  finish_over h = finish_by false true (le-ltb n 65535 (omega arith)) (lt-ltb 65535 n h)

  pub finish_full : 65535 ≤ n → n ≤ 65535 → finish_block c l n over acc term ≡ refuse 19
  finish_full h k = finish_by false false (le-ltb n 65535 h) (le-ltb 65535 n k)
