-- What a sort or a form says of a kind: its number is its own, and each sort has its numbers.
-- Assumes nothing.
use Rattle.std.specs.Prelude.{◌≡◌, refl, Bool, true, false, ℕ, ltb, eqb}
use Rattle.std.proofs.Common.{sym, ap, ◌∙◌, arith, eqb-true}
use Rattle.std.proofs.Math.Option.{Option, none, some}
use Rattle.program.specs.Choice.{pick}
use Rattle.records.specs.Kinds.{Kind, kind, Func, Bin, Ret, Head, Block, Param}
use Rattle.trees.specs.Forms.{type, function, value, instruction, terminator, head, block, parameter, name, sort_of}
use Rattle.trees.specs.Steps.{kind_of}
use Rattle.theorem_trees.specs.Unique.{kind_of_lem}

-- no two kinds have one number
pub kind_own : (k l : Kind) → kind k ≡ kind l → k ≡ l
kind_own k l e = ap (λ (o : Option Kind). elim o [ some x ↦ x | none ↦ k ]) (sym (kind_of_lem k) ∙ ap kind_of e ∙ kind_of_lem l)

-- Only a block is of a block's sort.
block_number_lem : (a b c d e f g h : Bool) → pick a type (pick b function (pick c value (pick d instruction (pick e terminator (pick f head (pick g block (pick h parameter name))))))) ≡ block → g ≡ true
block_number_lem true b c d e f g h q = let z : ◌≡◌ {A = ℕ} 0 1 = cc in absurd (omega arith)
block_number_lem false true c d e f g h q = let z : ◌≡◌ {A = ℕ} 0 1 = cc in absurd (omega arith)
block_number_lem false false true d e f g h q = let z : ◌≡◌ {A = ℕ} 0 1 = cc in absurd (omega arith)
block_number_lem false false false true e f g h q = let z : ◌≡◌ {A = ℕ} 0 1 = cc in absurd (omega arith)
block_number_lem false false false false true f g h q = let z : ◌≡◌ {A = ℕ} 0 1 = cc in absurd (omega arith)
block_number_lem false false false false false true g h q = let z : ◌≡◌ {A = ℕ} 0 1 = cc in absurd (omega arith)
block_number_lem false false false false false false true h q = refl
block_number_lem false false false false false false false true q = let z : ◌≡◌ {A = ℕ} 0 1 = cc in absurd (omega arith)
block_number_lem false false false false false false false false q = let z : ◌≡◌ {A = ℕ} 0 1 = cc in absurd (omega arith)

pub block_kind : (k : Kind) → sort_of k ≡ block → k ≡ Block
unfolding sort_of
block_kind k q =
    let x : ℕ = kind k in
    let g : eqb x (kind Block) ≡ true = block_number_lem (ltb x (kind Func)) (eqb x (kind Func)) (ltb x (kind Bin)) (ltb x (kind Ret)) (ltb x (kind Head)) (eqb x (kind Head)) (eqb x (kind Block)) (eqb x (kind Param)) q in
    kind_own k Block (eqb-true (kind k) (kind Block) g)
