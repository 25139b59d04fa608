-- What two texts have in common: their prefix `common` is in front of both, and the end of length `common_end` is both's end.
-- By induction on the texts; the end is the prefix of the reversed rests.
-- Assumes nothing.
use Rattle.std.specs.Prelude.{◌≡◌, refl, Bool, true, false, List, [], ◌∷◌, ◌++◌, reverse, ℕ, ◌+◌, ◌-◌, ◌≤◌, eqb, length, drop}
use Rattle.std.proofs.Common.{sym, ap, ◌∙◌, arith, length-append, length-drop, drop-drop, eqb-true}
use Rattle.std.proofs.lemmas.List.{reverse-reverse, reverse-append, length-reverse}
use Rattle.std.proofs.Math.Seq.{drop-append_seam}
use Rattle.records.specs.Pieces.{common, common_end, end_behind}

-- The common prefix.
pub common_older : (xs ys : List ℕ) → xs ≡ common xs ys ++ drop (length (common xs ys)) xs
unfolding common
common_older [] ys = refl
common_older (x ∷ xs) [] = refl
common_older (x ∷ xs) (y ∷ ys) = go (eqb x y) refl (common_older xs ys)
  where
    go : (b : Bool) → eqb x y ≡ b → xs ≡ common xs ys ++ drop (length (common xs ys)) xs → x ∷ xs ≡ common (x ∷ xs) (y ∷ ys) ++ drop (length (common (x ∷ xs) (y ∷ ys))) (x ∷ xs)
    go true p ih = rw (p, common) (ap {B = List ℕ} (λ r. x ∷ r) ih)
    go false p ih = rw (p, common)

pub common_newer : (xs ys : List ℕ) → ys ≡ common xs ys ++ drop (length (common xs ys)) ys
unfolding common
common_newer [] ys = refl
common_newer (x ∷ xs) [] = refl
common_newer (x ∷ xs) (y ∷ ys) = go (eqb x y) refl (common_newer xs ys)
  where
    go : (b : Bool) → eqb x y ≡ b → ys ≡ common xs ys ++ drop (length (common xs ys)) ys → y ∷ ys ≡ common (x ∷ xs) (y ∷ ys) ++ drop (length (common (x ∷ xs) (y ∷ ys))) (y ∷ ys)
    go true p ih = let q : y ≡ x = sym (eqb-true x y p) in rw (p, common) (rw q (ap {B = List ℕ} (λ r. x ∷ r) ih))
    go false p ih = rw (p, common)

-- The common end.
pub common_le_older : (xs ys : List ℕ) → length (common xs ys) ≤ length xs
common_le_older xs ys = omega (arith, ap length (common_older xs ys), length-append (common xs ys) (drop (length (common xs ys)) xs))

pub common_le_newer : (xs ys : List ℕ) → length (common xs ys) ≤ length ys
common_le_newer xs ys = omega (arith, ap length (common_newer xs ys), length-append (common xs ys) (drop (length (common xs ys)) ys))

pub common_end_le : (older newer : List ℕ) → common_end older newer ≤ length older
unfolding common_end end_behind
common_end_le older newer =
    let a : ℕ = length (common older newer) in
    omega (arith, common_le_older (reverse (drop a older)) (reverse (drop a newer)), length-reverse (drop a older), length-drop a older)

-- A list whose reverse begins with P ends with P reversed.
reversed_end : (d : ℕ) (P zs : List ℕ) → d ≤ length P → reverse zs ≡ P ++ drop (length P) (reverse zs) → drop (length zs - d) zs ≡ drop (length P - d) (reverse P)
reversed_end d P zs h e =
    let s : List ℕ = drop (length P) (reverse zs) in
    let z : zs ≡ reverse s ++ reverse P = sym (reverse-reverse zs) ∙ ap reverse e ∙ reverse-append P s in
    let l : length zs ≡ length (reverse s) + length (reverse P) = ap length z ∙ length-append (reverse s) (reverse P) in
    let i : length zs - d ≡ length (reverse s) + (length P - d) = omega (arith, length-reverse P) in
    ap (λ (n : ℕ). drop n zs) i ∙ ap (drop (length (reverse s) + (length P - d))) z
    ∙ sym (drop-drop (length P - d) (length (reverse s)) (reverse s ++ reverse P)) ∙ ap (drop (length P - d)) (drop-append_seam (reverse s) (reverse P))

ends_same : (d : ℕ) (xs ys : List ℕ) → d ≤ length (common (reverse xs) (reverse ys)) → drop (length xs - d) xs ≡ drop (length ys - d) ys
ends_same d xs ys h =
    let P : List ℕ = common (reverse xs) (reverse ys) in
    reversed_end d P xs h (common_older (reverse xs) (reverse ys)) ∙ sym (reversed_end d P ys h (common_newer (reverse xs) (reverse ys)))

pub common_end_same : (older newer : List ℕ) (d : ℕ) → d ≤ common_end older newer → drop (length older - d) older ≡ drop (length newer - d) newer
unfolding common_end end_behind
common_end_same older newer d h =
    let a : ℕ = length (common older newer) in
    let O : List ℕ = drop a older in
    let N : List ℕ = drop a newer in
    let lO : length O ≡ length older - a = length-drop a older in
    let lN : length N ≡ length newer - a = length-drop a newer in
    let sO : length older - d ≡ a + (length O - d) = omega (arith, common_le_older older newer, common_le_older (reverse O) (reverse N), length-reverse O) in
    let sN : length newer - d ≡ a + (length N - d) = omega (arith, common_le_newer older newer, common_le_newer (reverse O) (reverse N), length-reverse N) in
    ap (λ (n : ℕ). drop n older) sO ∙ sym (drop-drop (length O - d) a older) ∙ ends_same d O N h ∙ drop-drop (length N - d) a newer ∙ ap (λ (n : ℕ). drop n newer) (sym sN)
