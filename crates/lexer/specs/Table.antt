-- Tables of keywords as the code has them.
-- Assumes nothing.
use Rattle.std.specs.Prelude.{Bool, true, false, List, [], ◌∷◌, ℕ, map}
use Rattle.std.proofs.Common.{Bor}

-- 01: "constant tables": the words of a table, each a byte string
abbrev pub keywords_of : List (Bor (List ℕ)) → List (List ℕ)
keywords_of table = map (λ word. word.now) table

-- no word of the table is empty
abbrev pub full : List (List ℕ) → Bool
full [] = true
full ([] ∷ ks) = false
full ((x ∷ k) ∷ ks) = full ks
